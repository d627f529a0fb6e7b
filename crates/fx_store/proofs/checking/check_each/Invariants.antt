use Rattle.std.proofs.Common.{◌≡◌, List, ◌++◌, take, drop}
use Rattle.fx_names.specs.declared.claim.Claim.{Claim}
use Rattle.fx_names.specs.Claims.{first_clash}
use Rattle.fx_names.specs.Holding.{HoldsClaims}
use Rattle.fx_store.proofs.checking.check_each.Given as goal

-- the claims so far are seen, and the first clash is that of what is left
abbrev pub invariant-loop-claim : goal.invariant-loop-claim
invariant-loop-claim l = record {
  seen : HoldsClaims l.seen (take l.claim-index l.new);
  left : (old kept : List Claim) → HoldsClaims l.gone old → HoldsClaims l.registry (old ++ kept) → first_clash kept l.new ≡ first_clash (kept ++ take l.claim-index l.new) (drop l.claim-index l.new);
}
