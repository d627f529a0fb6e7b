use Rattle.std.proofs.Common.{◌≡◌, None, List, ◌++◌, take, drop}
use Rattle.fx_names.specs.declared.claim.Claim.{Claim}
use Rattle.fx_names.specs.Claims.{first_clash}
use Rattle.fx_names.specs.Holding.{HoldsClaims}
use Rattle.fx_names.proofs.registry.Registry.take_all.Given as goal

-- what was taken is held, and what is left doesn't clash
abbrev pub invariant-loop-claim : goal.invariant-loop-claim
invariant-loop-claim l = (others : List Claim) → HoldsClaims l.fn.self others → first_clash others l.claims ≡ None → (HoldsClaims l.self (others ++ take l.claim-index l.claims) × (first_clash (others ++ take l.claim-index l.claims) (drop l.claim-index l.claims) ≡ None))
