use Rattle.std.proofs.Common.{◌≡◌, List, ◌++◌, take, drop}
use Rattle.fx_names.specs.declared.claim.Claim.{Claim}
use Rattle.fx_names.specs.Claims.{first_clash}
use Rattle.fx_names.specs.Holding.{HoldsClaims}
use Rattle.fx_names.proofs.registry.Registry.check.Given as goal

-- the first clash is that of what is left with what is held then
abbrev pub invariant-loop-i : goal.invariant-loop-i
invariant-loop-i l = (others : List Claim) → HoldsClaims l.self (l.old ++ others) → first_clash others l.new ≡ first_clash (others ++ take l.i l.new) (drop l.i l.new)
