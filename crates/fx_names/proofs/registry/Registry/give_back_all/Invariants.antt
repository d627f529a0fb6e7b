use Rattle.std.proofs.Common.{List, ◌++◌, drop}
use Rattle.fx_names.specs.declared.claim.Claim.{Claim}
use Rattle.fx_names.specs.Holding.{HoldsClaims}
use Rattle.fx_names.proofs.registry.Registry.give_back_all.Given as goal

-- what is left to be given back is held
abbrev pub invariant-loop-claim : goal.invariant-loop-claim
invariant-loop-claim l = (others : List Claim) → HoldsClaims l.fn.self (l.claims ++ others) → HoldsClaims l.self (drop l.claim-index l.claims ++ others)
