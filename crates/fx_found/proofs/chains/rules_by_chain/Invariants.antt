use Rattle.std.proofs.Common.{◌≡◌, ℕ, List, []}
use Rattle.std.specs.Prelude.{unwrap_or}
use Rattle.std.specs.FinMap as maps
use Rattle.fx_found.specs.Found.{rules_at}
use Rattle.fx_found.proofs.chains.rules_by_chain.Given as goal

-- each chain has the rules of the rows so far
abbrev pub invariant-loop-row : goal.invariant-loop-row
invariant-loop-row l = (name : List ℕ) → unwrap_or (maps.get l.rules name) [] ≡ rules_at name l.yielded
