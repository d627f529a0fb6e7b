use Rattle.std.proofs.Common.{◌≡◌, ◌≤◌, ◌-◌, ◌++◌, length, take, drop}
use Rattle.fx_model.specs.Tree.{common_prefix}
use Rattle.fx_dispatch.proofs.shared.common_length.Given as goal

-- what was passed is shared
abbrev pub invariant-loop-n : goal.invariant-loop-n
invariant-loop-n l = record {
  within : l.n ≤ length l.xs;
  beside : l.n ≤ length l.ys;
  shared : take l.n l.xs ++ common_prefix (drop l.n l.xs) (drop l.n l.ys) ≡ common_prefix l.xs l.ys;
}

abbrev pub decreases-loop-n : goal.decreases-loop-n
decreases-loop-n l = length l.xs - l.n
