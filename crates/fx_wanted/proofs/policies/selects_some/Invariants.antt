use Rattle.std.proofs.Common.{◌≡◌, drop}
use Rattle.std.specs.List.{list_any}
use Rattle.fx_selector.specs.Truth.{holds}
use Rattle.fx_wanted.proofs.policies.selects_some.Given as goal

-- whether it selects some is seen among those that are left
abbrev pub invariant-loop-labels : goal.invariant-loop-labels
invariant-loop-labels l = list_any (holds l.policy.selector) l.all ≡ list_any (holds l.policy.selector) (drop l.labels-index l.all)
