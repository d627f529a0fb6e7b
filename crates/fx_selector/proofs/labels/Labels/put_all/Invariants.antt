use Rattle.std.proofs.Common.{◌≡◌, drop}
use Rattle.std.specs.FinMap as map
use Rattle.fx_base.specs.Extended.{extended}
use Rattle.fx_selector.proofs.labels.Labels.put_all.Given as goal

-- with those that are left put in, the labels are whole
abbrev pub invariant-loop-key : goal.invariant-loop-key
invariant-loop-key l = extended l.self (drop l.key-index l.key-items) ≡ extended l.fn.self (map.entries l.labels)
