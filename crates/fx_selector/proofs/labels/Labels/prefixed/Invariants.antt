use Rattle.std.proofs.Common.{◌≡◌, map, drop}
use Rattle.fx_base.specs.Extended.{extended}
use Rattle.fx_selector.specs.Prefixed.{prefixed_entry, prefixed}
use Rattle.fx_selector.proofs.labels.Labels.prefixed.Given as goal

-- with those that are left put in under the prefix, the labels are whole
abbrev pub invariant-loop-key : goal.invariant-loop-key
invariant-loop-key l = extended l.labels (map (prefixed_entry l.prefix) (drop l.key-index l.key-items)) ≡ prefixed l.prefix l.fn.self
