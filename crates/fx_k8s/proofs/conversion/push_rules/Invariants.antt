use Rattle.std.proofs.Common.{◌≡◌, ◌++◌, take}
use Rattle.std.specs.List.{flat_map}
use Rattle.fx_k8s.specs.Conversion.{converted_rule}
use Rattle.fx_k8s.proofs.conversion.push_rules.Given as goal

abbrev pub invariant-loop-rule : goal.invariant-loop-rule
invariant-loop-rule l =
    l.made.items ≡ l.fn.made.items ++ flat_map (converted_rule l.place.direction l.place.namespace.now) (take l.rule-index l.rules)
