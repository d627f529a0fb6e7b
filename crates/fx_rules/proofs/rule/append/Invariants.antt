use Rattle.std.proofs.Common.{◌≡◌, ◌++◌}
use Rattle.fx_rules.proofs.rule.append.Given as goal

-- those that were moved, and those that are left
abbrev pub invariant-loop-rule : goal.invariant-loop-rule
invariant-loop-rule l = record {
  moved : l.out ≡ l.fn.out ++ l.yielded;
  left : l.fn.rules ≡ l.yielded ++ l.rule-iterator.rest.items;
}
