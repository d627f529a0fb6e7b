use Rattle.std.proofs.Common.{◌≡◌, ◌++◌, map, take}
use Rattle.fx_model.specs.TableTexts.{rule_line}
use Rattle.fx_rows.proofs.tables.push_rules.Given as goal

abbrev pub invariant-loop-rule : goal.invariant-loop-rule
invariant-loop-rule l = l.lines.items ≡ l.fn.lines.items ++ map (rule_line l.chain) (take l.rule-index l.rules)
