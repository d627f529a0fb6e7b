use Rattle.std.proofs.Common.{rules}
use Rattle.fx_model.proofs.UseLemmas.{one_rule_more}
use Rattle.fx_model.proofs.set_use.push_uses.Goals as goal

pub loop-rule-preserved : goal.loop-rule-preserved
loop-rule-preserved c = record {
  uses = one_rule_more c.args.uses.now.items c.loop-rule.uses.items c.push_rule.new.uses.items c.as_slice-rule-items.result.now c.loop-rule.rule-index c.rule-item.result c.rule-item.result (search rules) (search rules) c.loop-rule.invariant.uses c.in_ok-push_rule.ensures.uses;
  selectors = λ h. c.in_ok-push_rule.ensures.selectors (c.loop-rule.invariant.selectors h);
}
