use Rattle.fx_k8s.specs.Conversion.{converted_rule}
use Rattle.fx_k8s.proofs.Pushed.{one_more}
use Rattle.fx_k8s.proofs.conversion.push_rules.Goals as goal

pub loop-rule-preserved : goal.loop-rule-preserved
loop-rule-preserved c =
    one_more (converted_rule c.args.place.now.direction c.args.place.now.namespace.now) c.args.made.now.items c.loop-rule.made.items c.push_rule.new.made.items c.args.rules.now c.loop-rule.rule-index c.rule-item.result c.rule-item.result c.loop-rule-test.true c.rule-item.is c.loop-rule.invariant c.in_ok-push_rule.ensures
