use Rattle.std.proofs.Common.{◌≡◌, true, ◌++◌, List, Option, sym, ap, ◌∙◌, subst}
use Rattle.fx_model.specs.declared.rules.Rule.{Rule}
use Rattle.fx_fields.specs.declared.names.NamespacedName.{NamespacedName}
use Rattle.fx_services.specs.Lowerable.{is_lowerable}
use Rattle.fx_services.specs.Lowering.{WrittenRule, written_rules, lowered_rule}
use Rattle.fx_services.proofs.RuleLists.{Services, IsLowering, next_low, next_lowered}
use Rattle.fx_services.proofs.lowering.lowered_rules.Goals as goal

pub push_lowered-requires : goal.push_lowered-requires
push_lowered-requires c =
    let d = c.args.direction in
    let all : List WrittenRule = written_rules c.args.rules c.args.services.now in
    subst (λ (s : Option NamespacedName). is_lowerable d (record { plain = c.in-Some.rule; service = s }) ≡ true) (sym c.first_service.ensures)
    (next_low d all c.loop-rule.lowered.items c.loop-rule.rule-iterator.rest.items c.next.new.self.rest.items c.loop-rule.left.now c.in-Some.rule c.in-Some.ensures.steps.0 c.loop-rule.invariant)

pub loop-rule-preserved : goal.loop-rule-preserved
loop-rule-preserved c =
    let d = c.args.direction in
    let all : List WrittenRule = written_rules c.args.rules c.args.services.now in
    let made : List Rule = c.loop-rule.lowered.items in
    let now : List Rule = c.push_lowered.new.lowered.items in
    let rest : List Rule = c.next.new.self.rest.items in
    subst (λ (services : Services). IsLowering d all now rest services) (sym c.later_services-left.ensures)
    (next_lowered d all made c.loop-rule.rule-iterator.rest.items rest c.loop-rule.left.now c.in-Some.rule c.in-Some.ensures.steps.0 c.loop-rule.invariant now
    (c.in_ok-push_lowered.ensures ∙ ap (λ (s : Option NamespacedName). made ++ lowered_rule d (record { plain = c.in-Some.rule; service = s })) c.first_service.ensures))
