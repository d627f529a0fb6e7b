use Rattle.std.proofs.Common.{◌≡◌, ◌++◌, List, Some, None, sym, ap, ◌∙◌, subst}
use Rattle.std.specs.Prelude.{OnOk}
use Rattle.fx_model.specs.declared.rules.Rule.{Rule}
use Rattle.fx_services.specs.Lowering.{for_protocols}
use Rattle.fx_services.proofs.lowering.push_to_service.Goals as goal

pub returns-in-Some : goal.returns-in-Some
returns-in-Some c =
    let given : c.args.rule.protocol ≡ Some c.in-Some.protocol = sym (ap (λ (r : Rule). r.protocol) c.in_ok-asked.ensures) ∙ c.in-Some.is in
    subst (λ (rs : List Rule). OnOk c.push_for_protocol.result (c.push_for_protocol.new.lowered.items ≡ c.args.lowered.now.items ++ rs))
    (λ i. for_protocols (c.in_ok-asked.ensures i) (sym given i)) c.push_for_protocol.ensures

pub returns-in-None : goal.returns-in-None
returns-in-None c =
    let none : c.args.rule.protocol ≡ None = sym (ap (λ (r : Rule). r.protocol) c.in_ok-asked.ensures) ∙ c.in-None.is in
    subst (λ (rs : List Rule). OnOk c.push_for_each.result (c.push_for_each.new.lowered.items ≡ c.args.lowered.now.items ++ rs))
    (λ i. for_protocols (c.in_ok-asked.ensures i) (sym none i)) c.push_for_each.ensures
