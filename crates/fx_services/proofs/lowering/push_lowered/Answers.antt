use Rattle.std.proofs.Common.{◌≡◌, true, ◌++◌, Option, Some, sym, ap, subst}
use Rattle.std.specs.Prelude.{OnOk}
use Rattle.std.specs.Option.{option_copied}
use Rattle.fx_fields.specs.declared.names.NamespacedName.{NamespacedName}
use Rattle.fx_fields.proofs.Readings.{first_of, second_of}
use Rattle.fx_services.specs.Lowerable.{is_lowerable_rule, is_service, asks_nothing, service_side, may_name, is_lowerable}
use Rattle.fx_services.specs.Lowering.{lowered_rule}
use Rattle.fx_services.proofs.lowering.push_lowered.Goals as goal

pub push_for_service-requires-clause-service : goal.push_for_service-requires-clause-service
push_for_service-requires-clause-service c =
    let d = c.args.direction in
    let r = c.args.rule in
    let v : NamespacedName = c.in-Some.service.now in
    let low = subst (λ (s : Option NamespacedName). is_lowerable d (record { plain = r; service = s }) ≡ true) (ap option_copied c.in-Some.is) c.requires in
    first_of (is_service v) (asks_nothing (service_side d r)) (second_of (is_lowerable_rule r) (may_name d r (Some v)) low)

pub push_for_service-requires-clause-rule : goal.push_for_service-requires-clause-rule
push_for_service-requires-clause-rule c =
    let d = c.args.direction in
    let r = c.args.rule in
    first_of (is_lowerable_rule r) (may_name d r (option_copied c.args.service)) c.requires

pub push_plain-requires : goal.push_plain-requires
push_plain-requires c =
    let d = c.args.direction in
    let r = c.args.rule in
    first_of (is_lowerable_rule r) (may_name d r (option_copied c.args.service)) c.requires

pub returns-in-Some : goal.returns-in-Some
returns-in-Some c =
    subst (λ (s : Option NamespacedName). OnOk c.push_for_service.result (c.push_for_service.new.lowered.items ≡ c.args.lowered.now.items ++ lowered_rule c.args.direction (record { plain = c.args.rule; service = s })))
    (sym (ap option_copied c.in-Some.is)) c.push_for_service.ensures

pub returns-in-None : goal.returns-in-None
returns-in-None c =
    subst (λ (s : Option NamespacedName). OnOk c.push_plain.result (c.push_plain.new.lowered.items ≡ c.args.lowered.now.items ++ lowered_rule c.args.direction (record { plain = c.args.rule; service = s })))
    (sym (ap option_copied c.in-None.is)) c.push_plain.ensures
