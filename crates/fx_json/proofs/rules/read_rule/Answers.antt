use Rattle.std.proofs.Common.{◌≡◌, ℕ, List, Ok, inl, inr, refl, sym}
use Rattle.std.specs.Prelude.{codes}
use Rattle.std.proofs.lemmas.Result.{err_from_is_err_and}
use Rattle.serde_json.specs.Data.{Data}
use Rattle.serde_json.specs.View.{view}
use Rattle.fx_model.specs.declared.rules.Action.{Action}
use Rattle.fx_fields.specs.declared.fault.ReadFault.{ReadFault}
use Rattle.fx_fields.specs.declared.rule_form.RuleForm.{RuleForm}
use Rattle.fx_json.specs.declared.rules.ReadProtocols.{ReadProtocols}
use Rattle.fx_json.specs.declared.sides.ReadSide.{ReadSide}
use Rattle.fx_fields.specs.Faults.{IsReadFault}
use Rattle.fx_fields.specs.Paths.{text_of}
use Rattle.fx_fields.specs.Fields.{required, optional, unread}
use Rattle.fx_json.specs.Rules.{may_pass, action, protocols, side_at, rule_fields}
use Rattle.fx_json.proofs.rules.read_rule.Goals as goal

-- where all before `http` is read, its fault is the rule's
refused_http : (form : RuleForm) (path : List ℕ) (d : Data) (a : Action) (asked : ReadProtocols) (source destination : ReadSide) (told : ReadFault) → required (action (may_pass form.place)) path (codes "action") d ≡ Ok a → protocols path d ≡ Ok asked → side_at form asked.protocol path (codes "source") d ≡ Ok source → side_at form asked.protocol path (codes "destination") d ≡ Ok destination → IsReadFault (optional unread path (codes "http") d) told → IsReadFault (rule_fields form path d) told
unfolding rule_fields
refused_http form path d a asked source destination told acts asks from to (inl memory) = inl memory
refused_http form path d a asked source destination told acts asks from to (inr fault) = inr (rw (acts, asks, from, to, fault) refl)

-- where all before the destination is read, its fault is the rule's
refused_destination : (form : RuleForm) (path : List ℕ) (d : Data) (a : Action) (asked : ReadProtocols) (source : ReadSide) (told : ReadFault) → required (action (may_pass form.place)) path (codes "action") d ≡ Ok a → protocols path d ≡ Ok asked → side_at form asked.protocol path (codes "source") d ≡ Ok source → IsReadFault (side_at form asked.protocol path (codes "destination") d) told → IsReadFault (rule_fields form path d) told
unfolding rule_fields
refused_destination form path d a asked source told acts asks from (inl memory) = inl memory
refused_destination form path d a asked source told acts asks from (inr fault) = inr (rw (acts, asks, from, fault) refl)

pub returns-in_err-destination : goal.returns-in_err-destination
returns-in_err-destination c =
    let acts : required (action (may_pass c.args.form.now.place)) (text_of c.args.path.now) (codes "action") (view c.args.rule.now) ≡ Ok c.in_ok-action.action = rw (sym c.may_pass-may_pass.ensures) c.in_ok-action.ensures in
    let told = err_from_is_err_and c.from_residual-in_err-destination.result c.from_residual-in_err-destination.ensures.1 in
    rw (told.1, told.2)
    (refused_destination c.args.form.now (text_of c.args.path.now) (view c.args.rule.now) c.in_ok-action.action c.in_ok-asked.asked c.in_ok-source.source _ acts c.in_ok-asked.ensures c.in_ok-source.ensures c.in_err-destination.ensures)

pub returns-in_err-optional : goal.returns-in_err-optional
returns-in_err-optional c =
    let acts : required (action (may_pass c.args.form.now.place)) (text_of c.args.path.now) (codes "action") (view c.args.rule.now) ≡ Ok c.in_ok-action.action = rw (sym c.may_pass-may_pass.ensures) c.in_ok-action.ensures in
    let told = err_from_is_err_and c.from_residual-in_err-optional.result c.from_residual-in_err-optional.ensures.1 in
    rw (told.1, told.2)
    (refused_http c.args.form.now (text_of c.args.path.now) (view c.args.rule.now) c.in_ok-action.action c.in_ok-asked.asked c.in_ok-source.source c.in_ok-destination.destination _ acts c.in_ok-asked.ensures c.in_ok-source.ensures c.in_ok-destination.ensures c.in_err-optional.ensures)

pub returns : goal.returns
unfolding rule_fields
returns c =
    rw (sym c.may_pass-may_pass.ensures, c.in_ok-action.ensures, c.in_ok-asked.ensures, c.in_ok-source.ensures, c.in_ok-destination.ensures, c.in_ok-optional.ensures)
    (rw c.is_never.ensures)
