use Rattle.std.proofs.Common.{sym, ap, ◌∙◌, subst}
use Rattle.std.specs.List.{list_all}
use Rattle.fx_base.specs.Ticks.{IsTicked}
use Rattle.fx_model.specs.declared.resources.Resources.{Resources}
use Rattle.fx_model.specs.Batches.{after_all, clash_all}
use Rattle.fx_model.specs.Formed.{is_formed}
use Rattle.fx_model.specs.Steps.{along, steps_of}
use Rattle.fx_model.specs.Tests.{least_tests, most_tests}
use Rattle.fx_laws.proofs.BatchSteps.{steps-end}
use Rattle.fx_graph.specs.Graphs.{IsGraphOf}
use Rattle.fx_store.specs.Checking.{IsCheckFault}
use Rattle.fx_store.proofs.Checked.{fault_on}
use Rattle.fx_engine.specs.Handing.{AreAccepted}
use Rattle.fx_engine.proofs.Handing.{sound-after_all, steps-accepted}
use Rattle.fx_engine.proofs.batches.make_all.Goals as goal

pub check_all-requires-clause-formed : goal.check_all-requires-clause-formed
check_all-requires-clause-formed g c = ap (list_all is_formed) (c.deref.ensures.value ∙ c.in_ok-shared.ensures) ∙ c.requires.formed

pub returns-in_err-check_all-clause-tells : goal.returns-in_err-check_all-clause-tells
returns-in_err-check_all-clause-tells g c =
    let fault = c.in_err-check_all.field-0.0 in
    fault_on c.from_residual-in_err-check_all.result fault _ c.from_residual-in_err-check_all.ensures.1
    (subst (λ us. IsCheckFault fault (clash_all g.R.DigestRule.digest_of c.args.store.now.resources us)) (c.deref.ensures.value ∙ c.in_ok-shared.ensures) c.in_err-check_all.ensures)

pub follow_all-requires : goal.follow_all-requires
follow_all-requires g c =
    let dg = g.R.DigestRule.digest_of in
    let R = c.args.store.now.resources in
    let us = c.args.updates.items in
    let free = ap (clash_all dg R) (sym (c.deref.ensures.value ∙ c.in_ok-shared.ensures)) ∙ c.in_ok-check_all.ensures in
    let given = c.deref-3.ensures.value ∙ c.in_ok-steps.ensures ∙ ap (steps_of R) (c.deref-2.ensures.value ∙ c.in_ok-shared.ensures) in
    (R, (c.requires.sound.graph, subst (λ qs. AreAccepted dg R qs) (sym given) (steps-accepted dg R c.requires.sound.formed c.requires.sound.apart us c.requires.formed c.requires.changes free)))

pub apply_all-requires-clause-formed : goal.apply_all-requires-clause-formed
apply_all-requires-clause-formed g c = ap (list_all is_formed) (c.deref-4.ensures.value ∙ c.in_ok-shared.ensures) ∙ c.requires.formed

pub apply_all-requires-clause-free : goal.apply_all-requires-clause-free
apply_all-requires-clause-free g c =
    ap (clash_all g.R.DigestRule.digest_of c.args.store.now.resources) (c.deref-4.ensures.value ∙ sym c.deref.ensures.value) ∙ c.in_ok-check_all.ensures

pub returns-clause-tells : goal.returns-clause-tells
returns-clause-tells g c = ap (clash_all g.R.DigestRule.digest_of c.args.store.now.resources) (sym (c.deref.ensures.value ∙ c.in_ok-shared.ensures)) ∙ c.in_ok-check_all.ensures

pub returns-clause-resources : goal.returns-clause-resources
returns-clause-resources g c = c.in_ok-apply_all.ensures.made ∙ ap (after_all c.args.store.now.resources) (c.deref-4.ensures.value ∙ c.in_ok-shared.ensures)

pub returns-clause-sound : goal.returns-clause-sound
returns-clause-sound g c =
    let dg = g.R.DigestRule.digest_of in
    let was = c.args.store.now in
    let R = was.resources in
    let us = c.args.updates.items in
    let free = ap (clash_all dg R) (sym (c.deref.ensures.value ∙ c.in_ok-shared.ensures)) ∙ c.in_ok-check_all.ensures in
    let made = c.in_ok-apply_all.ensures.made ∙ ap (after_all R) (c.deref-4.ensures.value ∙ c.in_ok-shared.ensures) in
    let given = c.deref-3.ensures.value ∙ c.in_ok-steps.ensures ∙ ap (steps_of R) (c.deref-2.ensures.value ∙ c.in_ok-shared.ensures) in
    let graph =
    subst (λ (S : Resources). IsGraphOf dg S c.follow_all.new.graph.state)
    (ap (after_all R) given ∙ steps-end R us c.requires.formed c.requires.changes) (c.in_ok-follow_all.ensures.follows R c.requires.sound.graph) in
    sound-after_all dg was c.apply_all.new.self c.args.graph.now.state c.follow_all.new.graph.state c.requires.sound us c.requires.formed free graph made c.in_ok-apply_all.ensures.claims

pub returns-clause-tests : goal.returns-clause-tests
returns-clause-tests g c =
    let R = c.args.store.now.resources in
    let given = c.deref-3.ensures.value ∙ c.in_ok-steps.ensures ∙ ap (steps_of R) (c.deref-2.ensures.value ∙ c.in_ok-shared.ensures) in
    subst (λ qs. IsTicked (along least_tests R qs) (along most_tests R qs) (g.T.Ticker.number c.args.ticks.now) (g.T.Ticker.number c.follow_all.new.ticks))
    given (c.in_ok-follow_all.ensures.tests R c.requires.sound.graph)
