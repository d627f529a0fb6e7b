use Rattle.std.proofs.Common.{◌≡◌, sym, ap, ◌∙◌, subst}
use Rattle.fx_base.specs.Ticks.{IsTicked}
use Rattle.fx_model.specs.declared.resources.Update.{Update}
use Rattle.fx_model.specs.declared.resources.Resources.{Resources}
use Rattle.fx_model.specs.Claims.{clash}
use Rattle.fx_model.specs.Formed.{is_formed}
use Rattle.fx_model.specs.Resources.{after}
use Rattle.fx_model.specs.Tests.{least_tests, most_tests}
use Rattle.fx_store.specs.Checking.{IsCheckFault}
use Rattle.fx_store.proofs.Checked.{fault_on}
use Rattle.fx_engine.proofs.Following.{sound-after, update-accepted}
use Rattle.fx_engine.proofs.Unchanged.{unchanged_free, unchanged_tested}
use Rattle.fx_engine.proofs.engine.make.Goals as goal

-- ---- an update that changes nothing

pub returns-then-is_unchanged_by-clause-tells : goal.returns-then-is_unchanged_by-clause-tells
returns-then-is_unchanged_by-clause-tells g c =
    unchanged_free g.R.DigestRule.digest_of c.args.store.now.resources c.requires.sound.apart c.args.update c.requires.formed
    (c.is_unchanged_by.ensures.0 c.if-is_unchanged_by.true)

pub returns-then-is_unchanged_by-clause-resources : goal.returns-then-is_unchanged_by-clause-resources
returns-then-is_unchanged_by-clause-resources g c = sym (c.is_unchanged_by.ensures.0 c.if-is_unchanged_by.true)

pub returns-then-is_unchanged_by-clause-tests : goal.returns-then-is_unchanged_by-clause-tests
returns-then-is_unchanged_by-clause-tests g c =
    unchanged_tested g.R.DigestRule.digest_of c.args.store.now.resources c.args.update (c.is_unchanged_by.ensures.0 c.if-is_unchanged_by.true)
    c.args.graph.now.state c.requires.sound.graph (g.T.Ticker.number c.args.ticks.now)

-- ---- any other, which is itself by the table's texts

pub checked_claims-requires-clause-formed : goal.checked_claims-requires-clause-formed
checked_claims-requires-clause-formed g c = ap is_formed c.in_ok-shared.ensures ∙ c.requires.formed

pub returns-in_err-change-clause-tells : goal.returns-in_err-change-clause-tells
returns-in_err-change-clause-tells g c =
    let fault = c.in_err-change.field-0.0 in
    fault_on c.from_residual-in_err-change.result fault _ c.from_residual-in_err-change.ensures.1
    (subst (λ (u : Update). IsCheckFault fault (clash g.R.DigestRule.digest_of c.args.store.now.resources u)) c.in_ok-shared.ensures c.in_err-change.ensures.tells)

pub apply-requires-clause-update : goal.apply-requires-clause-update
apply-requires-clause-update g c = ap is_formed c.in_ok-shared.ensures ∙ c.requires.formed

pub apply-requires-clause-resources : goal.apply-requires-clause-resources
apply-requires-clause-resources g c =
    let R = c.args.store.now.resources in
    let formed = ap is_formed c.in_ok-shared.ensures ∙ c.requires.formed in
    (R, (c.requires.sound.graph, update-accepted g.R.DigestRule.digest_of R c.requires.sound.formed c.requires.sound.apart c.in_ok-shared.shared formed c.in_ok-change.ensures.tells))

pub apply_with-requires-clause-formed : goal.apply_with-requires-clause-formed
apply_with-requires-clause-formed g c = ap is_formed c.in_ok-shared.ensures ∙ c.requires.formed

pub returns-clause-tells : goal.returns-clause-tells
returns-clause-tells g c =
    ap (clash g.R.DigestRule.digest_of c.args.store.now.resources) (sym c.in_ok-shared.ensures) ∙ c.in_ok-change.ensures.tells

pub returns-clause-resources : goal.returns-clause-resources
returns-clause-resources g c = c.in_ok-apply_with.ensures.made ∙ ap (after c.args.store.now.resources) c.in_ok-shared.ensures

pub returns-clause-sound : goal.returns-clause-sound
returns-clause-sound g c =
    let dg = g.R.DigestRule.digest_of in
    let was = c.args.store.now in
    let formed = ap is_formed c.in_ok-shared.ensures ∙ c.requires.formed in
    let made = c.in_ok-apply_with.ensures in
    sound-after dg was c.apply_with.new.self c.args.graph.now.state c.apply.new.self.state c.requires.sound c.in_ok-shared.shared formed c.in_ok-change.ensures.tells
    (c.in_ok-apply.ensures.follows was.resources c.requires.sound.graph) made.made made.claims

pub returns-clause-tests : goal.returns-clause-tests
returns-clause-tests g c =
    let R = c.args.store.now.resources in
    subst (λ (u : Update). IsTicked (least_tests R u) (most_tests R u) (g.T.Ticker.number c.args.ticks.now) (g.T.Ticker.number c.apply.new.ticks)) c.in_ok-shared.ensures
    (c.in_ok-apply.ensures.tests R c.requires.sound.graph)
