use Rattle.std.proofs.Common.{take, refl, sym, ◌∙◌, subst}
use Rattle.std.proofs.lemmas.List.{take_all}
use Rattle.fx_base.specs.Ticks.{IsTicked}
use Rattle.fx_base.proofs.TickLemmas.{IsTicked-none}
use Rattle.fx_model.specs.declared.resources.Resources.{Resources}
use Rattle.fx_model.specs.Batches.{after_all}
use Rattle.fx_model.specs.Resources.{after}
use Rattle.fx_model.specs.Steps.{along}
use Rattle.fx_model.specs.Tests.{least_tests, most_tests}
use Rattle.fx_graph.specs.Graphs.{IsGraphOf}
use Rattle.fx_store.proofs.Touching.{next_left}
use Rattle.fx_engine.specs.Handing.{CanFollowAll}
use Rattle.fx_engine.proofs.Handing.{made_more, ticked_more}
use Rattle.fx_engine.proofs.batches.follow_all.Goals as goal

pub loop-step-init : goal.loop-step-init
loop-step-init g c = record {
  ahead = c.requires;
  follows = λ R h. h;
  sent = refl;
  tests = λ R h. IsTicked-none (g.T.Ticker.number c.args.ticks.now);
}

pub apply-requires-clause-update : goal.apply-requires-clause-update
apply-requires-clause-update g c =
    let ahead = subst (λ us. CanFollowAll g.R.DigestRule.digest_of us c.loop-step.graph.state) (next_left c.args.steps.now c.loop-step.step-index c.step-item.result c.loop-step-test.true c.step-item.is) c.loop-step.invariant.ahead in
    ahead.1.1.0.0

pub apply-requires-clause-resources : goal.apply-requires-clause-resources
apply-requires-clause-resources g c =
    let ahead = subst (λ us. CanFollowAll g.R.DigestRule.digest_of us c.loop-step.graph.state) (next_left c.args.steps.now c.loop-step.step-index c.step-item.result c.loop-step-test.true c.step-item.is) c.loop-step.invariant.ahead in
    (ahead.0, (ahead.1.0, ahead.1.1.0.1))

pub loop-step-preserved : goal.loop-step-preserved
loop-step-preserved g c =
    let dg = g.R.DigestRule.digest_of in
    let us = c.args.steps.now in
    let i = c.loop-step.step-index in
    let u = c.step-item.result in
    let was = c.loop-step.invariant in
    let applied = c.in_ok-apply.ensures in
    let now = c.apply.new.self.state in
    let ahead = subst (λ left. CanFollowAll dg left c.loop-step.graph.state) (next_left us i u c.loop-step-test.true c.step-item.is) was.ahead in
    record {
      ahead = (after ahead.0 u, (applied.follows ahead.0 ahead.1.0, ahead.1.1.1));
      follows = λ R h. subst (λ (S : Resources). IsGraphOf dg S now) (sym (made_more R us i u c.loop-step-test.true c.step-item.is)) (applied.follows (after_all R (take i us)) (was.follows R h));
      sent = applied.sent ∙ was.sent;
      tests = λ R h. ticked_more least_tests most_tests R us i u c.loop-step-test.true c.step-item.is _ _ _ (was.tests R h) (applied.tests (after_all R (take i us)) (was.follows R h));
    }

pub returns-clause-follows : goal.returns-clause-follows
returns-clause-follows g c = λ R h.
    subst (λ us. IsGraphOf g.R.DigestRule.digest_of (after_all R us) c.loop-step.graph.state) (take_all c.loop-step.step-index c.args.steps.now c.loop-step-test.false) (c.loop-step.invariant.follows R h)

pub returns-clause-tests : goal.returns-clause-tests
returns-clause-tests g c = λ R h.
    subst (λ us. IsTicked (along least_tests R us) (along most_tests R us) (g.T.Ticker.number c.args.ticks.now) (g.T.Ticker.number c.loop-step.ticks)) (take_all c.loop-step.step-index c.args.steps.now c.loop-step-test.false) (c.loop-step.invariant.tests R h)
