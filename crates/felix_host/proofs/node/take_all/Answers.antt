use Rattle.std.proofs.Common.{◌≡◌, refl, ap, ◌∙◌, arith}
use Rattle.fx_model.specs.declared.resources.Resources.{Resources}
use Rattle.fx_model.specs.Messages.{differences, step}
use Rattle.fx_model.specs.Views.{view_of}
use Rattle.fx_engine.specs.States.{EngineState}
use Rattle.felix_host.proofs.NodeLemmas.{nearer}
use Rattle.felix_host.proofs.node.take_all.Goals as goal

pub loop-alloc-init : goal.loop-alloc-init
loop-alloc-init g c = record { told = c.requires.told; ready = c.requires.ready; resources = refl }

pub loop-alloc-smaller : goal.loop-alloc-smaller
loop-alloc-smaller g c =
    let dg = g.R.DigestRule.digest_of in
    let was = c.loop-alloc.engine in
    let now = c.take_next.new.engine in
    let w = view_of dg was.resources in
    let after : differences now.sent (view_of dg now.resources) ≡ differences (step was.sent w) w =
    ap (λ (e : EngineState). differences e.sent (view_of dg e.resources)) c.in_ok-take_next.ensures.step in
    omega (arith, nearer was.sent w (c.pending.ensures.told.0 c.loop-alloc-test.true).1, after)

pub loop-alloc-preserved : goal.loop-alloc-preserved
loop-alloc-preserved g c =
    let took = c.in_ok-take_next.ensures in
    record {
      told = took.told;
      ready = ap (λ (e : EngineState). e.failed) took.step ∙ c.loop-alloc.invariant.ready;
      resources = ap (λ (e : EngineState). e.resources) took.step ∙ c.loop-alloc.invariant.resources;
    }

pub returns-clause-told : goal.returns-clause-told
returns-clause-told g c = c.loop-alloc.invariant.told

pub returns-clause-ready : goal.returns-clause-ready
returns-clause-ready g c = c.loop-alloc.invariant.ready

pub returns-clause-reached : goal.returns-clause-reached
returns-clause-reached g c =
    c.loop-alloc.invariant.told ∙ c.pending.ensures.all_sent c.loop-alloc-test.false c.loop-alloc.invariant.ready
    ∙ ap (λ (R : Resources). view_of g.R.DigestRule.digest_of R) c.loop-alloc.invariant.resources

pub returns-clause-resources : goal.returns-clause-resources
returns-clause-resources g c = c.loop-alloc.invariant.resources
