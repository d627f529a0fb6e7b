use Rattle.std.proofs.Common.{◌≡◌, ◌∙◌, ap, arith}
use Rattle.fx_model.specs.declared.resources.Resources.{Resources}
use Rattle.fx_model.specs.Messages.{differences, step}
use Rattle.fx_model.specs.Views.{view_of}
use Rattle.felix_restore.proofs.SendingLemmas.{nearer}
use Rattle.felix_restore.proofs.sending.send_all.Goals as goal

pub loop-agent-smaller : goal.loop-agent-smaller
loop-agent-smaller g c =
    let dg = g.R.DigestRule.digest_of in
    let s = c.in_ok-pull_one.ensures in
    let sent = c.loop-agent.agent.sent in
    let w = view_of dg c.loop-agent.agent.resources in
    let after : differences c.pull_one.new.agent.sent (view_of dg c.pull_one.new.agent.resources) ≡ differences (step sent w) w = λ j. differences (s.step j) (view_of dg (s.resources j)) in
    omega (arith, nearer sent w (c.pending.ensures.told.0 c.loop-agent-test.true).1, after)

pub loop-agent-preserved : goal.loop-agent-preserved
loop-agent-preserved g c = record {
  ready = c.in_ok-pull_one.ensures.ready;
  resources = c.in_ok-pull_one.ensures.resources ∙ c.loop-agent.invariant.resources;
}

pub returns-clause-reached : goal.returns-clause-reached
returns-clause-reached g c =
    c.pending.ensures.all_sent c.loop-agent-test.false c.loop-agent.invariant.ready
    ∙ ap (λ (R : Resources). view_of g.R.DigestRule.digest_of R) c.loop-agent.invariant.resources
