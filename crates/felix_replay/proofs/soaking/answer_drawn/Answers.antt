use Rattle.std.proofs.Common.{ℕ, refl, subst, sym, ◌∙◌}
use Rattle.fx_base.specs.Ticks.{IsTicked}
use Rattle.fx_base.proofs.TickLemmas.{IsTicked-none}
use Rattle.fx_model.specs.Tests.{least_tests, most_tests}
use Rattle.fx_replay.specs.Standing.{state_of}
use Rattle.fx_run.specs.Run.{state_after}
use Rattle.felix_replay.specs.Soak.{drawn_lines, flushes_along, messages_along, refused_along, tests_along}
use Rattle.felix_replay.proofs.SoakLemmas.{refused-drawn, state-drawn, tally-drawn, tests-drawn}
use Rattle.felix_replay.proofs.soaking.answer_drawn.Goals as goal

pub loop-index-init : goal.loop-index-init
unfolding drawn_lines state_after flushes_along messages_along refused_along tests_along
loop-index-init g c = record {
  ready = c.requires.begun.ready;
  state = c.requires.begun.state;
  tally = c.requires.begun.tally;
  tests = subst (λ (n : ℕ). IsTicked 0 0 0 n) (sym c.requires.begun.ticks) (IsTicked-none 0);
  refused = refl;
}

pub loop-index-preserved : goal.loop-index-preserved
loop-index-preserved g c =
    let dg = g.R.DigestRule.digest_of in
    let node = c.args.node.now in
    let was = c.loop-index.replay in
    let now = c.answer_quietly.new.self in
    let i = c.loop-index.invariant in
    let s = state_of dg was.agent in
    let line = c.bytes.result.now in
    let same = c.bytes.ensures ∙ c.in_ok-line.ensures in
    let e = c.in_ok-refusal.ensures in
    record {
      ready = e.ready;
      state = state-drawn dg node c.args.run.seed c.loop-index.index s line i.state same (state_of dg now.agent) e.state;
      tally = tally-drawn dg node c.args.run.seed c.loop-index.index s line i.state same was.tally now.tally i.tally e.tally;
      tests = tests-drawn dg node c.args.run.seed c.loop-index.index s line i.state same least_tests most_tests 0 was.ticks.ticks now.ticks.ticks i.tests e.tests;
      refused = c.refused_after-refused.ensures ∙ refused-drawn dg node c.args.run.seed c.loop-index.index s line i.state same _ _ i.refused e.refused;
    }
