use Rattle.std.proofs.Common.{◌≡◌, false}
use Rattle.fx_base.specs.Ticks.{IsTicked}
use Rattle.fx_model.specs.Tests.{least_tests, most_tests}
use Rattle.fx_replay.specs.Standing.{state_of}
use Rattle.fx_replay.specs.Output.{start, next}
use Rattle.fx_replay.specs.Tests.{ticks_of}
use Rattle.fx_run.specs.Run.{state_after}
use Rattle.felix_replay.specs.Soak.{drawn_lines, refused_along, tally_along, tests_along}
use Rattle.felix_replay.proofs.soaking.answer_drawn.Given as goal

abbrev pub invariant-loop-index : goal.invariant-loop-index
invariant-loop-index g l = record {
  ready : l.replay.agent.failed ≡ false;
  state : state_of g.R.DigestRule.digest_of l.replay.agent ≡ state_after next (start g.R.DigestRule.digest_of l.node) (drawn_lines l.run.seed l.node l.index);
  tally : l.replay.tally ≡ tally_along (start g.R.DigestRule.digest_of l.node) (drawn_lines l.run.seed l.node l.index);
  tests : IsTicked (tests_along least_tests (start g.R.DigestRule.digest_of l.node) (drawn_lines l.run.seed l.node l.index)) (tests_along most_tests (start g.R.DigestRule.digest_of l.node) (drawn_lines l.run.seed l.node l.index)) 0 (ticks_of l.replay.ticks);
  refused : l.refused ≡ refused_along (start g.R.DigestRule.digest_of l.node) (drawn_lines l.run.seed l.node l.index);
}
