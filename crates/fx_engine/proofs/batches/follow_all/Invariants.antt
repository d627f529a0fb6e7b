use Rattle.std.proofs.Common.{◌≡◌, take, drop}
use Rattle.fx_base.specs.Ticks.{IsTicked}
use Rattle.fx_model.specs.declared.resources.Resources.{Resources}
use Rattle.fx_model.specs.Steps.{along}
use Rattle.fx_model.specs.Tests.{least_tests, most_tests}
use Rattle.fx_graph.specs.Graphs.{IsGraphOf, sides_of}
use Rattle.fx_engine.specs.Handing.{CanFollowAll, FollowsAll}
use Rattle.fx_engine.proofs.batches.follow_all.Given as goal

-- the graph has followed the steps so far, and can follow those that are left
abbrev pub invariant-loop-step : goal.invariant-loop-step
invariant-loop-step g l = record {
  ahead : CanFollowAll g.R.DigestRule.digest_of (drop l.step-index l.steps) l.graph.state;
  follows : FollowsAll g.R.DigestRule.digest_of (take l.step-index l.steps) l.fn.graph.state l.graph.state;
  sent : (sides_of l.graph.state).sent ≡ (sides_of l.fn.graph.state).sent;
  tests : (R : Resources) → IsGraphOf g.R.DigestRule.digest_of R l.fn.graph.state → IsTicked (along least_tests R (take l.step-index l.steps)) (along most_tests R (take l.step-index l.steps)) (g.T.Ticker.number l.fn.ticks) (g.T.Ticker.number l.ticks);
}
