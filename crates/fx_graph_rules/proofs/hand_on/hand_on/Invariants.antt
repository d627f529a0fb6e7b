use Rattle.std.proofs.Common.{◌≡◌, drop}
use Rattle.fx_active.specs.Node.{IsActive}
use Rattle.fx_logs.specs.Run.{IsRun}
use Rattle.fx_graph_rules.proofs.hand_on.hand_on.Given as goal

abbrev pub invariant-loop-change : goal.invariant-loop-change
invariant-loop-change g l = record {
  run : IsRun (drop l.change-index l.changes) l.active.matched l.pairs;
  policies : l.active.policies ≡ l.fn.active.policies;
  profiles : l.active.profiles ≡ l.fn.active.profiles;
  endpoints : l.active.endpoints ≡ l.fn.active.endpoints;
  active : IsActive l.active (g.S.ActiveSink.policies l.sink) (g.S.ActiveSink.profiles l.sink) (g.S.ActiveSink.pairs l.sink);
}
