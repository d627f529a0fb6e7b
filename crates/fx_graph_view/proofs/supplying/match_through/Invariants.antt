use Rattle.std.proofs.Common.{◌≡◌, drop}
use Rattle.fx_logs.specs.Run.{IsRun}
use Rattle.fx_members.specs.Members.{AreMembers}
use Rattle.fx_graph_view.proofs.supplying.match_through.Given as goal

abbrev pub invariant-loop-change : goal.invariant-loop-change
invariant-loop-change g l = record {
  run : IsRun (drop l.change-index l.changes) l.members.matched l.pairs;
  uses : l.members.uses ≡ l.fn.members.uses;
  items : l.members.items ≡ l.fn.members.items;
  members : AreMembers l.members (g.S.SetSink.sets l.sink);
}
