use Rattle.std.proofs.Common.{◌≡◌}
use Rattle.std.specs.FinMap as map
use Rattle.fx_graph_rules.specs.Joining.{IsJoined}
use Rattle.fx_members.specs.Members.{AreMembers}
use Rattle.fx_graph_view.specs.Kept.{SameButSets}
use Rattle.fx_graph.specs.Fed.{lowered_by}
use Rattle.fx_graph.proofs.Walked.{IsFalling}
use Rattle.fx_graph.proofs.leaving.feed_out.Given as goal

abbrev pub invariant-loop-was : goal.invariant-loop-was
invariant-loop-was g l = record {
  falling : IsFalling (lowered_by (map.entries l.notes) l.fn.joined.index.selectors) l.joined.index.selectors l.was-iterator;
  index : l.joined.index ≡ record l.fn.joined.index { selectors = l.joined.index.selectors };
  active : l.joined.active ≡ record l.fn.joined.active { matched = l.joined.pairs };
  joined : IsJoined l.joined (g.S.ActiveSink.policies l.sink) (g.S.ActiveSink.profiles l.sink) (g.S.ActiveSink.pairs l.sink);
  inputs : l.members ≡ record l.fn.members { matched = l.joined.pairs };
  members : AreMembers l.members l.sequencer.wanted.sets;
  beside : SameButSets l.fn.sequencer l.sequencer;
  quiet : g.T.Ticker.number l.ticks ≡ g.T.Ticker.number l.fn.ticks;
}
