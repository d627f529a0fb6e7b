use Rattle.std.proofs.Common.{◌≡◌, ℕ}
use Rattle.std.specs.FinMap as map
use Rattle.fx_label_index.specs.declared.held.Inputs.{Inputs}
use Rattle.fx_graph_rules.specs.Joining.{IsJoined}
use Rattle.fx_members.specs.Members.{AreMembers}
use Rattle.fx_graph_view.specs.Kept.{SameButSets}
use Rattle.fx_graph.specs.Fed.{raised_by}
use Rattle.fx_graph.specs.Testing.{IsRaisedFrom}
use Rattle.fx_graph.proofs.Walked.{IsRising}
use Rattle.fx_graph.proofs.coming.feed_in.Given as goal

abbrev pub invariant-loop-name : goal.invariant-loop-name
invariant-loop-name g l = record {
  rising : IsRising l.uses (raised_by l.uses (map.entries l.notes) l.fn.joined.index.selectors) l.joined.index.selectors l.name-iterator;
  index : l.joined.index ≡ record l.fn.joined.index { selectors = l.joined.index.selectors };
  active : l.joined.active ≡ record l.fn.joined.active { matched = l.joined.pairs };
  joined : IsJoined l.joined (g.S.ActiveSink.policies l.sink) (g.S.ActiveSink.profiles l.sink) (g.S.ActiveSink.pairs l.sink);
  inputs : l.members ≡ record l.fn.members { matched = l.joined.pairs };
  members : AreMembers l.members l.sequencer.wanted.sets;
  beside : SameButSets l.fn.sequencer l.sequencer;
  tests : (first : Inputs) (m : ℕ) → IsRaisedFrom first m l.fn.joined.index (g.T.Ticker.number l.fn.ticks) → IsRaisedFrom first m l.joined.index (g.T.Ticker.number l.ticks);
}
