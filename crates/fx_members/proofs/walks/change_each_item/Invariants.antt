use Rattle.fx_base.proofs.Walk.{IsRest}
use Rattle.fx_members.specs.Counts.{AreTold, HaveSameKeys}
use Rattle.fx_members.proofs.WalkLemmas.{ItemsSoFar}
use Rattle.fx_members.proofs.walks.change_each_item.Given as goal

abbrev pub invariant-loop-key : goal.invariant-loop-key
invariant-loop-key g l = record {
  rest : IsRest l.keys l.key-iterator;
  counts : ItemsSoFar l.keys l.set l.items l.name l.more l.fn.counts l.counts l.key-iterator;
  told : AreTold l.counts (g.S.SetSink.sets l.sink);
  keys : HaveSameKeys (g.S.SetSink.sets l.fn.sink) (g.S.SetSink.sets l.sink);
}
