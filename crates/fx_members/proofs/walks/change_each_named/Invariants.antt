use Rattle.std.specs.Option.{option_copied}
use Rattle.fx_base.proofs.Walk.{IsRest}
use Rattle.fx_members.specs.Counts.{AreTold, HaveSameKeys}
use Rattle.fx_members.proofs.WalkLemmas.{NamedSoFar}
use Rattle.fx_members.proofs.walks.change_each_named.Given as goal

abbrev pub invariant-loop-name : goal.invariant-loop-name
invariant-loop-name g l = record {
  rest : IsRest l.names l.name-iterator;
  counts : NamedSoFar l.uses l.names (option_copied l.item) l.more l.fn.counts l.counts l.name-iterator;
  told : AreTold l.counts (g.S.SetSink.sets l.sink);
  keys : HaveSameKeys (g.S.SetSink.sets l.fn.sink) (g.S.SetSink.sets l.sink);
}
