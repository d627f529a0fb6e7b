use Rattle.std.specs.Option.{option_copied}
use Rattle.fx_base.proofs.Walk.{IsRest}
use Rattle.fx_members.specs.Counts.{AreTold, HaveSameKeys}
use Rattle.fx_members.proofs.WalkLemmas.{TextsSoFar}
use Rattle.fx_members.proofs.walks.change_each_text.Given as goal

abbrev pub invariant-loop-text : goal.invariant-loop-text
invariant-loop-text g l = record {
  rest : IsRest l.texts l.text-iterator;
  counts : TextsSoFar l.uses l.texts (option_copied l.item) l.more l.fn.counts l.counts l.text-iterator;
  told : AreTold l.counts (g.S.SetSink.sets l.sink);
  keys : HaveSameKeys (g.S.SetSink.sets l.fn.sink) (g.S.SetSink.sets l.sink);
}
