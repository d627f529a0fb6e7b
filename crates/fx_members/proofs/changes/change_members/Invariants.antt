use Rattle.std.proofs.Common.{◌≡◌, ◌≤◌, false, IsSome, drop}
use Rattle.std.specs.FinMap as map
use Rattle.fx_model.specs.declared.member.Member.{Member}
use Rattle.fx_members.specs.Counts.{count_at, times, AreTold, HaveSameKeys}
use Rattle.fx_members.proofs.ListLemmas.{MembersSoFar}
use Rattle.fx_members.proofs.changes.change_members.Given as goal

abbrev pub invariant-loop-member : goal.invariant-loop-member
invariant-loop-member g l = record {
  there : IsSome (map.get (g.S.SetSink.sets l.sink) l.name);
  left : l.more ≡ false → (m : Member) → times (drop l.member-index l.members) m ≤ count_at l.counts l.name m;
  counts : MembersSoFar l.name l.members l.more l.fn.counts l.counts (drop l.member-index l.members);
  told : AreTold l.counts (g.S.SetSink.sets l.sink);
  keys : HaveSameKeys (g.S.SetSink.sets l.fn.sink) (g.S.SetSink.sets l.sink);
}
