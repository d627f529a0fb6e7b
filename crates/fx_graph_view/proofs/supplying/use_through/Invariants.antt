use Rattle.std.proofs.Common.{◌≡◌}
use Rattle.std.specs.Cmp.Lexicographic.{nat_list_cmp_total}
use Rattle.std.specs.FinMap as map
use Rattle.fx_base.proofs.KeyCases.{bytes_exact}
use Rattle.fx_members.specs.Members.{AreMembers}
use Rattle.fx_graph_view.proofs.Brought.{IsBrought}
use Rattle.fx_graph_view.proofs.supplying.use_through.Given as goal

abbrev pub invariant-loop-name : goal.invariant-loop-name
invariant-loop-name g l = record {
  brought : IsBrought nat_list_cmp_total bytes_exact l.before (map.get l.fn.members.uses) (map.get l.uses) l.members.uses l.name-iterator;
  items : l.members.items ≡ l.fn.members.items;
  matched : l.members.matched ≡ l.fn.members.matched;
  members : AreMembers l.members (g.S.SetSink.sets l.sink);
}
