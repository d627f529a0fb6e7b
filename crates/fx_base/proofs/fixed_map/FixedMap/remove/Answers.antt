use Rattle.std.specs.Cmp.Lexicographic.{nat_list_cmp_total}
use Rattle.std.specs.FinMap.{nat_cmp-IsAntisymmetric, slice_cmp-IsAntisymmetric}
use Rattle.fx_base.proofs.Entries.{got, removed}
use Rattle.fx_base.proofs.fixed_map.FixedMap.remove.Goals as goal

pub returns-clause-before : goal.returns-clause-before
returns-clause-before g c = got nat_list_cmp_total _ _ c.self.view_is _ _ c.remove.ensures.value

pub returns-clause-removed : goal.returns-clause-removed
returns-clause-removed g c = removed nat_list_cmp_total (slice_cmp-IsAntisymmetric nat_cmp-IsAntisymmetric) _ _ _ c.self.view_is _ c.remove.ensures.updates.0
