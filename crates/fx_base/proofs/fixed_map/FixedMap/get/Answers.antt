use Rattle.std.specs.Cmp.Lexicographic.{nat_list_cmp_total}
use Rattle.fx_base.proofs.Entries.{got}
use Rattle.fx_base.proofs.fixed_map.FixedMap.get.Goals as goal

pub returns : goal.returns
returns g c = got nat_list_cmp_total _ _ c.self.view_is _ _ c.get.ensures.value
