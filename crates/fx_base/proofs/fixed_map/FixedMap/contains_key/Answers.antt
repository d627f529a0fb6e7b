use Rattle.std.specs.Cmp.Lexicographic.{nat_list_cmp_total}
use Rattle.fx_base.proofs.Entries.{has}
use Rattle.fx_base.proofs.fixed_map.FixedMap.contains_key.Goals as goal

pub returns : goal.returns
returns g c = has nat_list_cmp_total _ _ c.self.view_is _ _ c.contains_key.ensures
