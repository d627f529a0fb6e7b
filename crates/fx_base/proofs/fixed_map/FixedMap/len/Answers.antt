use Rattle.std.specs.Cmp.Lexicographic.{nat_list_cmp_total}
use Rattle.fx_base.proofs.Entries.{counted}
use Rattle.fx_base.proofs.fixed_map.FixedMap.len.Goals as goal

pub returns : goal.returns
returns g c = counted nat_list_cmp_total _ _ c.self.view_is c.self.invariant.1 _ c.len.ensures.len
