use Rattle.std.specs.Cmp.Lexicographic.{nat_list_cmp_total}
use Rattle.std.proofs.Common.{◌∙◌}
use Rattle.fx_base.proofs.Entries.{walked}
use Rattle.fx_base.proofs.fixed_map.FixedMap.iter.Goals as goal

pub returns : goal.returns
returns g c = c.iter.ensures.rest ∙ walked nat_list_cmp_total _ _ c.self.view_is c.self.invariant.1
