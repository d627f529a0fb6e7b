use Rattle.std.specs.Cmp.Lexicographic.{nat_list_cmp_total}
use Rattle.fx_base.proofs.Entries.{emptied}
use Rattle.fx_base.proofs.text_map.TextMap.is_empty.Goals as goal

pub returns : goal.returns
returns g c = emptied nat_list_cmp_total _ _ c.self.view_is c.self.invariant _ c.is_empty.ensures
