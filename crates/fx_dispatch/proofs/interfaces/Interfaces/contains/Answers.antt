use Rattle.std.specs.Cmp.Lexicographic.{nat_list_cmp_total}
use Rattle.fx_base.proofs.Entries.{holds}
use Rattle.fx_dispatch.proofs.interfaces.Interfaces.contains.Goals as goal

pub returns : goal.returns
returns c = holds nat_list_cmp_total _ _ c.self.view_is _ _ c.contains.ensures
