use Rattle.std.proofs.Common.{◌∙◌}
use Rattle.std.specs.Cmp.Lexicographic.{nat_list_cmp_total}
use Rattle.fx_base.proofs.Entries.{listed}
use Rattle.fx_dispatch.proofs.interfaces.Interfaces.iter.Goals as goal

pub returns : goal.returns
returns c = c.iter.ensures.rest ∙ listed nat_list_cmp_total _ _ c.self.view_is c.self.invariant
