use Rattle.std.proofs.Common.{length, ap}
use Rattle.std.specs.Cmp.Lexicographic.{nat_list_cmp_total}
use Rattle.fx_base.proofs.Entries.{counted}
use Rattle.fx_text_sets.proofs.text_set.TextSet.len.Goals as goal

pub returns : goal.returns
returns c = counted nat_list_cmp_total _ _ c.self.view_is c.self.invariant _ (ap length c.as_slice.ensures.value)
