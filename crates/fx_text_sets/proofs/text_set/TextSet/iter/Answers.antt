use Rattle.std.proofs.Common.{◌∙◌}
use Rattle.std.specs.Cmp.Lexicographic.{nat_list_cmp_total}
use Rattle.fx_base.proofs.Entries.{walked}
use Rattle.fx_text_sets.proofs.text_set.TextSet.iter.Goals as goal

pub returns : goal.returns
returns c = c.iter.ensures.rest ∙ c.deref.ensures.value ∙ walked nat_list_cmp_total _ _ c.self.view_is c.self.invariant
