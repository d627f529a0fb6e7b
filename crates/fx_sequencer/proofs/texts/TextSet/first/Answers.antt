use Rattle.std.proofs.Common.{ap, ◌∙◌}
use Rattle.std.specs.List.{slice_get}
use Rattle.std.specs.Cmp.Lexicographic.{nat_list_cmp_total}
use Rattle.fx_base.proofs.Entries.{listed}
use Rattle.fx_sequencer.proofs.OrderedTexts.{walked_first}
use Rattle.fx_sequencer.proofs.texts.TextSet.first.Goals as goal

pub returns : goal.returns
returns c = walked_first c.next.result c.iter.result _ c.next.ensures.steps ∙ ap (λ ks. slice_get ks 0) (c.iter.ensures.rest ∙ listed nat_list_cmp_total _ _ c.self.view_is c.self.invariant)
