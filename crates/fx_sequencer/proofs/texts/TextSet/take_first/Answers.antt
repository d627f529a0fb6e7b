use Rattle.std.proofs.Common.{ap, ◌∙◌}
use Rattle.std.specs.List.{slice_get}
use Rattle.std.specs.Cmp.Lexicographic.{nat_list_cmp_total}
use Rattle.fx_base.proofs.Entries.{listed}
use Rattle.fx_sequencer.proofs.OrderedTexts.{first_out, others_left}
use Rattle.fx_sequencer.proofs.texts.TextSet.take_first.Goals as goal

pub returns-clause-first : goal.returns-clause-first
returns-clause-first c = first_out c.pop_first.result _ _ c.pop_first.ensures.variant c.pop_first.ensures.removal ∙ ap (λ ks. slice_get ks 0) (listed nat_list_cmp_total _ _ c.self.view_is c.self.invariant)

pub returns-clause-rest : goal.returns-clause-rest
returns-clause-rest c = others_left c.self.inside.held c.pop_first.new.self c.args.self.now c.self.view_is c.pop_first.result c.pop_first.ensures.updates c.pop_first.ensures.unchanged
