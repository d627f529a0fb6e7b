use Rattle.std.proofs.Common.{map, ap, ◌∙◌}
use Rattle.std.specs.Cmp.Lexicographic.{nat_list_cmp_total}
use Rattle.fx_base.specs.Extended.{extended, collected}
use Rattle.fx_base.proofs.Entries.{walked}
use Rattle.fx_selector.specs.Prefixed.{prefixed_entry}
use Rattle.fx_selector.specs.Truth.{LabelMap}
use Rattle.fx_selector.proofs.labels.Labels.prefixed.Goals as goal

pub loop-key-init : goal.loop-key-init
loop-key-init c =
    ap (λ (m : LabelMap). extended m (map (prefixed_entry c.args.prefix.now) c.deref-key-items.result.now)) c.new-labels.ensures
    ∙ ap (λ es. collected (map (prefixed_entry c.args.prefix.now) es)) (c.deref-key-items.ensures.value ∙ walked nat_list_cmp_total _ _ c.self.view_is c.self.invariant)
