use Rattle.std.proofs.Common.{ap, ◌∙◌}
use Rattle.std.specs.FinMap.{from_entries}
use Rattle.std.specs.Cmp.Lexicographic.{nat_list_cmp_total}
use Rattle.fx_base.specs.Extended.{extended}
use Rattle.fx_base.proofs.Entries.{walked}
use Rattle.fx_selector.specs.Truth.{LabelMap}
use Rattle.fx_selector.proofs.labels.Labels.put_all.Goals as goal

pub loop-key-init : goal.loop-key-init
loop-key-init c =
    let held : LabelMap = c.args.self.now in
    ap (λ (m : LabelMap). extended m c.deref-key-items.result.now) (ap from_entries c.in_ok-reserve_exact.ensures.items ∙ c.self.view_is)
    ∙ ap (extended held) (c.deref-key-items.ensures.value ∙ walked nat_list_cmp_total _ _ c.labels.view_is c.labels.invariant)
