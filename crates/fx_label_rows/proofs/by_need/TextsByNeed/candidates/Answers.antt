use Rattle.std.specs.Slice.Iter.{iter_rest}
use Rattle.std.proofs.Common.{◌||◌, ap, ◌∙◌}
use Rattle.std.specs.List.{list_any}
use Rattle.std.specs.FinMap as map
use Rattle.fx_base.specs.Set as set
use Rattle.fx_label_rows.specs.Spots.{at_label}
use Rattle.fx_label_rows.proofs.TextLemmas.{none_there, nothing_more}
use Rattle.fx_label_rows.proofs.by_need.TextsByNeed.candidates.Goals as goal

pub loop-key-init : goal.loop-key-init
loop-key-init c = λ t.
    let x = c.args.self.now in
    ap (λ es. list_any (at_label x t) es || set.contains c.put_all.new.texts t) (ap iter_rest c.into_iter-key-iterator.ensures.into_iter_gives ∙ c.iter-key-items.ensures)
    ∙ ap (λ b. list_any (at_label x t) (map.entries c.args.labels.now) || b)
    (c.in_ok-put_all.ensures t ∙ ap (λ b. set.contains x.free t || b) (ap (λ s. set.contains s t) c.new-texts.ensures ∙ none_there t) ∙ nothing_more (set.contains x.free t))
