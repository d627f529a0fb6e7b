use Rattle.std.proofs.Common.{◌||◌, ap, sym, ◌∙◌}
use Rattle.std.specs.Option.{option_copied}
use Rattle.std.specs.FinMap as map
use Rattle.fx_base.specs.Set as set
use Rattle.fx_selector.specs.Needs.{need_in}
use Rattle.fx_label_rows.specs.Labelled.{meets_in, in_found}
use Rattle.fx_label_rows.proofs.ItemLemmas.{found_row, no_item, nothing_more}
use Rattle.fx_label_rows.proofs.by_label.ItemsByLabel.meeting.Goals as goal

pub returns : goal.returns
returns c = λ i.
    let key = c.in-Some.requirement.key.now in
    let values = option_copied c.in-Some.requirement.values in
    c.in_ok-put_row.ensures i
    ∙ ap (λ b. in_found (option_copied c.get-found.result) values i || b) (ap (λ s. set.contains s i) c.new-items.ensures ∙ no_item i)
    ∙ nothing_more _ ∙ ap (λ f. in_found f values i) c.get-found.ensures
    ∙ found_row c.args.rows.now c.args.self.now.by_key c.requires key i values
    ∙ ap (λ n. meets_in n (map.get c.args.rows.now i)) (sym (ap need_in c.in-Some.is))
