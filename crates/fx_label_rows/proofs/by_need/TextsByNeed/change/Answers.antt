use Rattle.std.proofs.Common.{cond, ◌&&◌, sym, ap, ◌∙◌}
use Rattle.std.specs.Option.{option_copied}
use Rattle.fx_selector.specs.Needs.{need_in}
use Rattle.fx_label_rows.specs.Spots.{stands, at}
use Rattle.fx_base.specs.Grouped.{same_text}
use Rattle.fx_label_rows.proofs.TextLemmas.{values_changed, needing}
use Rattle.fx_label_rows.proofs.by_need.TextsByNeed.change.Goals as goal

pub returns : goal.returns
returns c = λ s t.
    let x = c.args.self.now in
    let key = c.in-Some.requirement.key.now in
    values_changed x c.change_values.new.by_value key c.in-Some-values.values.now c.args.text.now c.args.standing c.in_ok-change_values.ensures s t
    ∙ ap (λ n. cond (stands n s && same_text t c.args.text.now) c.args.standing (at x s t))
    (sym (ap need_in c.in-Some.is ∙ ap (needing key) (ap option_copied c.in-Some-values.is)))
