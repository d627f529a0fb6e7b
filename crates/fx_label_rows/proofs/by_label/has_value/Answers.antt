use Rattle.std.proofs.Common.{false, ap, ◌∙◌}
use Rattle.std.specs.Cmp.Lexicographic.{texts_ties}
use Rattle.std.specs.Option.{option_map_or}
use Rattle.fx_base.specs.Grouped.{same_text}
use Rattle.fx_label_rows.proofs.by_label.has_value.Goals as goal

pub returns-in-Some : goal.returns-in-Some
returns-in-Some c =
    c.is_value.ensures ∙ texts_ties c.args.value.now c.in-Some.found.now
    ∙ ap (λ o. option_map_or (λ x. same_text c.args.value.now x) o false) c.in-Some.ensures

pub returns-in-None : goal.returns-in-None
returns-in-None c = ap (λ o. option_map_or (λ x. same_text c.args.value.now x) o false) c.in-None.ensures
