use Rattle.std.proofs.Common.{◌≡◌, false, cond, ◌&&◌, ap, sym, ◌∙◌}
use Rattle.std.specs.Str.{bytes_eq}
use Rattle.fx_rows.specs.RowTexts.{create_text}
use Rattle.fx_found.specs.NameForms.{is_set_name}
use Rattle.fx_found.specs.declared.row.Row.{Row}
use Rattle.fx_found.specs.declared.row.Row.TheVariants as row
use Rattle.fx_found.proofs.row.own_create.Goals as goal

pub returns : goal.returns
returns c =
    let name = c.args.name.now in
    let is : c.bytes.result.now ≡ create_text name = c.bytes.ensures ∙ c.in_ok-printed.ensures ∙ ap create_text c.join-name.ensures in
    let other : bytes_eq (create_text name) c.args.text.now ≡ false = sym (ap (λ t. bytes_eq t c.args.text.now) is) ∙ sym c.if-eq.ensures in
    sym (λ j. cond (sym c.if-not-is_set_name.ensures.form j && other j) (row.Create name) row.Bad)
