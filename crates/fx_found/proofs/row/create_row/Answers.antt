use Rattle.std.proofs.Common.{drop, sym, ap, ◌∙◌}
use Rattle.std.proofs.lemmas.Result.{IfOk-weaker}
use Rattle.fx_found.specs.declared.row.Row.TheVariants.{ForeignSet}
use Rattle.fx_found.specs.Pieces.{word}
use Rattle.fx_found.specs.NameForms.{is_own_set}
use Rattle.fx_found.specs.Rows.{own_create}
use Rattle.fx_found.proofs.NamedRows.{behind_bytes, own_named, foreign_named}
use Rattle.fx_found.proofs.row.create_row.Goals as goal

pub returns-then-is_own_set : goal.returns-then-is_own_set
returns-then-is_own_set c =
    let text = c.args.text.now in
    IfOk-weaker c.own_create.result _ _
    (λ r e. e ∙ own_named is_own_set ForeignSet (own_create text) c.next_word.result.0.now (word (drop 7 text)) (c.next_word.ensures.first ∙ ap word (behind_bytes 7 text)) c.is_empty.result c.is_empty.ensures c.if-is_empty.false (sym c.is_own_set.ensures ∙ c.if-is_own_set.true))
    c.own_create.ensures

pub returns-else-is_own_set : goal.returns-else-is_own_set
returns-else-is_own_set c =
    let text = c.args.text.now in
    foreign_named is_own_set ForeignSet (own_create text) c.next_word.result.0.now (word (drop 7 text)) (c.next_word.ensures.first ∙ ap word (behind_bytes 7 text)) c.is_empty.result c.is_empty.ensures c.if-is_empty.false (sym c.is_own_set.ensures ∙ c.if-is_own_set.false)
