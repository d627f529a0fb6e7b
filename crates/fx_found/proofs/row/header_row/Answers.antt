use Rattle.std.proofs.Common.{drop, sym, ap, ◌∙◌}
use Rattle.std.proofs.lemmas.Result.{IfOk-weaker}
use Rattle.fx_found.specs.declared.row.Row.TheVariants.{ForeignHeader}
use Rattle.fx_found.specs.Pieces.{word}
use Rattle.fx_found.specs.NameForms.{is_own_chain}
use Rattle.fx_found.specs.Rows.{own_header}
use Rattle.fx_found.proofs.NamedRows.{behind_bytes, own_named}
use Rattle.fx_found.proofs.row.header_row.Goals as goal

pub returns-then-is_own_chain : goal.returns-then-is_own_chain
returns-then-is_own_chain c =
    let text = c.args.text.now in
    IfOk-weaker c.own_header.result _ _
    (λ r e. e ∙ own_named is_own_chain ForeignHeader (own_header text) c.next_word.result.0.now (word (drop 1 text)) (c.next_word.ensures.first ∙ ap word (behind_bytes 1 text)) c.is_empty.result c.is_empty.ensures c.if-is_empty.false (sym c.is_own_chain.ensures ∙ c.if-is_own_chain.true))
    c.own_header.ensures
