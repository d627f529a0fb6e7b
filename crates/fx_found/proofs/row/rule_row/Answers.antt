use Rattle.std.proofs.Common.{List, drop, sym, ap, ◌∙◌}
use Rattle.std.specs.Prelude.{ℕ}
use Rattle.std.proofs.lemmas.Result.{IfOk-weaker}
use Rattle.fx_found.specs.declared.row.Row.TheVariants.{ForeignRule}
use Rattle.fx_found.specs.Pieces.{word, rest}
use Rattle.fx_found.specs.NameForms.{is_own_chain}
use Rattle.fx_found.specs.Rows.{own_rule, uses_own}
use Rattle.fx_found.proofs.NamedRows.{behind_bytes, own_named}
use Rattle.fx_found.proofs.row.rule_row.Goals as goal

pub returns-then-is_own_chain : goal.returns-then-is_own_chain
returns-then-is_own_chain c =
    let text = c.args.text.now in
    let name = c.next_word.result.0.now in
    IfOk-weaker c.own_rule.result _ _
    (λ r e. e
    ∙ ap (λ (t : List ℕ). own_rule t name) (c.next_word.ensures.later ∙ ap rest (behind_bytes 3 text))
    ∙ own_named is_own_chain (ForeignRule (uses_own text)) (own_rule (rest (drop 3 text))) name (word (drop 3 text)) (c.next_word.ensures.first ∙ ap word (behind_bytes 3 text)) c.is_empty.result c.is_empty.ensures c.if-is_empty.false (sym c.is_own_chain.ensures ∙ c.if-is_own_chain.true))
    c.own_rule.ensures
