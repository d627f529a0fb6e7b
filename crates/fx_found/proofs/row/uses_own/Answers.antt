use Rattle.std.proofs.Common.{sym, ◌∙◌}
use Rattle.fx_found.proofs.NamedRows.{some_bytes, uses_here, uses_later}
use Rattle.fx_found.proofs.row.uses_own.Goals as goal

pub returns-then-is_own_word : goal.returns-then-is_own_word
returns-then-is_own_word c =
    uses_here c.words.later.now c.next_word.result.0.now c.next_word.result.1.now
    (some_bytes c.words.later.now c.is_empty.result c.is_empty.ensures c.words-test.true) c.next_word.ensures.first c.next_word.ensures.later
    (sym c.is_own_word.ensures ∙ c.if-is_own_word.true)
    ∙ c.words.invariant

pub words-preserved : goal.words-preserved
words-preserved c =
    uses_later c.words.later.now c.next_word.result.0.now c.next_word.result.1.now
    (some_bytes c.words.later.now c.is_empty.result c.is_empty.ensures c.words-test.true) c.next_word.ensures.first c.next_word.ensures.later
    (sym c.is_own_word.ensures ∙ c.if-is_own_word.false)
    ∙ c.words.invariant
