use Rattle.std.proofs.Common.{◌∙◌, sym, arith}
use Rattle.std.specs.Prelude.{decimal}
use Rattle.std.proofs.lemmas.Bool.{both_ways}
use Rattle.std.proofs.lemmas.Slice.Eq.{bytes_eq-Decides}
use Rattle.fx_words.proofs.DecimalTexts.{no_numeral, other_text, same_text}
use Rattle.fx_words.proofs.numbers.number.Goals as goal
use Rattle.fx_words.proofs.numbers.number.Goals.{then-most-value-via-then-most-value, then-most-value-via-else-most-value+then-not-is_text_of}

pub returns-in_default : goal.returns-in_default
returns-in_default c = no_numeral c.args.most c.args.word.now (omega arith) c.in_default.ensures.value.0

pub returns-then-most-value : goal.returns-then-most-value
returns-then-most-value c =
    other_text c.args.most c.in-Ok.value c.args.word.now (omega arith) c.in-Ok.ensures.value.0.1
    (elim c.then-most-value.branch [
      | then-most-value-via-then-most-value w ↦ λ same. w.if-most-value.true
      | then-most-value-via-else-most-value+then-not-is_text_of w ↦ λ same. absurd (both_ways w.is_text_of.result w.if-not-is_text_of.true
          (w.is_text_of.ensures ∙ (bytes_eq-Decides c.args.word.now (decimal c.in-Ok.value)).1 same))
    ])

pub returns : goal.returns
returns c =
    same_text c.args.most c.in-Ok.value c.args.word.now (omega (arith, c.in-Ok.ensures.value.0))
    ((bytes_eq-Decides c.args.word.now (decimal c.in-Ok.value)).0 (sym c.is_text_of.ensures ∙ c.if-not-is_text_of.false)) c.if-most-value.false
