use Rattle.std.proofs.Common.{◌≡◌, ◌∙◌, sym, true}
use Rattle.fx_words.specs.Splitting.{is_plain}
use Rattle.fx_words.proofs.PlainTexts.{reads_text}
use Rattle.fx_words.proofs.words.plain_text.Goals as goal

pub returns-clause-plain : goal.returns-clause-plain
returns-clause-plain c =
    let plain : is_plain c.args.word.now ≡ true = sym c.is_plain.ensures ∙ c.if-not-is_plain.false in
    c.ok.ensures.variant ∙ reads_text c.from_utf8.result _ _ c.args.word.now c.from_utf8.ensures.cases plain ∙ sym plain
