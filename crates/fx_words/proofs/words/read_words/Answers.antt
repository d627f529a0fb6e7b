use Rattle.std.proofs.Common.{◌∙◌, ap, is_some, sym}
use Rattle.fx_words.proofs.Unplain.{unplain_asks_nothing}
use Rattle.fx_words.proofs.words.read_words.Goals as goal

pub returns-in_default : goal.returns-in_default
returns-in_default c = sym (unplain_asks_nothing c.args.words.now (sym c.in_ok-texts.ensures.plain ∙ ap (λ o. is_some o) c.in_default.is))
