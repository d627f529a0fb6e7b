use Rattle.std.proofs.Common.{◌≡◌, true, take}
use Rattle.fx_words.specs.Splitting.{are_plain, texts_of}
use Rattle.fx_words.proofs.words.plain_texts.Given as goal

-- the words so far are plain, and these are their texts
abbrev pub invariant-loop-word : goal.invariant-loop-word
invariant-loop-word l = (texts_of l.texts.items ≡ take l.word-index l.words) × (are_plain (take l.word-index l.words) ≡ true)
