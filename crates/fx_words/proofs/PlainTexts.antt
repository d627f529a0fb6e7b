-- Plain words are texts.
use Rattle.std.proofs.Common.{◌≡◌, true, ℕ, List, Result, Ok, Err, MatchResult, refl}
use Rattle.std.specs.Prelude.{nat_lt}
use Rattle.std.specs.Str.{IsUtf8}
use Rattle.std.specs.Result.{is_ok}
use Rattle.std.proofs.lemmas.Bool.{and_parts, ltb-true}
use Rattle.std.proofs.lemmas.List.Sums.{AllPass-from_list_all}
use Rattle.std.proofs.lemmas.Str.{IsUtf8-from_ascii}
use Rattle.std.proofs.lemmas.Str.Ascii.{IsAscii-from_all}
use Rattle.fx_words.specs.Splitting.{is_plain}

plain_is_text : (word : List ℕ) → is_plain word ≡ true → IsUtf8 word
plain_is_text word p =
    IsUtf8-from_ascii word (IsAscii-from_all word (λ k d below. ltb-true _ _ (AllPass-from_list_all (λ b. nat_lt b 128) word (and_parts _ _ p).0 k d below)))

-- what is read as a text where it is one
pub reads_text : {T E : Type 0} (r : Result T E) (P : T → Type 0) (Q : E → Type 0) (word : List ℕ) → MatchResult r (λ s. P s × IsUtf8 word) (λ e. ¬ (IsUtf8 word) × Q e) → is_plain word ≡ true → is_ok r ≡ true
reads_text (Ok x) P Q word h p = refl
reads_text (Err e) P Q word h p = absurd (h.0 (plain_is_text word p))
