-- Words that are the decimal texts of numbers.
use Rattle.std.proofs.Common.{◌≡◌, ◌∙◌, ◌&&◌, Bool, true, cond, sym, ap, subst, inl, inr, ℕ, ◌^◌, ◌<◌, ◌≤◌, List, [], ◌∷◌, drop, Some, None, arith}
use Rattle.std.specs.Prelude.{decimal, nat_le, ◌==◌}
use Rattle.std.specs.Char.{digit_value}
use Rattle.std.specs.Str.{bytes_eq}
use Rattle.std.specs.Str.Parse.{IsNumeral, digits_value, without_leading_plus}
use Rattle.std.proofs.lemmas.Bool.{and_parts, cases_Bool, eqb-true, le-leb, leb-true}
use Rattle.std.proofs.lemmas.Fmt.{decimal_is_IsNumeral}
use Rattle.std.proofs.lemmas.Slice.Eq.{bytes_eq-Decides}
use Rattle.fx_words.specs.Words.{number_of}

abbrev pub is_text_of : ℕ → List ℕ → Bool
is_text_of most s = bytes_eq s (decimal (digits_value 10 s)) && nat_le (digits_value 10 s) most

-- a numeral doesn't begin with a plus, so `parse` reads all of it
numeral_whole : (s : List ℕ) → IsNumeral 10 s → without_leading_plus s ≡ s
numeral_whole [] n = absurd (omega (arith, n.0))
numeral_whole (b ∷ bs) n = elim (cases_Bool (b == 43)) [
  | inl plus ↦ absurd (omega (arith, subst (λ x. digit_value x < 10) (eqb-true b 43 plus) n.1.0))
  | inr other ↦ ap (λ (t : Bool). drop (cond t 1 0) (b ∷ bs)) other
]

-- of a word that is a number's text
pub text_whole : (most : ℕ) (s : List ℕ) → most < 2 ^ 64 → is_text_of most s ≡ true → IsNumeral 10 s
text_whole most s small e =
    let parts = and_parts (bytes_eq s (decimal (digits_value 10 s))) (nat_le (digits_value 10 s) most) e in
    let fits : digits_value 10 s < 2 ^ 64 = omega (arith, leb-true (digits_value 10 s) most parts.1) in
    let whole : s ≡ decimal (digits_value 10 s) = (bytes_eq-Decides s (decimal (digits_value 10 s))).0 parts.0 in
    subst (IsNumeral 10) (sym whole) (decimal_is_IsNumeral (digits_value 10 s) fits).0

text_is_numeral : (most : ℕ) (s : List ℕ) → most < 2 ^ 64 → is_text_of most s ≡ true → IsNumeral 10 (without_leading_plus s) × (digits_value 10 (without_leading_plus s) < 2 ^ 64)
text_is_numeral most s small e =
    let parts = and_parts (bytes_eq s (decimal (digits_value 10 s))) (nat_le (digits_value 10 s) most) e in
    let fits : digits_value 10 s < 2 ^ 64 = omega (arith, leb-true (digits_value 10 s) most parts.1) in
    let numeral = text_whole most s small e in
    let same = numeral_whole s numeral in
    (subst (IsNumeral 10) (sym same) numeral, subst (λ (t : List ℕ). digits_value 10 t < 2 ^ 64) (sym same) fits)

-- `parse` refuses the word
pub no_numeral : (most : ℕ) (s : List ℕ) → most < 2 ^ 64 → ¬ (IsNumeral 10 (without_leading_plus s) × (digits_value 10 (without_leading_plus s) < 2 ^ 64)) → None ≡ number_of most s
no_numeral most s small none = elim (cases_Bool (is_text_of most s)) [
  | inl e ↦ absurd (none (text_is_numeral most s small e))
  | inr e ↦ ap (λ (t : Bool). cond t (Some (digits_value 10 s)) None) (sym e)
]

-- the word is the text of what `parse` read
pub same_text : (most value : ℕ) (s : List ℕ) → value < 2 ^ 64 → s ≡ decimal value → value ≤ most → Some value ≡ number_of most s
same_text most value s fits is small =
    let reads : digits_value 10 s ≡ value = ap (digits_value 10) is ∙ (decimal_is_IsNumeral value fits).1 in
    let text : bytes_eq s (decimal (digits_value 10 s)) ≡ true = (bytes_eq-Decides s (decimal (digits_value 10 s))).1 (is ∙ ap decimal (sym reads)) in
    let below : nat_le (digits_value 10 s) most ≡ true = ap (λ (n : ℕ). nat_le n most) reads ∙ le-leb value most small in
    ap Some (sym reads) ∙ sym (λ i. cond (text i && below i) (Some (digits_value 10 s)) None)

-- it isn't, or is too great
pub other_text : (most value : ℕ) (s : List ℕ) → most < 2 ^ 64 → value ≡ digits_value 10 (without_leading_plus s) → (s ≡ decimal value → most < value) → None ≡ number_of most s
other_text most value s small is other = elim (cases_Bool (is_text_of most s)) [
  | inl e ↦
      let parts = and_parts (bytes_eq s (decimal (digits_value 10 s))) (nat_le (digits_value 10 s) most) e in
      let whole : s ≡ decimal (digits_value 10 s) = (bytes_eq-Decides s (decimal (digits_value 10 s))).0 parts.0 in
      let value_is : value ≡ digits_value 10 s = is ∙ ap (digits_value 10) (numeral_whole s (text_whole most s small e)) in
      let greater : most < value = other (whole ∙ ap decimal (sym value_is)) in
      absurd (omega (arith, greater, value_is, leb-true (digits_value 10 s) most parts.1))
  | inr e ↦ ap (λ (t : Bool). cond t (Some (digits_value 10 s)) None) (sym e)
]
