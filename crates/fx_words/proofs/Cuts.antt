-- The definition cuts plain words as clap does.
use Rattle.std.proofs.Common.{◌≡◌, ◌∙◌, ◌+◌, ◌&&◌, ◌||◌, Bool, true, not, cond, refl, sym, ap, inl, inr, ℕ, suc, List, [], ◌∷◌, take, drop, Option, Some, None, arith}
use Rattle.std.specs.Prelude.{option_and_then, ◌==◌}
use Rattle.std.specs.List.{list_any, position_or_len}
use Rattle.std.proofs.lemmas.Bool.{both_ways, cases_Bool}
use Rattle.clap.specs.Lexer.{long_of, long_of_rest, name_and_value, strip_byte}
use Rattle.fx_words.specs.Words.{cut, option_in}
use Rattle.fx_words.specs.Splitting.{is_plain}
use Rattle.fx_words.proofs.Forms.{is_hyphen, not_the_end}

abbrev pub Cut : Type 0
Cut = List ℕ × Option (List ℕ)

abbrev is_equals : ℕ → Bool
is_equals b = b == 61

-- the two cuts of a text, by whether its first byte is `=`
abbrev pub cut_by : ℕ → List ℕ → Bool → Cut
cut_by b bs t = cond t ([], Some bs) (b ∷ (cut bs).0, (cut bs).1)

abbrev clap_by : ℕ → List ℕ → Bool → Cut
clap_by b bs t =
    let at = cond (not t) (1 + position_or_len is_equals bs) 0 in
    (take at (b ∷ bs), cond (t || list_any is_equals bs) (Some (drop (at + 1) (b ∷ bs))) None)

cut_is : (text : List ℕ) → cut text ≡ name_and_value text
cut_is [] = refl
cut_is (b ∷ bs) =
    let n = position_or_len is_equals bs in
    let has = list_any is_equals bs in
    let one_more : 1 + n ≡ suc n = omega arith in
    let two_more : 1 + n + 1 ≡ suc (n + 1) = omega arith in
    let name : b ∷ (cut bs).0 ≡ take (1 + n) (b ∷ bs) = ap (λ (p : Cut). b ∷ p.0) (cut_is bs) ∙ sym (ap (λ (k : ℕ). take k (b ∷ bs)) one_more) in
    let value : (cut bs).1 ≡ cond has (Some (drop (1 + n + 1) (b ∷ bs))) None =
    ap (λ (p : Cut). p.1) (cut_is bs) ∙ sym (ap (λ (k : ℕ). cond has (Some (drop k (b ∷ bs))) None) two_more) in
    elim (cases_Bool (is_equals b)) [
      | inl e ↦ ap (cut_by b bs) e ∙ sym (ap (clap_by b bs) e)
      | inr e ↦ ap (cut_by b bs) e ∙ (λ i. (name i, value i)) ∙ sym (ap (clap_by b bs) e)
    ]

-- what clap cuts, by the first hyphen and by the second
abbrev by_first : List ℕ → Bool → Option Cut
by_first rest t = option_and_then long_of_rest (option_and_then (strip_byte 45) (cond t (Some rest) None))

abbrev by_second : List ℕ → Bool → Option Cut
by_second rest t = option_and_then long_of_rest (cond t (Some rest) None)

abbrev wanted : List ℕ → Bool → Option Cut
wanted rest t = cond t (Some (cut rest)) None

pub option_is : (word : List ℕ) → is_plain word ≡ true → option_in word ≡ long_of word
option_is [] p = refl
option_is (a ∷ []) p = elim (cases_Bool (is_hyphen a)) [ inl e ↦ sym (ap (by_first []) e) | inr e ↦ sym (ap (by_first []) e) ]
option_is (a ∷ b ∷ rest) p = elim (cases_Bool (is_hyphen a)) [
  | inr e ↦ (λ i. wanted rest (e i && is_hyphen b)) ∙ sym (ap (by_first (b ∷ rest)) e)
  | inl e ↦ elim (cases_Bool (is_hyphen b)) [
    | inr f ↦ (λ i. wanted rest (e i && f i)) ∙ sym (ap (by_first (b ∷ rest)) e ∙ ap (by_second rest) f)
    | inl f ↦ (λ i. wanted rest (e i && f i)) ∙ both a b rest p e f ∙ sym (ap (by_first (b ∷ rest)) e ∙ ap (by_second rest) f)
  ]
]
  where
    both : (a b : ℕ) (rest : List ℕ) → is_plain (a ∷ b ∷ rest) ≡ true → is_hyphen a ≡ true → is_hyphen b ≡ true → Some (cut rest) ≡ long_of_rest rest
    both a b [] p e f = absurd (both_ways _ (not_the_end (a ∷ b ∷ []) p) (λ i. e i && (f i && true)))
    both a b (c ∷ cs) p e f = ap (λ (q : Cut). Some q) (cut_is (c ∷ cs))
