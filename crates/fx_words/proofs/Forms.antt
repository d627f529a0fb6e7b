-- What a plain word can be: an option of two hyphens, one of one hyphen, or a word without.
use Rattle.std.proofs.Common.{◌≡◌, ◌⊎◌, ◌&&◌, Bool, true, false, cond, refl, ap, inl, inr, ℕ, List, [], ◌∷◌, Option, Some, None, ◌∙◌}
use Rattle.std.specs.Prelude.{codes, slice_get, slice_index, ◌==◌, nat_lt, option_and_then}
use Rattle.std.specs.Str.{bytes_eq, chars, chars_after, lead_bits}
use Rattle.std.proofs.lemmas.Bool.{and_parts, both_ways, cases_Bool, not-true}
use Rattle.clap.specs.Lexer.{long_of, long_of_rest, name_and_value, short_of, short_of_rest, strip_byte}
use Rattle.clap.specs.Walk.{Text}
use Rattle.fx_words.specs.Splitting.{is_plain}

abbrev pub is_hyphen : ℕ → Bool
is_hyphen b = b == 45

pub record IsLong (word : List ℕ) : Type 0 where
  pub name : List ℕ
  pub value : Option Text
  pub is : long_of word ≡ Some (name, value)
  pub first : is_hyphen (slice_index word 0) ≡ true

pub record IsShort (word : List ℕ) : Type 0 where
  pub char : ℕ
  pub rest : List ℕ
  pub none : long_of word ≡ None
  pub is : short_of word ≡ Some (char ∷ rest)
  pub small : nat_lt char 128 ≡ true
  pub first : is_hyphen (slice_index word 0) ≡ true

pub record IsBare (word : List ℕ) : Type 0 where
  pub none : long_of word ≡ None
  pub short : short_of word ≡ None
  pub first : is_hyphen (slice_index word 0) ≡ false

-- the word isn't `--`
pub not_the_end : (word : List ℕ) → is_plain word ≡ true → bytes_eq word (codes "--") ≡ false
not_the_end word p = not-true _ (and_parts _ _ (and_parts _ _ p).1).1

not_a_hyphen : (word : List ℕ) → is_plain word ≡ true → bytes_eq word (codes "-") ≡ false
not_a_hyphen word p = not-true _ (and_parts _ _ (and_parts _ _ p).1).0

-- ---- by the first two bytes

bare_word : (b : ℕ) (bs : List ℕ) → is_hyphen b ≡ false → IsBare (b ∷ bs)
bare_word b bs e = record {
  none = ap (λ (t : Bool). option_and_then long_of_rest (option_and_then (strip_byte 45) (cond t (Some bs) None))) e;
  short = ap (λ (t : Bool). option_and_then short_of_rest (cond t (Some bs) None)) e;
  first = e;
}

short_word : (b c : ℕ) (cs : List ℕ) → is_hyphen b ≡ true → is_hyphen c ≡ false → nat_lt c 128 ≡ true → IsShort (b ∷ c ∷ cs)
short_word b c cs e f small = record {
  char = c;
  rest = cs;
  none = ap (λ (t : Bool). option_and_then long_of_rest (option_and_then (strip_byte 45) (cond t (Some (c ∷ cs)) None))) e
      ∙ ap (λ (t : Bool). option_and_then long_of_rest (cond t (Some cs) None)) f;
  is = ap (λ (t : Bool). option_and_then short_of_rest (cond t (Some (c ∷ cs)) None)) e ∙ ap (λ (t : Bool). cond t None (Some (c ∷ cs))) f;
  small = small;
  first = e;
}

long_word : (b c d : ℕ) (ds : List ℕ) → is_hyphen b ≡ true → is_hyphen c ≡ true → IsLong (b ∷ c ∷ d ∷ ds)
long_word b c d ds e f = record {
  name = (name_and_value (d ∷ ds)).0;
  value = (name_and_value (d ∷ ds)).1;
  is = ap (λ (t : Bool). option_and_then long_of_rest (option_and_then (strip_byte 45) (cond t (Some (c ∷ d ∷ ds)) None))) e
      ∙ ap (λ (t : Bool). option_and_then long_of_rest (cond t (Some (d ∷ ds)) None)) f;
  first = e;
}

abbrev pub Form : List ℕ → Type 0
Form word = IsLong word ⊎ (IsShort word ⊎ IsBare word)

two_hyphens : (b c : ℕ) (rest : List ℕ) → is_plain (b ∷ c ∷ rest) ≡ true → is_hyphen b ≡ true → is_hyphen c ≡ true → Form (b ∷ c ∷ rest)
two_hyphens b c [] p e f = absurd (both_ways _ (not_the_end (b ∷ c ∷ []) p) (λ i. e i && (f i && true)))
two_hyphens b c (d ∷ ds) p e f = inl (long_word b c d ds e f)

one_hyphen : (b : ℕ) (rest : List ℕ) → is_plain (b ∷ rest) ≡ true → is_hyphen b ≡ true → Form (b ∷ rest)
one_hyphen b [] p e = absurd (both_ways _ (not_a_hyphen (b ∷ []) p) (λ i. e i && true))
one_hyphen b (c ∷ cs) p e = elim (cases_Bool (is_hyphen c)) [
  | inl f ↦ two_hyphens b c cs p e f
  | inr f ↦ inr (inl (short_word b c cs e f (and_parts _ _ (and_parts _ _ (and_parts _ _ p).0).1).0))
]

pub form_of : (word : List ℕ) → is_plain word ≡ true → Form word
form_of [] p = inr (inr (record { none = refl; short = refl; first = refl }))
form_of (b ∷ rest) p = elim (cases_Bool (is_hyphen b)) [
  | inl e ↦ one_hyphen b rest p e
  | inr e ↦ inr (inr (bare_word b rest e))
]

-- a word whose first byte isn't `-`
pub bare_form : (word : List ℕ) → is_plain word ≡ true → is_hyphen (slice_index word 0) ≡ false → IsBare word
bare_form word p first = elim (form_of word p) [
  | inl l ↦ absurd (both_ways _ first l.first)
  | inr other ↦ elim other [
    | inl s ↦ absurd (both_ways _ first s.first)
    | inr b ↦ b
  ]
]

-- ---- the first character of a text in ASCII

pub first_char : (b : ℕ) (bs : List ℕ) → nat_lt b 128 ≡ true → slice_get (chars (b ∷ bs)) 0 ≡ Some (lead_bits b)
unfolding chars
first_char b [] e = ap (λ (t : Bool). slice_get (chars_after (cond t 0 (cond (nat_lt b 224) 1 (cond (nat_lt b 240) 2 3))) (lead_bits b) []) 0) e
first_char b (c ∷ cs) e = ap (λ (t : Bool). slice_get (chars_after (cond t 0 (cond (nat_lt b 224) 1 (cond (nat_lt b 240) 2 3))) (lead_bits b) (c ∷ cs)) 0) e
