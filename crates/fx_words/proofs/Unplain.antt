-- Words of which one isn't plain ask for nothing.
use Rattle.std.proofs.Common.{◌≡◌, ◌∙◌, ◌&&◌, ◌||◌, ◌-◌, ◌^◌, ◌<◌, Bool, true, false, not, cond, refl, sym, ap, subst, inl, inr, ℕ, suc, List, [], ◌∷◌, Option, Some, None, is_some, option_map, unwrap_or, true≢false, arith}
use Rattle.std.specs.Prelude.{codes, find, nat_lt, option_and_then, slice_index, ◌==◌}
use Rattle.std.specs.List.{list_all, list_any}
use Rattle.std.specs.Str.{IsAscii, bytes_eq}
use Rattle.std.specs.Str.Parse.{digits_value}
use Rattle.std.proofs.lemmas.Bool.{and_from, and_parts, both_ways, cases_Bool, eqb-true, lt-ltb, not-true, or_cases}
use Rattle.std.proofs.lemmas.Bool.Decides.{nat_tests}
use Rattle.std.proofs.lemmas.Fmt.{IsAscii-from_digits}
use Rattle.std.proofs.lemmas.Slice.Eq.{bytes_eq-Decides}
use Rattle.fx_fields.specs.Forms.{is_name_byte}
use Rattle.fx_words.specs.Words.{Use, are_single, asked_at, asked_of, asked_on, asked_with, before, cut, first_met, is_node_name, last_met, met, met_last, most_lines, named, named_apart, number_of, option_in, single, soak_in, soak_with, uses_of, value_in, values_in}
use Rattle.fx_words.specs.Splitting.{are_plain, is_plain}
use Rattle.fx_words.specs.declared.words.Asked.{Asked}
use Rattle.fx_words.specs.declared.words.Soak.{Soak}
use Rattle.fx_words.proofs.Options.{is_option}
use Rattle.fx_words.proofs.Forms.{is_hyphen}
use Rattle.fx_words.proofs.Cuts.{Cut, cut_by}
use Rattle.fx_words.proofs.DecimalTexts.{is_text_of, text_whole}

abbrev is_ascii : List ℕ → Bool
is_ascii s = list_all (λ b. nat_lt b 128) s

-- ---- values in their forms

ascii_all : (s : List ℕ) → IsAscii s → is_ascii s ≡ true
ascii_all [] h = refl
ascii_all (b ∷ bs) h = and_from (nat_lt b 128) (is_ascii bs) (lt-ltb b 128 (h 0)) (ascii_all bs (λ i. h (suc i)))

all_weaker : (p q : ℕ → Bool) → ((b : ℕ) → p b ≡ true → q b ≡ true) → (s : List ℕ) → list_all p s ≡ true → list_all q s ≡ true
all_weaker p q weaker [] h = refl
all_weaker p q weaker (b ∷ bs) h =
    let parts = and_parts (p b) (list_all p bs) h in
    and_from (q b) (list_all q bs) (weaker b parts.0) (all_weaker p q weaker bs parts.1)

name_byte_small : (b : ℕ) → is_name_byte b ≡ true → nat_lt b 128 ≡ true
name_byte_small b h = grind (arith, nat_tests)

name_is_ascii : (s : List ℕ) → is_node_name s ≡ true → is_ascii s ≡ true
name_is_ascii s h = all_weaker is_name_byte (λ b. nat_lt b 128) name_byte_small s (and_parts _ _ (and_parts _ _ h).0).1

number_is_ascii : (most : ℕ) (s : List ℕ) → most < 2 ^ 64 → is_some (number_of most s) ≡ true → is_ascii s ≡ true
number_is_ascii most s small h = elim (cases_Bool (is_text_of most s)) [
  | inl e ↦ ascii_all s (IsAscii-from_digits s (text_whole most s small e).1)
  | inr e ↦ absurd (true≢false (sym h ∙ ap (λ (t : Bool). is_some (cond t (Some (digits_value 10 s)) None)) e))
]

-- ---- what was asked has values in their forms

asked_soak : (node : Option (List ℕ)) (soak : Option (Option Soak)) → is_some (asked_on node soak) ≡ true → is_some soak ≡ true
asked_soak None soak h = absurd (true≢false (sym h))
asked_soak (Some n) (Some s) h = refl
asked_soak (Some n) None h = elim (cases_Bool (is_node_name n)) [
  | inl e ↦ sym (ap (λ (t : Bool). is_some (cond t none None)) e) ∙ h
  | inr e ↦ sym (ap (λ (t : Bool). is_some (cond t none None)) e) ∙ h
]
  where
    none : Option Asked
    none = None

asked_node : (n : List ℕ) (soak : Option (Option Soak)) → is_some (asked_on (Some n) soak) ≡ true → is_node_name n ≡ true
asked_node n soak h = elim (cases_Bool (is_node_name n)) [
  | inl e ↦ e
  | inr e ↦ absurd (true≢false (sym h ∙ ap (λ (t : Bool). is_some (cond t (asked_at n soak) None)) e))
]

both_numbers : (seed count : Option ℕ) → is_some (option_map (λ (s : Soak). Some s) (soak_in seed count)) ≡ true → (is_some seed ≡ true) × (is_some count ≡ true)
both_numbers None count h = absurd (true≢false (sym h))
both_numbers (Some s) None h = absurd (true≢false (sym h))
both_numbers (Some s) (Some c) h = (refl, refl)

asked_seed : (s : List ℕ) (count : Option (List ℕ)) → is_some (soak_with (Some s) count) ≡ true → is_some (number_of (2 ^ 64 - 1) s) ≡ true
asked_seed s None h = absurd (true≢false (sym h))
asked_seed s (Some c) h = (both_numbers (number_of (2 ^ 64 - 1) s) (number_of most_lines c) h).0

asked_count : (seed : Option (List ℕ)) (c : List ℕ) → is_some (soak_with seed (Some c)) ≡ true → is_some (number_of most_lines c) ≡ true
asked_count None c h = absurd (true≢false (sym h))
asked_count (Some s) c h = (both_numbers (number_of (2 ^ 64 - 1) s) (number_of most_lines c) h).1

-- what holds of each option's name
option_cases : (P : List ℕ → Type 0) (name : List ℕ) → is_option name ≡ true → P (codes "node") → P (codes "soak") → P (codes "count") → P name
option_cases P name listed node soak count =
    let is_count : Bool = bytes_eq (codes "count") name in
    let is_soak : Bool = bytes_eq (codes "soak") name in
    elim (or_cases (bytes_eq (codes "node") name) (is_soak || (is_count || false)) listed) [
      | inl e ↦ subst P ((bytes_eq-Decides (codes "node") name).0 e) node
      | inr others ↦ elim (or_cases is_soak (is_count || false) others) [
        | inl e ↦ subst P ((bytes_eq-Decides (codes "soak") name).0 e) soak
        | inr other ↦ elim (or_cases is_count false other) [
          | inl e ↦ subst P ((bytes_eq-Decides (codes "count") name).0 e) count
          | inr none ↦ absurd (true≢false (sym none))
        ]
      ]
    ]

-- each option's value is in ASCII
record HasAsciiValues (us : List Use) : Type 0 where
  ascii : (name value : List ℕ) → is_option name ≡ true → value_in name us ≡ Some value → is_ascii value ≡ true

abbrev Named : List Use → List ℕ → Type 0
Named us name = (value : List ℕ) → value_in name us ≡ Some value → is_ascii value ≡ true

node_named : (us : List Use) → is_some (asked_with (values_in us)) ≡ true → Named us (codes "node")
node_named us h value is =
    let soak = soak_with (value_in (codes "soak") us) (value_in (codes "count") us) in
    name_is_ascii value (asked_node value soak (subst (λ (o : Option (List ℕ)). is_some (asked_on o soak) ≡ true) is h))

seed_named : (us : List Use) → is_some (asked_with (values_in us)) ≡ true → Named us (codes "soak")
seed_named us h value is =
    let count = value_in (codes "count") us in
    let soak = asked_soak (value_in (codes "node") us) (soak_with (value_in (codes "soak") us) count) h in
    number_is_ascii (2 ^ 64 - 1) value (omega arith) (asked_seed value count (subst (λ (o : Option (List ℕ)). is_some (soak_with o count) ≡ true) is soak))

count_named : (us : List Use) → is_some (asked_with (values_in us)) ≡ true → Named us (codes "count")
count_named us h value is =
    let seed = value_in (codes "soak") us in
    let soak = asked_soak (value_in (codes "node") us) (soak_with seed (value_in (codes "count") us)) h in
    number_is_ascii most_lines value (omega arith) (asked_count seed value (subst (λ (o : Option (List ℕ)). is_some (soak_with seed o) ≡ true) is soak))

asked_values : (us : List Use) → is_some (asked_with (values_in us)) ≡ true → HasAsciiValues us
asked_values us h = record { ascii = λ name value listed. option_cases (Named us) name listed (node_named us h) (seed_named us h) (count_named us h) value }

-- ---- words that are cut

abbrev value_ascii : Option (List ℕ) → Bool
value_ascii None = true
value_ascii (Some value) = is_ascii value

-- the whole text, where its name and its value are in ASCII
cut_ascii : (text : List ℕ) → is_ascii (cut text).0 ≡ true → value_ascii (cut text).1 ≡ true → is_ascii text ≡ true
cut_ascii [] name value = refl
cut_ascii (b ∷ bs) name value = elim (cases_Bool (b == 61)) [
  | inl e ↦ and_from (nat_lt b 128) (is_ascii bs) (ap (λ (n : ℕ). nat_lt n 128) (eqb-true b 61 e)) (subst (λ (t : Bool). value_ascii (cut_by b bs t).1 ≡ true) e value)
  | inr e ↦
      let first : (nat_lt b 128 && is_ascii (cut bs).0) ≡ true = subst (λ (t : Bool). is_ascii (cut_by b bs t).0 ≡ true) e name in
      let parts = and_parts (nat_lt b 128) (is_ascii (cut bs).0) first in
      and_from (nat_lt b 128) (is_ascii bs) parts.0 (cut_ascii bs parts.1 (subst (λ (t : Bool). value_ascii (cut_by b bs t).1 ≡ true) e value))
]

some_none : {X : Type 0} (x : X) → None ≡ Some x → ⊥
some_none {X} x e = true≢false (sym (ap (λ (o : Option X). is_some o) e))

abbrev cut_where : List ℕ → Bool → Option Cut
cut_where rest t = cond t (Some (cut rest)) None

option_ascii : (word name : List ℕ) (v : Option (List ℕ)) → option_in word ≡ Some (name, v) → is_ascii name ≡ true → value_ascii v ≡ true → is_ascii word ≡ true
option_ascii [] name v is n a = absurd (some_none (name, v) is)
option_ascii (x ∷ []) name v is n a = absurd (some_none (name, v) is)
option_ascii (x ∷ y ∷ rest) name v is n a = elim (cases_Bool (is_hyphen x && is_hyphen y)) [
  | inl e ↦
      let parts = and_parts (is_hyphen x) (is_hyphen y) e in
      let same : cut rest ≡ (name, v) = ap (λ (o : Option Cut). unwrap_or o (name, v)) (sym (ap (cut_where rest) e) ∙ is) in
      let text : is_ascii rest ≡ true = cut_ascii rest (ap (λ (c : Cut). is_ascii c.0) same ∙ n) (ap (λ (c : Cut). value_ascii c.1) same ∙ a) in
      and_from (nat_lt x 128) (nat_lt y 128 && is_ascii rest) (ap (λ (b : ℕ). nat_lt b 128) (eqb-true x 45 parts.0))
      (and_from (nat_lt y 128) (is_ascii rest) (ap (λ (b : ℕ). nat_lt b 128) (eqb-true y 45 parts.1)) text)
  | inr e ↦ absurd (some_none (name, v) (sym (ap (cut_where rest) e) ∙ is))
]

same_is_not : (s t : List ℕ) → (s ≡ t → ⊥) → not (bytes_eq s t) ≡ true
same_is_not s t other = elim (cases_Bool (bytes_eq s t)) [
  | inl e ↦ absurd (other ((bytes_eq-Decides s t).0 e))
  | inr e ↦ ap not e
]

option_name_ascii : (name : List ℕ) → is_option name ≡ true → is_ascii name ≡ true
option_name_ascii name listed = option_cases (λ (s : List ℕ). is_ascii s ≡ true) name listed refl refl refl

option_plain : (word name : List ℕ) (v : Option (List ℕ)) → option_in word ≡ Some (name, v) → is_option name ≡ true → value_ascii v ≡ true → is_plain word ≡ true
option_plain word name v is listed a =
    and_from _ _ (option_ascii word name v is (option_name_ascii name listed) a)
    (and_from _ _ (same_is_not word (codes "-") hyphen) (same_is_not word (codes "--") hyphens))
  where
    hyphen : word ≡ codes "-" → ⊥
    hyphen e = some_none (name, v) (sym (ap option_in e) ∙ is)

    hyphens : word ≡ codes "--" → ⊥
    hyphens e =
        let empty : [] ≡ name = ap (λ (o : Option Cut). (unwrap_or o (name, v)).0) (sym (ap option_in e) ∙ is) in
        true≢false (sym listed ∙ sym (ap is_option empty))

-- a value in a word of its own
value_plain : (word : List ℕ) → is_hyphen (slice_index word 0) ≡ false → is_ascii word ≡ true → is_plain word ≡ true
value_plain word first a =
    and_from _ _ a (and_from _ _ (same_is_not word (codes "-") (starts (codes "-") refl)) (same_is_not word (codes "--") (starts (codes "--") refl)))
  where
    starts : (s : List ℕ) → is_hyphen (slice_index s 0) ≡ true → word ≡ s → ⊥
    starts s h e = both_ways (is_hyphen (slice_index word 0)) first (ap (λ (t : List ℕ). is_hyphen (slice_index t 0)) e ∙ h)

-- ---- the first use of the words, and the later ones

value_is_used : (us : List Use) (name value : List ℕ) → value_in name us ≡ Some value → list_any (λ u. bytes_eq name u.0) us ≡ true
value_is_used [] name value is = absurd (some_none value is)
value_is_used (u ∷ us) name value is = elim (cases_Bool (bytes_eq u.0 name)) [
  | inl e ↦ ap (λ (t : Bool). t || list_any (λ w. bytes_eq name w.0) us) ((bytes_eq-Decides name u.0).1 (sym ((bytes_eq-Decides u.0 name).0 e)))
  | inr e ↦
      let later : value_in name us ≡ Some value = sym (ap (λ (t : Bool). option_map (λ w. w.1) (cond t (Some u) (find (λ w. bytes_eq w.0 name) us))) e) ∙ is in
      or_true (bytes_eq name u.0) _ (value_is_used us name value later)
]
  where
    or_true : (a b : Bool) → b ≡ true → (a || b) ≡ true
    or_true true b e = refl
    or_true false b e = e

record Splits (name value : List ℕ) (later : List Use) : Type 0 where
  ascii : is_ascii value ≡ true
  once : are_single later ≡ true
  values : HasAsciiValues later

first_value : (name value : List ℕ) (later : List Use) → value_in name ((name, value) ∷ later) ≡ Some value
first_value name value later = ap (λ (t : Bool). option_map (λ w. w.1) (cond t (Some (name, value)) (find (λ w. bytes_eq w.0 name) later))) ((bytes_eq-Decides name name).1 refl)

splits : (name value : List ℕ) (later : List Use) → is_option name ≡ true → are_single ((name, value) ∷ later) ≡ true → HasAsciiValues ((name, value) ∷ later) → Splits name value later
splits name value later listed once h = record {
  ascii = h.ascii name value listed (first_value name value later);
  once = parts.1;
  values = record { ascii = λ other v is_listed is. h.ascii other v is_listed (past other v is) };
}
  where
    parts : (not (list_any (λ u. bytes_eq name u.0) later) ≡ true) × (are_single later ≡ true)
    parts = and_parts (not (list_any (λ u. bytes_eq name u.0) later)) (are_single later) once

    past : (other v : List ℕ) → value_in other later ≡ Some v → value_in other ((name, value) ∷ later) ≡ Some v
    past other v is = elim (cases_Bool (bytes_eq name other)) [
      | inl e ↦ absurd (both_ways _ (not-true _ parts.0) (value_is_used later name v (subst (λ (s : List ℕ). value_in s later ≡ Some v) (sym ((bytes_eq-Decides name other).0 e)) is)))
      | inr e ↦ ap (λ (t : Bool). option_map (λ w. w.1) (cond t (Some (name, value)) (find (λ w. bytes_eq w.0 other) later))) e ∙ is
    ]

-- what is read is such a use, and what follows
record Begins (name value : List ℕ) (rest : Option (List Use)) (us : List Use) : Type 0 where
  later : List Use
  follows : rest ≡ Some later
  listed : is_option name ≡ true
  is : us ≡ (name, value) ∷ later

begins : (name value : List ℕ) (rest : Option (List Use)) (us : List Use) → before (named name value) rest ≡ Some us → Begins name value rest us
begins name value rest us read = by (is_option name) refl read
  where
    by_rest : (o : Option (List Use)) → rest ≡ o → is_option name ≡ true → before (Some (name, value)) o ≡ Some us → Begins name value rest us
    by_rest None follows listed read = absurd (some_none us read)
    by_rest (Some later) follows listed read = record {
      later = later;
      follows = follows;
      listed = listed;
      is = sym (ap (λ (o : Option (List Use)). unwrap_or o us) read);
    }

    by : (t : Bool) → is_option name ≡ t → before (cond t (Some (name, value)) None) rest ≡ Some us → Begins name value rest us
    by true listed read = by_rest rest refl listed read
    by false listed read = absurd (some_none us read)

-- ---- the words

abbrev ArePlain : List (List ℕ) → Type 0
ArePlain words = (us : List Use) → uses_of words ≡ Some us → are_single us ≡ true → HasAsciiValues us → are_plain words ≡ true

-- the word and its value, and then the words behind it
joined_plain : (word name value : List ℕ) (words : List (List ℕ)) (us : List Use) → option_in word ≡ Some (name, Some value) → before (named name value) (uses_of words) ≡ Some us
    → are_single us ≡ true → HasAsciiValues us → ArePlain words → are_plain (word ∷ words) ≡ true
joined_plain word name value words us is read once h rest =
    let b = begins name value (uses_of words) us read in
    let s = splits name value b.later b.listed (subst (λ (l : List Use). are_single l ≡ true) b.is once) (subst HasAsciiValues b.is h) in
    and_from (is_plain word) (are_plain words) (option_plain word name (Some value) is b.listed s.ascii) (rest b.later b.follows s.once s.values)

apart_plain : (word next name : List ℕ) (words : List (List ℕ)) (us : List Use) → option_in word ≡ Some (name, None) → before (named_apart name next) (uses_of words) ≡ Some us
    → are_single us ≡ true → HasAsciiValues us → ArePlain words → are_plain (word ∷ next ∷ words) ≡ true
apart_plain word next name words us is read once h rest = elim (cases_Bool (is_hyphen (slice_index next 0))) [
  | inl e ↦ absurd (some_none us (sym (ap (λ (t : Bool). before (cond t None (named name next)) (uses_of words)) e) ∙ read))
  | inr e ↦
      let b = begins name next (uses_of words) us (sym (ap (λ (t : Bool). before (cond t None (named name next)) (uses_of words)) e) ∙ read) in
      let s = splits name next b.later b.listed (subst (λ (l : List Use). are_single l ≡ true) b.is once) (subst HasAsciiValues b.is h) in
      and_from (is_plain word) (are_plain (next ∷ words)) (option_plain word name None is b.listed refl)
      (and_from (is_plain next) (are_plain words) (value_plain next e s.ascii) (rest b.later b.follows s.once s.values))
]

none_plain : ArePlain []
none_plain us read once h = refl

-- the last word
last_value : (word name : List ℕ) (v : Option (List ℕ)) → option_in word ≡ Some (name, v) → (us : List Use) → met_last name v ≡ Some us → are_single us ≡ true → HasAsciiValues us → are_plain (word ∷ []) ≡ true
unfolding uses_of
last_value word name None is us read once h = absurd (some_none us read)
last_value word name (Some value) is us read once h = joined_plain word name value [] us is read once h none_plain

last_plain : (word : List ℕ) (o : Option Cut) → option_in word ≡ o → (us : List Use) → last_met o ≡ Some us → are_single us ≡ true → HasAsciiValues us → are_plain (word ∷ []) ≡ true
last_plain word None is us read once h = absurd (some_none us read)
last_plain word (Some p) is us read once h = last_value word p.0 p.1 is us read once h

-- a word before another
next_value : (word next name : List ℕ) (words : List (List ℕ)) (v : Option (List ℕ)) → option_in word ≡ Some (name, v) → ArePlain words → ArePlain (next ∷ words) → (us : List Use)
    → met name v next (uses_of words) (uses_of (next ∷ words)) ≡ Some us → are_single us ≡ true → HasAsciiValues us → are_plain (word ∷ next ∷ words) ≡ true
next_value word next name words None is behind_next behind_word us read once h = apart_plain word next name words us is read once h behind_next
next_value word next name words (Some value) is behind_next behind_word us read once h = joined_plain word name value (next ∷ words) us is read once h behind_word

next_plain : (word next : List ℕ) (words : List (List ℕ)) (o : Option Cut) → option_in word ≡ o → ArePlain words → ArePlain (next ∷ words) → (us : List Use)
    → first_met o next (uses_of words) (uses_of (next ∷ words)) ≡ Some us → are_single us ≡ true → HasAsciiValues us → are_plain (word ∷ next ∷ words) ≡ true
next_plain word next words None is behind_next behind_word us read once h = absurd (some_none us read)
next_plain word next words (Some p) is behind_next behind_word us read once h = next_value word next p.0 words p.1 is behind_next behind_word us read once h

read_plain : (words : List (List ℕ)) → ArePlain words
unfolding uses_of
read_plain [] = none_plain
read_plain (word ∷ []) = last_plain word (option_in word) refl
read_plain (word ∷ next ∷ words) = next_plain word next words (option_in word) refl (read_plain words) (read_plain (next ∷ words))

asked_plain : (words : List (List ℕ)) → is_some (asked_of words) ≡ true → are_plain words ≡ true
asked_plain words h = by (uses_of words) refl h
  where
    by_single : (us : List Use) → uses_of words ≡ Some us → is_some (option_and_then asked_with (single us)) ≡ true → are_plain words ≡ true
    by_single us read h = elim (cases_Bool (are_single us)) [
      | inl e ↦ read_plain words us read e (asked_values us (subst (λ (t : Bool). is_some (option_and_then asked_with (cond t (Some (values_in us)) None)) ≡ true) e h))
      | inr e ↦ absurd (true≢false (sym h ∙ ap (λ (t : Bool). is_some (option_and_then asked_with (cond t (Some (values_in us)) None))) e))
    ]

    by : (o : Option (List Use)) → uses_of words ≡ o → is_some (option_and_then asked_with (option_and_then single o)) ≡ true → are_plain words ≡ true
    by None read h = absurd (true≢false (sym h))
    by (Some us) read h = by_single us read h

-- what words ask for, of which one isn't plain
pub unplain_asks_nothing : (words : List (List ℕ)) → are_plain words ≡ false → asked_of words ≡ None
unplain_asks_nothing words unplain = by (asked_of words) refl
  where
    by : (o : Option Asked) → asked_of words ≡ o → o ≡ None
    by None is = refl
    by (Some a) is = absurd (both_ways _ unplain (asked_plain words (ap (λ (o : Option Asked). is_some o) is)))
