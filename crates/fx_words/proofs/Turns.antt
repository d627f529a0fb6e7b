-- One turn of clap's walk over plain words: what it fails by, and where it then stands.
use Rattle.std.proofs.Common.{◌≡◌, ◌∙◌, Bool, true, false, cond, refl, sym, ap, subst, inl, inr, ℕ, List, [], ◌∷◌, ◌++◌, length, Option, Some, None, is_some, if◌then◌else◌}
use Rattle.std.specs.Prelude.{slice_index, nat_lt}
use Rattle.std.specs.Option.{option_map_or}
use Rattle.std.specs.Str.{bytes_eq}
use Rattle.std.proofs.lemmas.Bool.{both_ways}
use Rattle.std.proofs.lemmas.Slice.Eq.{bytes_eq-Decides}
use Rattle.clap.specs.Lexer.{long_of}
use Rattle.clap.specs.Kinds.{Kinds, or_else}
use Rattle.clap.specs.Faults.{bundle_fault, bundle_step_fault, flag_word_fault, flags_fault, long_fault, react_fault, settle_fault, step_fault, turn_fault, use_fault}
use Rattle.clap.specs.Walk.{Held, Row, Rule, Step, Text, Waiting, Walk, after_flag, after_step, arg_by_long, idle, long_met, long_or_other, next, option, option_word, settled, settled_rows, short_or_plain, takes_values, trailing, used, used_by_id, walked}
use Rattle.clap.specs.declared.error.kind.ErrorKind.TheVariants.{TooManyValues}
use Rattle.fx_words.specs.Words.{Use}
use Rattle.fx_words.specs.Splitting.{is_plain}
use Rattle.fx_words.proofs.Options.{IsNoOption, IsOption, option_or_not, option_rule, options, shape}
use Rattle.fx_words.proofs.Rows.{fails_twice, has, passes_once, rows_from, used_once}
use Rattle.fx_words.proofs.Forms.{IsBare, IsShort, first_char, form_of, is_hyphen, not_the_end}

-- ---- faults

abbrev pub IsFault : Kinds → Type 0
IsFault [] = ⊥
IsFault (k ∷ ks) = Unit {0}

pub first_fault : (a b : Kinds) → IsFault a → IsFault (or_else a b)
first_fault [] b f = absurd f
first_fault (k ∷ ks) b f = tt

-- ---- where the walk stands

abbrev pub held : List Use → Option (Text × List Text) → Held
held us pending = record { rows = rows_from us; pending = pending; skip = 0 }

abbrev pub standing : List Use → Option (Text × List Text) → Waiting → Walk
standing us pending waiting = record { held = held us pending; waiting = waiting; position = 1; is_trailing = false; stopped = None }

-- what pends, if anything, is used without a fault, and these are the uses then
pub record Settles (us : List Use) (pending : Option (Text × List Text)) (seen : List Use) : Type 0 where
  pub passes : settle_fault options false (held us pending) ≡ []
  pub rows : settled_rows options pending (rows_from us) ≡ rows_from seen

pub settles_none : (us : List Use) → Settles us None us
settles_none us = record { passes = refl; rows = refl }

pub settles_value : (us : List Use) (name value : List ℕ) → IsOption name → has name us ≡ false → Settles us (Some (name, value ∷ [])) (us ++ (name, value) ∷ [])
settles_value us name value o e = record {
  passes = ap pending_fault o.by_id ∙ passes_once name value us e;
  rows = ap pending_rows o.by_id ∙ used_once name value us e;
}
  where
    pending_fault : Option Rule → Kinds
    pending_fault found = option_map_or (λ a. use_fault false a (value ∷ []) (rows_from us)) found []

    pending_rows : Option Rule → List Row
    pending_rows found = used_by_id found (value ∷ []) (rows_from us)

-- ---- a turn, by what the word is

abbrev is_end : List ℕ → Bool
is_end word = bytes_eq word (45 ∷ 45 ∷ [])

module _ (us : List Use) (pending : Option (Text × List Text)) (waiting : Waiting) (word : List ℕ) where
  abbrev pub step : Option (Text × Option Text) → Held × Step
  step l = long_or_other options waiting word l (held us pending)

  -- the fault of a word that isn't `--`
  abbrev pub word_fails : Option (Text × Option Text) → Kinds
  word_fails l = or_else (flag_word_fault options false l word (held us pending)) (step_fault shape 1 (step l).0 (step l).1)

  abbrev after : Bool → Option (Text × Option Text) → Held × Step
  after b l = cond b (held us pending, trailing 1) (step l)

  abbrev fails : Bool → Option (Text × Option Text) → Kinds
  fails b l = or_else (cond b [] (flag_word_fault options false l word (held us pending))) (step_fault shape 1 (after b l).0 (after b l).1)

pub idle_fails : (us : List Use) (pending : Option (Text × List Text)) (word : List ℕ) (l : Option (Text × Option Text)) → is_end word ≡ false → long_of word ≡ l
    → turn_fault shape [] (standing us pending idle) word ≡ word_fails us pending idle word l
idle_fails us pending word l e is = λ i. fails us pending idle word (e i) (is i)

pub option_fails : (us : List Use) (pending : Option (Text × List Text)) (id word : List ℕ) (l : Option (Text × Option Text)) → is_end word ≡ false → long_of word ≡ l
    → turn_fault shape [] (standing us pending (option id)) word ≡ word_fails us pending (option id) word l
option_fails us pending id word l e is = λ i. fails us pending (option id) word (e i) (is i)

pub idle_goes : (us : List Use) (pending : Option (Text × List Text)) (word : List ℕ) (l : Option (Text × Option Text)) → is_end word ≡ false → long_of word ≡ l
    → walked options [] (standing us pending idle) word ≡ after_step options word (standing us pending idle) (step us pending idle word l).0 (step us pending idle word l).1
unfolding walked
idle_goes us pending word l e is =
    λ i. after_step options word (standing us pending idle) (after us pending idle word (e i) (is i)).0 (after us pending idle word (e i) (is i)).1

pub option_goes : (us : List Use) (pending : Option (Text × List Text)) (id word : List ℕ) (l : Option (Text × Option Text)) → is_end word ≡ false → long_of word ≡ l
    → walked options [] (standing us pending (option id)) word ≡ after_step options word (standing us pending (option id)) (step us pending (option id) word l).0 (step us pending (option id) word l).1
unfolding walked
option_goes us pending id word l e is =
    λ i. after_step options word (standing us pending (option id)) (after us pending (option id) word (e i) (is i)).0 (after us pending (option id) word (e i) (is i)).1

-- ---- a word that is an option, between two options

-- the walk's fault by what clap finds under the name
abbrev found_fails : List Use → Option (Text × List Text) → List ℕ → Option Text → Option Rule → Kinds
found_fails us pending word v found = or_else (long_fault options false found v (held us pending))
    (step_fault shape 1 (after_flag options idle word (long_met options found v (held us pending)).0 (long_met options found v (held us pending)).1).0
    (after_flag options idle word (long_met options found v (held us pending)).0 (long_met options found v (held us pending)).1).1)

past_both : (a b c : Kinds) → a ≡ [] → b ≡ [] → or_else (or_else a b) c ≡ c
past_both a b c e f = λ i. or_else (or_else (e i) (f i)) c

-- with its value
pub joined_passes : (us seen : List Use) (pending : Option (Text × List Text)) (word name value : List ℕ) → IsOption name → Settles us pending seen → has name seen ≡ false
    → is_end word ≡ false → long_of word ≡ Some (name, Some value) → turn_fault shape [] (standing us pending idle) word ≡ []
joined_passes us seen pending word name value o s new e is =
    idle_fails us pending word (Some (name, Some value)) e is
    ∙ ap (found_fails us pending word (Some value)) o.by_long
    ∙ past_both (settle_fault options false (held us pending)) (use_fault false (option_rule name) (value ∷ []) (settled options (held us pending)).rows) [] s.passes
    (ap (use_fault false (option_rule name) (value ∷ [])) s.rows ∙ passes_once name value seen new)

pub joined_goes : (us seen : List Use) (pending : Option (Text × List Text)) (word name value : List ℕ) → IsOption name → Settles us pending seen → has name seen ≡ false
    → is_end word ≡ false → long_of word ≡ Some (name, Some value) → walked options [] (standing us pending idle) word ≡ standing (seen ++ (name, value) ∷ []) None idle
joined_goes us seen pending word name value o s new e is =
    idle_goes us pending word (Some (name, Some value)) e is
    ∙ ap (λ (found : Option Rule). found_goes found) o.by_long
    ∙ ap (λ (rows : List Row). record { held = record { rows = rows; pending = None; skip = 0 }; waiting = idle; position = 1; is_trailing = false; stopped = None })
    (ap (used (option_rule name) (value ∷ [])) s.rows ∙ used_once name value seen new)
  where
    found_goes : Option Rule → Walk
    found_goes found = after_step options word (standing us pending idle)
        (after_flag options idle word (long_met options found (Some value) (held us pending)).0 (long_met options found (Some value) (held us pending)).1).0
        (after_flag options idle word (long_met options found (Some value) (held us pending)).0 (long_met options found (Some value) (held us pending)).1).1

-- without one
pub apart_passes : (us seen : List Use) (pending : Option (Text × List Text)) (word name : List ℕ) → IsOption name → Settles us pending seen
    → is_end word ≡ false → long_of word ≡ Some (name, None) → turn_fault shape [] (standing us pending idle) word ≡ []
apart_passes us seen pending word name o s e is =
    idle_fails us pending word (Some (name, None)) e is
    ∙ ap (found_fails us pending word None) o.by_long
    ∙ ap (λ (k : Kinds). or_else k []) s.passes

pub apart_goes : (us seen : List Use) (pending : Option (Text × List Text)) (word name : List ℕ) → IsOption name → Settles us pending seen
    → is_end word ≡ false → long_of word ≡ Some (name, None) → walked options [] (standing us pending idle) word ≡ standing seen (Some (name, [])) (option name)
apart_goes us seen pending word name o s e is =
    idle_goes us pending word (Some (name, None)) e is
    ∙ ap (λ (found : Option Rule). found_goes found) o.by_long
    ∙ ap (λ (rows : List Row). record { held = record { rows = rows; pending = Some (name, []); skip = 0 }; waiting = option name; position = 1; is_trailing = false; stopped = None }) s.rows
  where
    found_goes : Option Rule → Walk
    found_goes found = after_step options word (standing us pending idle)
        (after_flag options idle word (long_met options found None (held us pending)).0 (long_met options found None (held us pending)).1).0
        (after_flag options idle word (long_met options found None (held us pending)).0 (long_met options found None (held us pending)).1).1

-- ---- words that fail

-- an option that the program hasn't
unknown_fails : (v : Option Text) (h : Held) (b : Kinds) (found : Option Rule) → found ≡ None → IsFault (or_else (long_fault options false found v h) b)
unknown_fails v h b found none = subst (λ f. IsFault (or_else (long_fault options false f v h) b)) (sym none) tt

pub no_option_fails : (us : List Use) (pending : Option (Text × List Text)) (word name : List ℕ) (v : Option Text) → IsNoOption name → is_end word ≡ false → long_of word ≡ Some (name, v)
    → IsFault (turn_fault shape [] (standing us pending idle) word)
no_option_fails us pending word name v o e is =
    subst IsFault (sym (idle_fails us pending word (Some (name, v)) e is)) (unknown_fails v (held us pending) _ _ o.by_long)

-- where what pends fails, so does each option
found_fails_too : (us : List Use) (pending : Option (Text × List Text)) (a : Rule) (v : Option Text) → takes_values a ≡ true → IsFault (settle_fault options false (held us pending))
    → IsFault (long_fault options false (Some a) v (held us pending))
found_fails_too us pending a None t f = subst (λ b. IsFault (cond b (settle_fault options false (held us pending)) (flag_fault None))) (sym t) f
  where
    flag_fault : Option Text → Kinds
    flag_fault v = if is_some v then TooManyValues ∷ [] else react_fault options false a [] (held us pending)
found_fails_too us pending a (Some v) t f =
    subst (λ b. IsFault (cond b (react_fault options false a (v ∷ []) (held us pending)) (TooManyValues ∷ []))) (sym t) (first_fault _ _ f)

pub met_fails : (us : List Use) (pending : Option (Text × List Text)) (name : List ℕ) (v : Option Text) (b : Kinds) → IsFault (settle_fault options false (held us pending))
    → IsFault (or_else (long_fault options false (arg_by_long options name) v (held us pending)) b)
met_fails us pending name v b f = elim (option_or_not name) [
  | inl o ↦ first_fault _ b (subst (λ found. IsFault (long_fault options false found v (held us pending))) (sym o.by_long) (found_fails_too us pending (option_rule name) v refl f))
  | inr o ↦ unknown_fails v (held us pending) b _ o.by_long
]

-- an option whose value never came
pub no_value_fails : (us : List Use) (name : List ℕ) → IsOption name → IsFault (settle_fault options false (held us (Some (name, []))))
no_value_fails us name o = subst (λ found. IsFault (option_map_or (λ a. use_fault false a [] (rows_from us)) found [])) (sym o.by_id) tt

-- an option that was used before
pub second_value_fails : (us : List Use) (name value : List ℕ) → IsOption name → has name us ≡ true → IsFault (settle_fault options false (held us (Some (name, value ∷ []))))
second_value_fails us name value o e =
    subst IsFault (sym (ap (λ found. option_map_or (λ a. use_fault false a (value ∷ []) (rows_from us)) found []) o.by_id ∙ fails_twice name value us e)) tt

-- with its value in the same word
pub joined_twice_fails : (us seen : List Use) (pending : Option (Text × List Text)) (word name value : List ℕ) → IsOption name → Settles us pending seen → has name seen ≡ true
    → is_end word ≡ false → long_of word ≡ Some (name, Some value) → IsFault (turn_fault shape [] (standing us pending idle) word)
joined_twice_fails us seen pending word name value o s twice e is =
    subst IsFault (sym (idle_fails us pending word (Some (name, Some value)) e is ∙ ap (found_fails us pending word (Some value)) o.by_long))
    (first_fault _ _ (subst (λ k. IsFault (or_else k (use_fault false (option_rule name) (value ∷ []) (settled options (held us pending)).rows))) (sym s.passes)
    (subst IsFault (sym (ap (use_fault false (option_rule name) (value ∷ [])) s.rows ∙ fails_twice name value seen twice)) tt)))

-- ---- words of one hyphen, and words without

-- the program has no short options
pub short_fails : (us : List Use) (pending : Option (Text × List Text)) (word : List ℕ) (rest : Kinds) → IsShort word → IsFault (or_else (flag_word_fault options false None word (held us pending)) rest)
unfolding flags_fault
short_fails us pending word rest s =
    subst (λ (t : Option Text). IsFault (or_else (option_map_or (λ flags. bundle_fault options false flags (held us pending)) t []) rest)) (sym s.is)
    (subst (λ (x : Option ℕ). IsFault (or_else (bundle_step_fault options false x (s.char ∷ s.rest) 0 (held us pending) (flags_fault options false (length s.rest))) rest)) (sym (first_char s.char s.rest s.small)) tt)

-- a word without a hyphen has no place between two options
abbrev bare_fails : List Use → Option (Text × List Text) → List ℕ → Option Text → Kinds
bare_fails us pending word s = or_else (option_map_or (λ flags. bundle_fault options false flags (held us pending)) s [])
    (step_fault shape 1 (short_or_plain options idle word s (held us pending)).0 (short_or_plain options idle word s (held us pending)).1)

pub stray_fails : (us : List Use) (pending : Option (Text × List Text)) (word : List ℕ) → is_end word ≡ false → IsBare word → IsFault (turn_fault shape [] (standing us pending idle) word)
stray_fails us pending word e b = subst IsFault (sym (idle_fails us pending word None e b.none ∙ ap (bare_fails us pending word) b.short)) tt

-- behind an option it is the value
abbrev value_fails : List Use → List ℕ → List ℕ → Option Text → Kinds
value_fails us name word s = or_else (option_map_or (λ flags. bundle_fault options false flags (held us (Some (name, [])))) s [])
    (step_fault shape 1 (short_or_plain options (option name) word s (held us (Some (name, [])))).0 (short_or_plain options (option name) word s (held us (Some (name, [])))).1)

pub value_passes : (us : List Use) (word name : List ℕ) → is_end word ≡ false → IsBare word → turn_fault shape [] (standing us (Some (name, [])) (option name)) word ≡ []
value_passes us word name e b = option_fails us (Some (name, [])) name word None e b.none ∙ ap (value_fails us name word) b.short

-- where the walk stands behind the value, by what clap finds under the name
abbrev value_held : List Use → List ℕ → List ℕ → Option Rule → Walk
value_held us name word found = after_step options word (standing us (Some (name, [])) (option name))
    (option_word found name word (held us (Some (name, [])))).0 (next (option_word found name word (held us (Some (name, [])))).1)

pub value_goes : (us : List Use) (word name : List ℕ) → IsOption name → is_end word ≡ false → IsBare word
    → walked options [] (standing us (Some (name, [])) (option name)) word ≡ standing us (Some (name, word ∷ [])) idle
value_goes us word name o e b =
    option_goes us (Some (name, [])) name word None e b.none
    ∙ ap (λ (s : Option Text). after_step options word (standing us (Some (name, [])) (option name))
    (short_or_plain options (option name) word s (held us (Some (name, [])))).0 (short_or_plain options (option name) word s (held us (Some (name, [])))).1) b.short
    ∙ ap (value_held us name word) o.by_id
    ∙ ap (λ (same : Bool). standing us (Some (name, word ∷ [])) (cond (nat_lt (cond same 1 0) 1) (option name) idle)) ((bytes_eq-Decides name name).1 refl)

-- ---- any word, between two options where what pends fails, and behind an option

pub idle_word_fails : (us : List Use) (pending : Option (Text × List Text)) (word : List ℕ) → is_plain word ≡ true → IsFault (settle_fault options false (held us pending))
    → IsFault (turn_fault shape [] (standing us pending idle) word)
idle_word_fails us pending word p f =
    let e = not_the_end word p in
    elim (form_of word p) [
      | inl l ↦ subst IsFault (sym (idle_fails us pending word (Some (l.name, l.value)) e l.is)) (met_fails us pending l.name l.value _ f)
      | inr other ↦ elim other [
        | inl s ↦ subst IsFault (sym (idle_fails us pending word None e s.none)) (short_fails us pending word _ s)
        | inr b ↦ stray_fails us pending word e b
      ]
    ]

pub hyphen_fails_behind : (us : List Use) (word name : List ℕ) → IsOption name → is_plain word ≡ true → is_hyphen (slice_index word 0) ≡ true
    → IsFault (turn_fault shape [] (standing us (Some (name, [])) (option name)) word)
hyphen_fails_behind us word name o p first =
    let e = not_the_end word p in
    let pending : Option (Text × List Text) = Some (name, []) in
    elim (form_of word p) [
      | inl l ↦ subst IsFault (sym (option_fails us pending name word (Some (l.name, l.value)) e l.is)) (met_fails us pending l.name l.value _ (no_value_fails us name o))
      | inr other ↦ elim other [
        | inl s ↦ subst IsFault (sym (option_fails us pending name word None e s.none)) (short_fails us pending word _ s)
        | inr b ↦ absurd (both_ways _ b.first first)
      ]
    ]
