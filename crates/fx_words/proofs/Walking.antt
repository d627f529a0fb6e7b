-- Clap's walk over plain words fails, or finds the uses that the definition reads.
use Rattle.std.proofs.Common.{◌≡◌, ◌∙◌, Bool, true, false, cond, refl, sym, ap, subst, inl, inr, ℕ, List, [], ◌∷◌, ◌++◌, append_assoc, Option, Some, None}
use Rattle.std.specs.Prelude.{fold, slice_index}
use Rattle.std.proofs.lemmas.Bool.{and_parts, cases_Bool}
use Rattle.std.proofs.lemmas.List.{append-nil}
use Rattle.clap.specs.Lexer.{long_of}
use Rattle.clap.specs.Kinds.{Kinds, or_else}
use Rattle.clap.specs.Faults.{settle_fault, turn_fault, walk_fault}
use Rattle.clap.specs.Walk.{Row, Text, Walk, idle, option, settled_rows, walked}
use Rattle.fx_words.specs.Words.{Use, are_single, before, first_met, last_met, named, named_apart, option_in, uses_of}
use Rattle.fx_words.specs.Splitting.{are_plain, is_plain}
use Rattle.fx_words.proofs.Options.{IsNoOption, IsOption, option_or_not, options, shape}
use Rattle.fx_words.proofs.Rows.{has, rows_from}
use Rattle.fx_words.proofs.Forms.{bare_form, form_of, is_hyphen, not_the_end}
use Rattle.fx_words.proofs.Cuts.{option_is}
use Rattle.fx_words.proofs.Singles.{doubled, single_push}
use Rattle.fx_words.proofs.Turns.{IsFault, Settles, apart_goes, apart_passes, first_fault, held, hyphen_fails_behind, idle_word_fails, joined_goes, joined_passes, joined_twice_fails, no_option_fails, no_value_fails, second_value_fails, settles_none, settles_value, short_fails, standing, stray_fails, value_goes, value_passes, idle_fails}

-- ---- the rest of a walk

-- where the walk ends
abbrev pub end_of : Walk → List Text → Walk
end_of w words = fold (walked options []) w words

-- what the walk fails by, with what pends at its end
abbrev pub rest_fails : Walk → List Text → Kinds
rest_fails w words = or_else (walk_fault shape [] w words) (settle_fault options false (end_of w words).held)

abbrev pub rest_rows : Walk → List Text → List Row
rest_rows w words = settled_rows options (end_of w words).held.pending (end_of w words).held.rows

or_else-assoc : (a b c : Kinds) → or_else (or_else a b) c ≡ or_else a (or_else b c)
or_else-assoc [] b c = refl
or_else-assoc (k ∷ ks) b c = refl

turned : (w : Walk) (word : Text) (words : List Text) → rest_fails w (word ∷ words) ≡ or_else (turn_fault shape [] w word) (rest_fails (walked options [] w word) words)
unfolding walk_fault
turned w word words = or_else-assoc (turn_fault shape [] w word) (walk_fault shape [] (walked options [] w word) words) (settle_fault options false (end_of w (word ∷ words)).held)

-- ---- what is claimed

-- what is read so far, and the uses that follow
abbrev pub outcome : List Use → Option (List Use) → Option (List Use)
outcome seen None = None
outcome seen (Some us) = cond (are_single (seen ++ us)) (Some (seen ++ us)) None

abbrev pub Agrees : Kinds → List Row → Option (List Use) → Type 0
Agrees kinds rows None = IsFault kinds
Agrees kinds rows (Some us) = (kinds ≡ []) × (rows ≡ rows_from us)

abbrev Reads : Walk → List Text → List Use → Type 0
Reads w words seen = Agrees (rest_fails w words) (rest_rows w words) (outcome seen (uses_of words))

-- from between two options
abbrev Claim : List Text → Type 0
Claim words = (us seen : List Use) (pending : Option (Text × List Text)) → Settles us pending seen → are_single seen ≡ true → Reads (standing us pending idle) words seen

-- ---- one turn, and the rest

goes_on : (w now : Walk) (word : Text) (words : List Text) (o : Option (List Use)) → turn_fault shape [] w word ≡ [] → walked options [] w word ≡ now
    → Agrees (rest_fails now words) (rest_rows now words) o → Agrees (rest_fails w (word ∷ words)) (rest_rows w (word ∷ words)) o
goes_on w now word words o passes goes h =
    let fails : rest_fails now words ≡ rest_fails w (word ∷ words) =
    sym (turned w word words ∙ (λ i. or_else (passes i) (rest_fails (goes i) words))) in
    let rows : rest_rows now words ≡ rest_rows w (word ∷ words) = ap (λ (x : Walk). rest_rows x words) (sym goes) in
    subst (λ (r : List Row). Agrees (rest_fails w (word ∷ words)) r o) rows (subst (λ (k : Kinds). Agrees k (rest_rows now words) o) fails h)

stops : (w : Walk) (word : Text) (words : List Text) → IsFault (turn_fault shape [] w word) → IsFault (rest_fails w (word ∷ words))
stops w word words f = subst IsFault (sym (turned w word words)) (first_fault _ _ f)

refused : (w : Walk) (words : List Text) (seen : List Use) → uses_of words ≡ None → IsFault (rest_fails w words) → Reads w words seen
refused w words seen none f = subst (λ (o : Option (List Use)). Agrees (rest_fails w words) (rest_rows w words) (outcome seen o)) (sym none) f

-- ---- what the definition reads

joined_uses : (word name value : List ℕ) (words : List Text) → option_in word ≡ Some (name, Some value) → uses_of (word ∷ words) ≡ before (named name value) (uses_of words)
unfolding uses_of
joined_uses word name value [] is = ap last_met is
joined_uses word name value (next ∷ words) is = ap (λ l. first_met l next (uses_of words) (uses_of (next ∷ words))) is

apart_uses : (word name next : List ℕ) (words : List Text) → option_in word ≡ Some (name, None) → uses_of (word ∷ next ∷ words) ≡ before (named_apart name next) (uses_of words)
unfolding uses_of
apart_uses word name next words is = ap (λ l. first_met l next (uses_of words) (uses_of (next ∷ words))) is

alone_uses : (word name : List ℕ) → option_in word ≡ Some (name, None) → uses_of (word ∷ []) ≡ None
unfolding uses_of
alone_uses word name is = ap last_met is

no_uses : (word : List ℕ) (words : List Text) → option_in word ≡ None → uses_of (word ∷ words) ≡ None
unfolding uses_of
no_uses word [] is = ap last_met is
no_uses word (next ∷ words) is = ap (λ l. first_met l next (uses_of words) (uses_of (next ∷ words))) is

other_uses : (word name : List ℕ) (v : Option Text) (words : List Text) → option_in word ≡ Some (name, v) → IsNoOption name → uses_of (word ∷ words) ≡ None
unfolding uses_of
other_uses word name None [] is o = ap last_met is
other_uses word name (Some v) [] is o = ap last_met is ∙ ap (λ (t : Bool). before (cond t (Some (name, v)) None) (Some [])) o.listed
other_uses word name None (next ∷ words) is o =
    ap (λ l. first_met l next (uses_of words) (uses_of (next ∷ words))) is
    ∙ ap (λ (t : Bool). before (cond (is_hyphen (slice_index next 0)) None (cond t (Some (name, next)) None)) (uses_of words)) o.listed
    ∙ either_none (is_hyphen (slice_index next 0)) (uses_of words)
  where
    either_none : (t : Bool) (o : Option (List Use)) → before (cond t None None) o ≡ None
    either_none true o = refl
    either_none false o = refl
other_uses word name (Some v) (next ∷ words) is o =
    ap (λ l. first_met l next (uses_of words) (uses_of (next ∷ words))) is
    ∙ ap (λ (t : Bool). before (cond t (Some (name, v)) None) (uses_of (next ∷ words))) o.listed

named_is : (name value : List ℕ) → IsOption name → named name value ≡ Some (name, value)
named_is name value o = ap (λ (t : Bool). cond t (Some (name, value)) None) o.listed

-- a use more, and what follows
moved : (seen : List Use) (u : Use) (o : Option (List Use)) → outcome (seen ++ u ∷ []) o ≡ outcome seen (before (Some u) o)
moved seen u None = refl
moved seen u (Some us) = ap (λ (all : List Use). cond (are_single all) (Some all) None) (append_assoc seen (u ∷ []) us)

twice : (seen : List Use) (name value : List ℕ) (o : Option (List Use)) → has name seen ≡ true → outcome seen (before (Some (name, value)) o) ≡ None
twice seen name value None e = refl
twice seen name value (Some us) e = ap (λ (t : Bool). cond t (Some (seen ++ (name, value) ∷ us)) None) (doubled seen us name value e)

-- ---- an option with its value in one word

joined : (word name value : List ℕ) (words : List Text) → IsOption name → is_plain word ≡ true → long_of word ≡ Some (name, Some value) → Claim words → Claim (word ∷ words)
joined word name value words o p is rest us seen pending s single =
    let e = not_the_end word p in
    let w = standing us pending idle in
    let uses = joined_uses word name value words (option_is word p ∙ is) ∙ ap (λ u. before u (uses_of words)) (named_is name value o) in
    let with_uses : (k : Kinds) (rows : List Row) → Agrees k rows (outcome seen (before (Some (name, value)) (uses_of words))) → Agrees k rows (outcome seen (uses_of (word ∷ words))) =
    λ k rows. subst (λ (x : Option (List Use)). Agrees k rows (outcome seen x)) (sym uses) in
    elim (cases_Bool (has name seen)) [
      | inl again ↦ with_uses _ _ (subst (Agrees (rest_fails w (word ∷ words)) (rest_rows w (word ∷ words))) (sym (twice seen name value (uses_of words) again))
          (stops w word words (joined_twice_fails us seen pending word name value o s again e is)))
      | inr new ↦
          let then = rest (seen ++ (name, value) ∷ []) (seen ++ (name, value) ∷ []) None (settles_none (seen ++ (name, value) ∷ [])) (single_push seen name value new single) in
          with_uses _ _ (goes_on w _ word words _ (joined_passes us seen pending word name value o s new e is) (joined_goes us seen pending word name value o s new e is)
          (subst (Agrees _ _) (moved seen (name, value) (uses_of words)) then))
    ]

-- ---- an option with its value in the next word

-- a second value of one option fails, whatever follows
doomed : (words : List Text) (us : List Use) (name value : List ℕ) → are_plain words ≡ true → IsOption name → has name us ≡ true → IsFault (rest_fails (standing us (Some (name, value ∷ [])) idle) words)
unfolding walk_fault
doomed [] us name value p o again = second_value_fails us name value o again
doomed (word ∷ words) us name value p o again =
    stops (standing us (Some (name, value ∷ [])) idle) word words (idle_word_fails us (Some (name, value ∷ [])) word (and_parts _ _ p).0 (second_value_fails us name value o again))

-- from behind the option
behind : (next name : List ℕ) (words : List Text) → IsOption name → are_plain (next ∷ words) ≡ true → Claim words → (seen : List Use) → are_single seen ≡ true
    → Agrees (rest_fails (standing seen (Some (name, [])) (option name)) (next ∷ words)) (rest_rows (standing seen (Some (name, [])) (option name)) (next ∷ words)) (outcome seen (before (named_apart name next) (uses_of words)))
behind next name words o p rest seen single =
    let w = standing seen (Some (name, [])) (option name) in
    let plain = (and_parts (is_plain next) (are_plain words) p).0 in
    let others = (and_parts (is_plain next) (are_plain words) p).1 in
    let by : (t : Bool) → is_hyphen (slice_index next 0) ≡ t → named_apart name next ≡ cond t None (Some (name, next)) =
    λ t h. (λ i. cond (h i) None (named_is name next o i)) in
    elim (cases_Bool (is_hyphen (slice_index next 0))) [
      | inl hyphen ↦ subst (λ u. Agrees (rest_fails w (next ∷ words)) (rest_rows w (next ∷ words)) (outcome seen (before u (uses_of words)))) (sym (by true hyphen))
          (stops w next words (hyphen_fails_behind seen next name o plain hyphen))
      | inr bare ↦ subst (λ u. Agrees (rest_fails w (next ∷ words)) (rest_rows w (next ∷ words)) (outcome seen (before u (uses_of words)))) (sym (by false bare))
          (value_met next name words o plain others bare rest seen single)
    ]
  where
    value_met : (next name : List ℕ) (words : List Text) → IsOption name → is_plain next ≡ true → are_plain words ≡ true → is_hyphen (slice_index next 0) ≡ false → Claim words → (seen : List Use) → are_single seen ≡ true
        → Agrees (rest_fails (standing seen (Some (name, [])) (option name)) (next ∷ words)) (rest_rows (standing seen (Some (name, [])) (option name)) (next ∷ words)) (outcome seen (before (Some (name, next)) (uses_of words)))
    value_met next name words o plain others bare rest seen single =
        let e = not_the_end next plain in
        let b = bare_form next plain bare in
        let w = standing seen (Some (name, [])) (option name) in
        let now = standing seen (Some (name, next ∷ [])) idle in
        goes_on w now next words _ (value_passes seen next name e b) (value_goes seen next name o e b)
        (elim (cases_Bool (has name seen)) [
          | inl again ↦ subst (Agrees (rest_fails now words) (rest_rows now words)) (sym (twice seen name next (uses_of words) again)) (doomed words seen name next others o again)
          | inr new ↦ subst (Agrees (rest_fails now words) (rest_rows now words)) (moved seen (name, next) (uses_of words))
              (rest seen (seen ++ (name, next) ∷ []) (Some (name, next ∷ [])) (settles_value seen name next o new) (single_push seen name next new single))
        ])

-- ---- an option at the end, and one before a word

alone : (word name : List ℕ) → IsOption name → is_plain word ≡ true → long_of word ≡ Some (name, None) → Claim (word ∷ [])
unfolding walk_fault
alone word name o p is us seen pending s single =
    let e = not_the_end word p in
    let w = standing us pending idle in
    let fails : rest_fails w (word ∷ []) ≡ settle_fault options false (held seen (Some (name, []))) =
    turned w word [] ∙ (λ i. or_else (apart_passes us seen pending word name o s e is i) (rest_fails (apart_goes us seen pending word name o s e is i) [])) in
    refused w (word ∷ []) seen (alone_uses word name (option_is word p ∙ is)) (subst IsFault (sym fails) (no_value_fails seen name o))

pair : (word next name : List ℕ) (words : List Text) → IsOption name → is_plain word ≡ true → are_plain (next ∷ words) ≡ true → long_of word ≡ Some (name, None) → Claim words → Claim (word ∷ next ∷ words)
pair word next name words o p others is rest us seen pending s single =
    let e = not_the_end word p in
    let w = standing us pending idle in
    let reads = goes_on w (standing seen (Some (name, [])) (option name)) word (next ∷ words) _ (apart_passes us seen pending word name o s e is) (apart_goes us seen pending word name o s e is)
    (behind next name words o others rest seen single) in
    subst (λ (x : Option (List Use)). Agrees (rest_fails w (word ∷ next ∷ words)) (rest_rows w (word ∷ next ∷ words)) (outcome seen x)) (sym (apart_uses word name next words (option_is word p ∙ is))) reads

-- ---- the words

by_value : (word name : List ℕ) (v : Option Text) (words : List Text) → IsOption name → is_plain word ≡ true → long_of word ≡ Some (name, v) → Claim words → (long_of word ≡ Some (name, None) → Claim (word ∷ words)) → Claim (word ∷ words)
by_value word name None words o p is rest apart = apart is
by_value word name (Some value) words o p is rest apart = joined word name value words o p is rest

one_word : (word : List ℕ) (words : List Text) → is_plain word ≡ true → Claim words → ((name : List ℕ) → IsOption name → long_of word ≡ Some (name, None) → Claim (word ∷ words)) → Claim (word ∷ words)
one_word word words plain rest apart us seen pending s single =
    let e = not_the_end word plain in
    let w = standing us pending idle in
    elim (form_of word plain) [
      | inl l ↦ elim (option_or_not l.name) [
        | inl o ↦ by_value word l.name l.value words o plain l.is rest (apart l.name o) us seen pending s single
        | inr o ↦ refused w (word ∷ words) seen (other_uses word l.name l.value words (option_is word plain ∙ l.is) o) (stops w word words (no_option_fails us pending word l.name l.value o e l.is))
      ]
      | inr other ↦ elim other [
        | inl short ↦ refused w (word ∷ words) seen (no_uses word words (option_is word plain ∙ short.none))
            (stops w word words (subst IsFault (sym (idle_fails us pending word None e short.none)) (short_fails us pending word _ short)))
        | inr bare ↦ refused w (word ∷ words) seen (no_uses word words (option_is word plain ∙ bare.none)) (stops w word words (stray_fails us pending word e bare))
      ]
    ]

pub walks : (words : List Text) → are_plain words ≡ true → Claim words
unfolding walk_fault uses_of
walks [] p = λ us seen pending s single.
    let w = standing us pending idle in
    subst (λ (all : List Use). Agrees (rest_fails w []) (rest_rows w []) (cond (are_single all) (Some all) None)) (sym (append-nil seen))
    (subst (λ (t : Bool). Agrees (rest_fails w []) (rest_rows w []) (cond t (Some seen) None)) (sym single) (s.passes, s.rows))
walks (word ∷ []) p =
    let plain = (and_parts (is_plain word) true p).0 in
    one_word word [] plain (walks [] refl) (λ name o is. alone word name o plain is)
walks (word ∷ next ∷ words) p =
    let parts = and_parts (is_plain word) (are_plain (next ∷ words)) p in
    let others = and_parts (is_plain next) (are_plain words) parts.1 in
    one_word word (next ∷ words) parts.0 (walks (next ∷ words) parts.1) (λ name o is. pair word next name words o parts.0 parts.1 is (walks words others.1))
