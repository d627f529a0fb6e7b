-- What a whole parse of plain words comes to: the definition's answer.
use Rattle.std.proofs.Common.{◌≡◌, ◌∙◌, ◌||◌, Bool, true, false, cond, refl, sym, ap, subst, ⊎_elim, ℕ, List, [], ◌∷◌, map, Option, Some, None, option_map}
use Rattle.std.specs.Prelude.{codes, fold, option_and_then}
use Rattle.clap.specs.Kinds.{HasKind, IsAmong, Kinds, or_else}
use Rattle.clap.specs.Faults.{defaults_fault, fault_of, settle_fault, walk_fault}
use Rattle.clap.specs.Matches.{first_value, found_of}
use Rattle.clap.specs.Values.{kind_of}
use Rattle.clap.specs.Walk.{Row, Text, first_of, has_row, idle, nothing_held, rows_of, settled, walk, with_default}
use Rattle.clap.specs.Simple.{built, matches_of}
use Rattle.clap.specs.declared.error.Error.{Error}
use Rattle.clap.specs.declared.error.kind.ErrorKind.TheVariants.{OutOfMemory}
use Rattle.clap.specs.declared.parser.matches.ArgMatches.{ArgMatches}
use Rattle.clap.proofs.FaultLemmas.{leaf_fault}
use Rattle.clap.proofs.WalkLemmas.{first_value-rows}
use Rattle.fx_words.specs.Words.{Use, are_single, given_of, single, uses_of, values_in}
use Rattle.fx_words.specs.Splitting.{are_plain, given_by, words_app}
use Rattle.fx_words.proofs.Options.{option_rule, options, shape}
use Rattle.fx_words.proofs.Rows.{first_of-rows_from, rows_from}
use Rattle.fx_words.proofs.Turns.{IsFault, settles_none, standing}
use Rattle.fx_words.proofs.Walking.{Agrees, outcome, rest_fails, rest_rows, walks}

-- ---- no option has a default

has_or : (b : Bool) (xs : Kinds) → cond (b || true) [] xs ≡ []
has_or true xs = refl
has_or false xs = refl

same_rows : (b : Bool) (rows : List Row) → cond b rows rows ≡ rows
same_rows true rows = refl
same_rows false rows = refl

with_default-same : (rows : List Row) (name : List ℕ) → with_default rows (option_rule name) ≡ rows
with_default-same rows name = same_rows (has_row name rows) rows

no_defaults : (rows : List Row) → fold with_default rows options ≡ rows
no_defaults rows =
    ap (λ (r : List Row). with_default (with_default r (option_rule (codes "soak"))) (option_rule (codes "count"))) (with_default-same rows (codes "node"))
    ∙ ap (λ (r : List Row). with_default r (option_rule (codes "count"))) (with_default-same rows (codes "soak"))
    ∙ with_default-same rows (codes "count")

no_default_faults : (names : List (List ℕ)) (rows : List Row) → defaults_fault rows (map option_rule names) ≡ []
unfolding defaults_fault
no_default_faults [] rows = refl
no_default_faults (name ∷ names) rows =
    ap (λ (k : Kinds). or_else k (defaults_fault (with_default rows (option_rule name)) (map option_rule names))) (has_or (has_row name rows) [])
    ∙ no_default_faults names (with_default rows (option_rule name))

-- ---- what a parse fails by, and what it finds

or_else-nil : (k : Kinds) → or_else k [] ≡ k
or_else-nil [] = refl
or_else-nil (x ∷ xs) = refl

faults_are : (words : List Text) → fault_of words_app words ≡ rest_fails (standing [] None idle) words
faults_are words =
    let end = (walk options [] nothing_held words).held in
    leaf_fault (built words_app) nothing_held words refl
    ∙ ap (λ (k : Kinds). or_else (walk_fault shape [] (standing [] None idle) words) (or_else (settle_fault options false end) (or_else k [])))
    (no_default_faults (codes "node" ∷ codes "soak" ∷ codes "count" ∷ []) (settled options end).rows)
    ∙ ap (or_else (walk_fault shape [] (standing [] None idle) words)) (or_else-nil (settle_fault options false end))

rows_are : (words : List Text) → matches_of words_app words ≡ rest_rows (standing [] None idle) words
rows_are words = no_defaults (settled options (walk options [] nothing_held words).held).rows

agrees : (words : List Text) → are_plain words ≡ true → Agrees (fault_of words_app words) (matches_of words_app words) (outcome [] (uses_of words))
agrees words p =
    subst (λ (k : Kinds). Agrees k (matches_of words_app words) (outcome [] (uses_of words))) (sym (faults_are words))
    (subst (λ (r : List Row). Agrees (rest_fails (standing [] None idle) words) r (outcome [] (uses_of words))) (sym (rows_are words))
    (walks words p [] [] None (settles_none []) refl))

-- ---- the definition's answer

given_is : (o : Option (List Use)) → option_and_then single o ≡ option_map values_in (outcome [] o)
given_is None = refl
given_is (Some us) = by (are_single us)
  where
    by : (t : Bool) → cond t (Some (values_in us)) None ≡ option_map values_in (cond t (Some us) None)
    by true = refl
    by false = refl

values_are : (m : ArgMatches) (us : List Use) → rows_of (found_of m) ≡ rows_from us → given_by m ≡ values_in us
values_are m us rows =
    let at : (name : List ℕ) → first_value (found_of m) name ≡ first_of name (rows_from us) = λ name. first_value-rows (found_of m) name ∙ ap (first_of name) rows in
    λ i. record {
      node = (at (codes "node") ∙ first_of-rows_from (codes "node") us) i;
      seed = (at (codes "soak") ∙ first_of-rows_from (codes "soak") us) i;
      count = (at (codes "count") ∙ first_of-rows_from (codes "count") us) i;
    }

-- a parse that succeeds gives what the definition reads
pub given_where_matched : (words : List Text) (m : ArgMatches) → are_plain words ≡ true → fault_of words_app words ≡ [] → rows_of (found_of m) ≡ matches_of words_app words → Some (given_by m) ≡ given_of words
given_where_matched words m p passes rows = by (outcome [] (uses_of words)) (agrees words p) ∙ sym (given_is (uses_of words))
  where
    by : (o : Option (List Use)) → Agrees (fault_of words_app words) (matches_of words_app words) o → Some (given_by m) ≡ option_map values_in o
    by None fails = absurd (subst IsFault passes fails)
    by (Some us) h = ap Some (values_are m us (rows ∙ h.1))

-- one that fails, and not for want of memory, says that the definition reads none
pub none_where_refused : (words : List Text) (e : Error) → are_plain words ≡ true → HasKind (fault_of words_app words) e → ¬ (kind_of e ≡ OutOfMemory) → None ≡ given_of words
none_where_refused words e p kind not_memory = by (outcome [] (uses_of words)) (agrees words p) ∙ sym (given_is (uses_of words))
  where
    among : IsAmong (kind_of e) (fault_of words_app words)
    among = ⊎_elim (λ m. absurd (not_memory m)) (λ a. a) kind

    by : (o : Option (List Use)) → Agrees (fault_of words_app words) (matches_of words_app words) o → None ≡ option_map values_in o
    by None fails = refl
    by (Some us) h = absurd (subst (IsAmong (kind_of e)) h.0 among)
