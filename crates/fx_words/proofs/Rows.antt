-- The matches of uses, and what one more use makes of them.
use Rattle.std.proofs.Common.{◌≡◌, ◌∙◌, ◌&&◌, ◌||◌, Bool, true, false, cond, refl, sym, ap, ℕ, List, [], ◌∷◌, ◌++◌, map, Option, Some, None, option_map, true≢false}
use Rattle.std.specs.Prelude.{option_and_then, slice_get}
use Rattle.std.specs.List.{find, list_any}
use Rattle.std.specs.Str.{bytes_eq}
use Rattle.std.proofs.lemmas.List.{append-nil, map-append}
use Rattle.clap.specs.Kinds.{Kinds, or_else}
use Rattle.clap.specs.Faults.{use_fault}
use Rattle.clap.specs.Walk.{Row, at_row, first_of, has_row, reading_by, more_values, used}
use Rattle.clap.specs.declared.error.kind.ErrorKind.TheVariants.{ArgumentConflict}
use Rattle.clap.specs.declared.parser.matches.ValueSource.TheVariants.{CommandLine}
use Rattle.clap.proofs.WalkLemmas.{find-map, list_any-map}
use Rattle.fx_words.specs.Words.{Use, value_in}
use Rattle.fx_words.proofs.Options.{option_rule}

abbrev pub row_of : Use → Row
row_of u = record { id = u.0; values = u.1 ∷ []; count = None; source = Some CommandLine; reading = reading_by (option_rule u.0) }

abbrev pub rows_from : List Use → List Row
rows_from us = map row_of us

-- the option was used
abbrev pub has : List ℕ → List Use → Bool
has name us = list_any (λ u. bytes_eq u.0 name) us

has_row-rows_from : (name : List ℕ) (us : List Use) → has_row name (rows_from us) ≡ has name us
has_row-rows_from name us = sym (list_any-map (λ (r : Row). bytes_eq r.id name) row_of us)

pub neither : (a b : Bool) → (a || b) ≡ false → (a ≡ false) × (b ≡ false)
neither true b e = absurd (true≢false e)
neither false b e = (refl, e)

-- an option without a row gets one at the end
at_end : (name : List ℕ) (change : Row → List Row) (missing : List Row) (us : List Use) → has name us ≡ false → at_row name change missing (rows_from us) ≡ rows_from us ++ missing
at_end name change missing [] e = refl
at_end name change missing (u ∷ us) e =
    let p = neither (bytes_eq u.0 name) (has name us) e in
    ap (λ (b : Bool). cond b (change (row_of u) ++ rows_from us) (row_of u ∷ at_row name change missing (rows_from us))) p.0
    ∙ ap (λ (rs : List Row). row_of u ∷ rs) (at_end name change missing us p.1)

pub used_once : (name value : List ℕ) (us : List Use) → has name us ≡ false → used (option_rule name) (value ∷ []) (rows_from us) ≡ rows_from (us ++ (name, value) ∷ [])
used_once name value us e =
    let change = more_values CommandLine (value ∷ []) in
    let missing : List Row = row_of (name, value) ∷ [] in
    ap (at_row name change missing) (at_end name (λ _. []) [] us e ∙ append-nil (rows_from us))
    ∙ at_end name change missing us e
    ∙ sym (map-append row_of us ((name, value) ∷ []))

-- what a use of an option with one value fails by
abbrev repeated : Bool → Kinds
repeated b = or_else (cond (b && true) (ArgumentConflict ∷ []) []) []

use_is : (name value : List ℕ) (us : List Use) → use_fault false (option_rule name) (value ∷ []) (rows_from us) ≡ repeated (has name us)
use_is name value us = ap repeated (has_row-rows_from name us)

pub passes_once : (name value : List ℕ) (us : List Use) → has name us ≡ false → use_fault false (option_rule name) (value ∷ []) (rows_from us) ≡ []
passes_once name value us e = use_is name value us ∙ ap repeated e

pub fails_twice : (name value : List ℕ) (us : List Use) → has name us ≡ true → use_fault false (option_rule name) (value ∷ []) (rows_from us) ≡ ArgumentConflict ∷ []
fails_twice name value us e = use_is name value us ∙ ap repeated e

-- the value of an option
first_value_of : (o : Option Use) → option_and_then (λ (r : Row). slice_get r.values 0) (option_map row_of o) ≡ option_map (λ u. u.1) o
first_value_of None = refl
first_value_of (Some u) = refl

pub first_of-rows_from : (name : List ℕ) (us : List Use) → first_of name (rows_from us) ≡ value_in name us
first_of-rows_from name us =
    ap (option_and_then (λ (r : Row). slice_get r.values 0)) (sym (find-map (λ (r : Row). bytes_eq r.id name) row_of us))
    ∙ first_value_of (find (λ u. bytes_eq u.0 name) us)
