-- Uses of which no two are of one option.
use Rattle.std.proofs.Common.{◌≡◌, ◌∙◌, ◌&&◌, ◌||◌, Bool, true, false, not, refl, sym, ap, inl, inr, ℕ, List, [], ◌∷◌, ◌++◌, true≢false}
use Rattle.std.specs.List.{list_any}
use Rattle.std.specs.Str.{bytes_eq}
use Rattle.std.proofs.lemmas.Bool.{and_from, and_parts, and_right, not-true, or_cases}
use Rattle.std.proofs.lemmas.List.Folds.{list_any-append}
use Rattle.fx_words.specs.Words.{Use, are_single}
use Rattle.fx_words.proofs.Rows.{has, neither}

or_true : (b : Bool) → (b || true) ≡ true
or_true true = refl
or_true false = refl

pub doubled : (seen us : List Use) (name value : List ℕ) → has name seen ≡ true → are_single (seen ++ (name, value) ∷ us) ≡ false
doubled [] us name value e = absurd (true≢false (sym e))
doubled (u ∷ seen) us name value e =
    let later = seen ++ (name, value) ∷ us in
    elim (or_cases (bytes_eq u.0 name) (has name seen) e) [
      | inl same ↦
          let again : list_any (λ v. bytes_eq u.0 v.0) later ≡ true =
          list_any-append (λ v. bytes_eq u.0 v.0) seen ((name, value) ∷ us)
          ∙ ap (λ (b : Bool). list_any (λ v. bytes_eq u.0 v.0) seen || (b || list_any (λ v. bytes_eq u.0 v.0) us)) same
          ∙ or_true (list_any (λ v. bytes_eq u.0 v.0) seen) in
          ap (λ (b : Bool). not b && are_single later) again
      | inr there ↦ and_right (not (list_any (λ v. bytes_eq u.0 v.0) later)) (are_single later) (doubled seen us name value there)
    ]

pub single_push : (seen : List Use) (name value : List ℕ) → has name seen ≡ false → are_single seen ≡ true → are_single (seen ++ (name, value) ∷ []) ≡ true
single_push [] name value e single = refl
single_push (u ∷ seen) name value e single =
    let new = neither (bytes_eq u.0 name) (has name seen) e in
    let parts = and_parts (not (list_any (λ v. bytes_eq u.0 v.0) seen)) (are_single seen) single in
    let apart : list_any (λ v. bytes_eq u.0 v.0) (seen ++ (name, value) ∷ []) ≡ false =
    list_any-append (λ v. bytes_eq u.0 v.0) seen ((name, value) ∷ [])
    ∙ (λ i. not-true (list_any (λ v. bytes_eq u.0 v.0) seen) parts.0 i || (new.0 i || false)) in
    and_from _ _ (ap not apart) (single_push seen name value new.1 parts.1)
