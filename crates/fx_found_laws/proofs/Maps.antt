-- Maps whose keys all pass a test.
use Rattle.std.proofs.Common.{◌≡◌, inl, inr, ℕ, Bool, true, List, [], ◌∷◌, is_some, sym, ap, ◌∙◌}
use Rattle.std.specs.List.{AllByRecursion}
use Rattle.std.specs.Ordering.{nat_cmp}
use Rattle.std.specs.Cmp.Lexicographic.{slice_cmp}
use Rattle.std.specs.FinMap as maps
use Rattle.fx_base.specs.Extended.{extended, filled}
use Rattle.fx_base.proofs.AtKey.{get_empty}
use Rattle.fx_base.proofs.Cases.{none_some, true_false}
use Rattle.fx_base.proofs.FilledLemmas.{at_filled, value_there}
use Rattle.fx_base.proofs.KeyCases.{at_insert}

abbrev Named : Type 0 → Type 0
Named X = maps.FinMap (slice_cmp nat_cmp) X

-- no key is there
pub pass-empty : (X : Type 0) (passes : List ℕ → Bool) (q : List ℕ) → maps.contains_key (maps.empty {X = X} {R = slice_cmp nat_cmp}) q ≡ true → passes q ≡ true
pass-empty X passes q there = true_false (sym there ∙ ap is_some (get_empty q))

module _ {X : Type 0} (passes : List ℕ → Bool) where
  -- each key that is there passes
  abbrev pub AllPass : Named X → Type 0
  AllPass m = (q : List ℕ) → maps.contains_key m q ≡ true → passes q ≡ true

  pub pass-insert : (m : Named X) (k : List ℕ) (v : X) → passes k ≡ true → AllPass m → AllPass (maps.insert m k v)
  pass-insert m k v here before q there =
      let at = value_there (maps.get (maps.insert m k v) q) there in
      elim (at_insert m k v q at.0 at.1) as (λ _. passes q ≡ true) [
        | inl is ↦ ap passes is.0 ∙ here
        | inr left ↦ before q (ap is_some left)
      ]

  pub pass-extended : (m : Named X) (es : List (List ℕ × X)) → AllPass m → AllByRecursion (λ e. passes e.0 ≡ true) es → AllPass (extended m es)
  pass-extended m [] before all = before
  pass-extended m (e ∷ es) before all = pass-extended (maps.insert m e.0 e.1) es (pass-insert m e.0 e.1 all.0 before) all.1

  pub pass-filled : (es : List (List ℕ × X)) → AllByRecursion (λ e. passes e.0 ≡ true) es → AllPass (filled maps.empty es)
  pass-filled es all q there =
      let at = value_there (maps.get (filled maps.empty es) q) there in
      at_filled (λ (k : List ℕ) (x : X). passes k ≡ true) maps.empty es (λ k x is. none_some x (sym (get_empty k) ∙ is)) all q at.0 at.1
