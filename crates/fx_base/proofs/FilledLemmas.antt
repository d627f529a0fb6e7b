-- What is there after entries are put into a map with keys of bytes where their keys are absent.
use Rattle.std.proofs.Common.{◌≡◌, inl, inr, ℕ, Bool, true, false, List, [], ◌∷◌, Option, Some, None, is_some, refl, sym, subst}
use Rattle.std.specs.Prelude.{if◌then◌else◌}
use Rattle.std.specs.List.{AllByRecursion}
use Rattle.std.specs.Ordering.{nat_cmp}
use Rattle.std.specs.Cmp.Lexicographic.{slice_cmp}
use Rattle.std.specs.FinMap as maps
use Rattle.fx_base.specs.Extended.{filled}
use Rattle.fx_base.proofs.KeyCases.{at_insert, there_insert, there_inserted}

abbrev Named : Type 0 → Type 0
Named X = maps.FinMap (slice_cmp nat_cmp) X

module _ {X : Type 0} where
  -- the map with the entry put in, unless its key is there
  abbrev with_entry : Named X → List ℕ × X → Named X
  with_entry m e = if maps.contains_key m e.0 then m else maps.insert m e.0 e.1

  there_with : (m : Named X) (e : List ℕ × X) (q : List ℕ) → maps.contains_key m q ≡ true → maps.contains_key (with_entry m e) q ≡ true
  there_with m e q h =
      elim (maps.contains_key m e.0) as (λ b. maps.contains_key (if b then m else maps.insert m e.0 e.1) q ≡ true) [
        | true ↦ h
        | false ↦ there_insert m e.0 e.1 q h
      ]

  -- a key that is there stays there
  pub there_filled : (m : Named X) (es : List (List ℕ × X)) (q : List ℕ) → maps.contains_key m q ≡ true → maps.contains_key (filled m es) q ≡ true
  there_filled m [] q h = h
  there_filled m (e ∷ es) q h = there_filled (with_entry m e) es q (there_with m e q h)

  here_with : (m : Named X) (e : List ℕ × X) → maps.contains_key (with_entry m e) e.0 ≡ true
  here_with m e =
      elim (maps.contains_key m e.0) as (λ b. maps.contains_key m e.0 ≡ b → maps.contains_key (if b then m else maps.insert m e.0 e.1) e.0 ≡ true) [
        | true ↦ λ is. is
        | false ↦ λ is. there_inserted m e.0 e.1
      ] refl

  -- each key that is put in is there
  pub keys_filled : (m : Named X) (es : List (List ℕ × X)) → AllByRecursion (λ e. maps.contains_key (filled m es) e.0 ≡ true) es
  keys_filled m [] = tt
  keys_filled m (e ∷ es) = (there_filled (with_entry m e) es e.0 (here_with m e), keys_filled (with_entry m e) es)

  -- what holds of all that is there and of all that is put in holds of all that is there then
  pub at_filled : (P : List ℕ → X → Type 0) (m : Named X) (es : List (List ℕ × X)) → ((q : List ℕ) (x : X) → maps.get m q ≡ Some x → P q x) → AllByRecursion (λ e. P e.0 e.1) es → (q : List ℕ) (x : X) → maps.get (filled m es) q ≡ Some x → P q x
  at_filled P m [] before h = before
  at_filled P m (e ∷ es) before h = at_filled P (with_entry m e) es (after (maps.contains_key m e.0)) h.1
    where
      after : (b : Bool) (q : List ℕ) (x : X) → maps.get (if b then m else maps.insert m e.0 e.1) q ≡ Some x → P q x
      after true q x is = before q x is
      after false q x is =
          elim (at_insert m e.0 e.1 q x is) as (λ _. P q x) [
            | inl here ↦ subst (λ (j : List ℕ). P j x) (sym here.0) (subst (P e.0) here.1 h.0)
            | inr there ↦ before q x there
          ]

-- a key that is there has a value
pub value_there : {X : Type 0} (o : Option X) → is_some o ≡ true → (x : X) × (o ≡ Some x)
value_there None h = cc
value_there (Some x) h = (x, refl)
