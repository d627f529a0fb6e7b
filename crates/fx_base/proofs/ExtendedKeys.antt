-- What is there after more entries are put into a map with keys of bytes.
use Rattle.std.proofs.Common.{◌≡◌, inl, inr, ℕ, Bool, true, false, ◌||◌, List, [], ◌∷◌, map, Some, refl, sym, ap, ◌∙◌, subst}
use Rattle.std.specs.List.{AllByRecursion, list_any, flat_map}
use Rattle.std.specs.declared.cmp.Ordering.TheVariants.{Less, Equal, Greater}
use Rattle.std.specs.Ordering.{nat_cmp, is_eq, eq_by_cmp}
use Rattle.std.specs.Cmp.{tied_itself}
use Rattle.std.specs.Cmp.Lexicographic.{slice_cmp, nat_list_cmp_total}
use Rattle.std.specs.FinMap as maps
use Rattle.fx_base.specs.Extended.{extended}
use Rattle.fx_base.proofs.KeyCases.{bytes_exact, at_insert, there_insert}
use Rattle.fx_base.proofs.ExtendedLemmas.{extended-append}

abbrev Named : Type 0 → Type 0
Named X = maps.FinMap (slice_cmp nat_cmp) X

-- whether the key is among these
abbrev pub is_among : List ℕ → List (List ℕ) → Bool
is_among k ks = list_any (eq_by_cmp (slice_cmp nat_cmp) k) ks

pub among_first : (k : List ℕ) (ks : List (List ℕ)) → is_among k (k ∷ ks) ≡ true
among_first k ks = ap (λ r. is_eq r || is_among k ks) (tied_itself nat_list_cmp_total k)

either_true : (a b : Bool) → b ≡ true → (a || b) ≡ true
either_true true b h = refl
either_true false b h = h

pub among_later : (k q : List ℕ) (ks : List (List ℕ)) → is_among k ks ≡ true → is_among k (q ∷ ks) ≡ true
among_later k q ks h = either_true _ _ h

-- a key that is among them is the first one or among the later ones
pub among_cases : (P : List ℕ → Type 0) (k q : List ℕ) (ks : List (List ℕ)) → is_among k (q ∷ ks) ≡ true → P q → (is_among k ks ≡ true → P k) → P k
among_cases P k q ks h first later =
    elim (slice_cmp nat_cmp k q) as (λ r. slice_cmp nat_cmp k q ≡ r → (is_eq r || is_among k ks) ≡ true → P k) [
      | Less ↦ λ p is. later is
      | Equal ↦ λ p is. subst P (sym (bytes_exact k q p)) first
      | Greater ↦ λ p is. later is
    ] refl h

module _ {X : Type 0} where
  -- a key that is there stays there
  pub there_extended : (m : Named X) (es : List (List ℕ × X)) (q : List ℕ) → maps.contains_key m q ≡ true → maps.contains_key (extended m es) q ≡ true
  there_extended m [] q h = h
  there_extended m (e ∷ es) q h = there_extended (maps.insert m e.0 e.1) es q (there_insert m e.0 e.1 q h)

  -- what holds of all that is there and of all that is put in holds of all that is there then
  pub at_extended : (P : List ℕ → X → Type 0) (m : Named X) (es : List (List ℕ × X)) → ((q : List ℕ) (x : X) → maps.get m q ≡ Some x → P q x) → AllByRecursion (λ e. P e.0 e.1) es → (q : List ℕ) (x : X) → maps.get (extended m es) q ≡ Some x → P q x
  at_extended P m [] before h q x e = before q x e
  at_extended P m (f ∷ fs) before h q x e =
      at_extended P (maps.insert m f.0 f.1) fs (λ k v is.
      elim (at_insert m f.0 f.1 k v is) as (λ _. P k v) [
        | inl here ↦ subst (λ (j : List ℕ). P j v) (sym here.0) (subst (P f.0) here.1 h.0)
        | inr there ↦ before k v there
      ]) h.1 q x e

-- each key of es gives its entries, and among them one by the name that it gives
module _ {X Y : Type 0} (f : List ℕ × X → List (List ℕ × Y)) (name : List ℕ → List ℕ) (gives : (m : Named Y) (e : List ℕ × X) → maps.contains_key (extended m (f e)) (name e.0) ≡ true) where
  pub there_by_name : (m : Named Y) (es : List (List ℕ × X)) (k : List ℕ) → is_among k (map (λ e. e.0) es) ≡ true → maps.contains_key (extended m (flat_map f es)) (name k) ≡ true
  there_by_name m [] k h = cc
  there_by_name m (e ∷ es) k h =
      let split = extended-append m (f e) (flat_map f es) in
      ap (λ n. maps.contains_key n (name k)) split
      ∙ among_cases (λ q. maps.contains_key (extended (extended m (f e)) (flat_map f es)) (name q) ≡ true) k e.0 (map (λ e. e.0) es) h
      (there_extended (extended m (f e)) (flat_map f es) (name e.0) (gives m e))
      (λ later. there_by_name (extended m (f e)) es k later)
