-- Maps with keys of bytes that entries make. Where what stands at a key follows from the key, they are one if they have the same keys.
use Rattle.std.proofs.Common.{◌≡◌, ℕ, true, false, List, [], ◌∷◌, Option, Some, None, is_some, refl, sym, ap, ◌∙◌}
use Rattle.std.specs.List.{AllByRecursion}
use Rattle.std.specs.Ordering.{nat_cmp}
use Rattle.std.specs.Cmp.Lexicographic.{slice_cmp}
use Rattle.std.specs.FinMap as maps
use Rattle.fx_base.specs.Extended.{extended, collected}
use Rattle.fx_base.proofs.AtKey.{get_empty, same_by_get}
use Rattle.fx_base.proofs.KeyCases.{there_inserted}
use Rattle.fx_base.proofs.ExtendedKeys.{is_among, among_first, among_later, among_cases, there_extended, at_extended}
use Rattle.fx_model.specs.Messages.{Named}

-- ---- names that are among some

-- what holds of all of some names holds of one among them
pub of_among : (P : List ℕ → Type 0) (names : List (List ℕ)) → AllByRecursion P names → (name : List ℕ) → is_among name names ≡ true → P name
of_among P [] all name h = cc
of_among P (n ∷ names) all name h = among_cases P name n names h all.0 (of_among P names all.1 name)

pub each_among : (P : List ℕ → Type 0) (names : List (List ℕ)) → ((name : List ℕ) → is_among name names ≡ true → P name) → AllByRecursion P names
each_among P [] h = tt
each_among P (n ∷ names) h = (h n (among_first n names), each_among P names (λ m g. h m (among_later m n names g)))

-- ---- maps

pub nothing_there : {X : Type 0} {A : Type 0} (q : List ℕ) (x : X) → maps.get {R = slice_cmp nat_cmp} maps.empty q ≡ Some x → A
nothing_there q x h = let wrong : None ≡ Some x = sym (get_empty q) ∙ h in cc

module _ {X : Type 0} where
  -- each key that is put in is there
  pub keys_extended : (m : Named X) (es : List (List ℕ × X)) → AllByRecursion (λ e. maps.contains_key (extended m es) e.0 ≡ true) es
  keys_extended m [] = tt
  keys_extended m (e ∷ es) = (there_extended (maps.insert m e.0 e.1) es e.0 (there_inserted m e.0 e.1), keys_extended (maps.insert m e.0 e.1) es)

  -- what holds of all entries holds of what they make
  pub at_collected : (P : List ℕ → X → Type 0) (es : List (List ℕ × X)) → AllByRecursion (λ e. P e.0 e.1) es → (q : List ℕ) (x : X) → maps.get {R = slice_cmp nat_cmp} (collected es) q ≡ Some x → P q x
  at_collected P es all = at_extended P maps.empty es (λ q x h. nothing_there q x h) all

  module _ (P : List ℕ → X → Type 0) (one : (k : List ℕ) (x y : X) → P k x → P k y → x ≡ y) where
    pub same_made : (m n : Named X)
        → ((k : List ℕ) (x : X) → maps.get m k ≡ Some x → P k x × (maps.contains_key n k ≡ true))
        → ((k : List ℕ) (x : X) → maps.get n k ≡ Some x → P k x × (maps.contains_key m k ≡ true))
        → m ≡ n
    same_made m n g h = same_by_get m n (λ q. by_values q (maps.get m q) (maps.get n q) refl refl)
      where
        by_values : (q : List ℕ) (v w : Option X) → maps.get m q ≡ v → maps.get n q ≡ w → v ≡ w
        by_values q None None v w = refl
        by_values q (Some x) (Some y) v w = ap Some (one q x y (g q x v).0 (h q y w).0)
        by_values q (Some x) None v w = let wrong : true ≡ false = sym (g q x v).1 ∙ ap is_some w in cc
        by_values q None (Some y) v w = let wrong : true ≡ false = sym (h q y w).1 ∙ ap is_some v in cc
