-- What maps that were collected from entries have at a key.
use Rattle.std.proofs.Common.{◌≡◌, ℕ, Bool, true, false, cond, ◌&&◌, List, [], ◌∷◌, ◌++◌, Option, Some, None, refl, sym, ap, ◌∙◌, subst}
use Rattle.std.specs.Prelude.{T}
use Rattle.std.specs.declared.cmp.Ordering.{Ordering}
use Rattle.std.specs.declared.cmp.Ordering.TheVariants.{Less, Equal, Greater}
use Rattle.std.specs.Ordering.{nat_cmp, eq_by_cmp, is_eq, is_lt}
use Rattle.std.specs.Cmp.{IsTotalOrder, tied_itself}
use Rattle.std.specs.Cmp.Lexicographic.{slice_cmp, nat_list_cmp_total, texts_ties}
use Rattle.fx_base.specs.Same.{same_bytes}
use Rattle.std.specs.FinMap.{FinMap, find, is_sorted, entries, entries_sorted, get, get-entries, get-insert, get-empty, insert}
use Rattle.std.specs.FinMap.Entries.{below_all}
use Rattle.fx_base.specs.Extended.{extended, collected}

pub first : (a b : Bool) → T (a && b) → T a
first true b h = tt
first false b h = h

pub second : (a b : Bool) → T (a && b) → T b
second true b h = h
second false b h = absurd h

pub not_equal : (r : Ordering) → T (is_lt r) → is_eq r ≡ false
not_equal Less h = refl
not_equal Equal h = absurd h
not_equal Greater h = absurd h

module _ {K X : Type 0} (R : K → K → Ordering) where
  -- the value of the last entry at a key, or else this
  abbrev pub last_at : List (K × X) → K → Option X → Option X
  last_at [] q o = o
  last_at (e ∷ es) q o = last_at es q (cond (eq_by_cmp R q e.0) (Some e.1) o)

  pub last_at-append : (xs ys : List (K × X)) (q : K) (o : Option X) → last_at (xs ++ ys) q o ≡ last_at ys q (last_at xs q o)
  last_at-append [] ys q o = refl
  last_at-append (x ∷ xs) ys q o = last_at-append xs ys q (cond (eq_by_cmp R q x.0) (Some x.1) o)

module _ {K X : Type 0} {R : K → K → Ordering} (o : IsTotalOrder R) where
  pub get-extended : (m : FinMap R X) (es : List (K × X)) (q : K) → get (extended m es) q ≡ last_at R es q (get m q)
  get-extended m [] q = refl
  get-extended m (e ∷ es) q = get-extended (insert m e.0 e.1) es q ∙ ap (last_at R es q) (get-insert o m e.0 e.1 q)

  pub get-collected : (es : List (K × X)) (q : K) → get (collected {R = R} es) q ≡ last_at R es q None
  get-collected es q = get-extended _ es q ∙ ap (last_at R es q) (get-empty R q)

  -- the keys behind a key differ from it
  none_behind : (q x : K) (es : List (K × X)) (p : Option X) → T (is_eq (R q x)) → T (below_all R x es) → last_at R es q p ≡ p
  none_behind q x [] p t b = refl
  none_behind q x (e ∷ es) p t b =
      ap (λ r. last_at R es q (cond r (Some e.1) p)) (ap is_eq (o.congr q x e.0 (equal (R q x) t)) ∙ not_equal (R x e.0) (first _ _ b))
      ∙ none_behind q x es p t (second _ _ b)
    where
      equal : (r : Ordering) → T (is_eq r) → r ≡ Equal
      equal Less h = absurd h
      equal Equal h = refl
      equal Greater h = absurd h

  -- where the keys strictly rise, the last entry at a key is the first
  last-find : (es : List (K × X)) (q : K) → T (is_sorted R es) → last_at R es q None ≡ find R q es
  last-find [] q h = refl
  last-find (e ∷ es) q h =
      elim (eq_by_cmp R q e.0) as (λ b. eq_by_cmp R q e.0 ≡ b → last_at R es q (cond b (Some e.1) None) ≡ cond b (Some e.1) (find R q es)) [
        | true ↦ λ t. none_behind q e.0 es (Some e.1) (subst T (sym t) tt) (first _ _ h)
        | false ↦ λ t. last-find es q (second _ _ h)
      ] refl

  pub last-entries : (m : FinMap R X) (q : K) → last_at R (entries m) q None ≡ get m q
  last-entries m q = last-find (entries m) q (entries_sorted m) ∙ sym (get-entries m q)

-- keys of bytes are one
abbrev pub is : List ℕ → List ℕ → Bool
is q k = eq_by_cmp (slice_cmp nat_cmp) q k

abbrev pub last : {X : Type 0} → List (List ℕ × X) → List ℕ → Option X → Option X
last xs q o = last_at (slice_cmp nat_cmp) xs q o

pub last-append : {X : Type 0} (xs ys : List (List ℕ × X)) (q : List ℕ) (o : Option X) → last (xs ++ ys) q o ≡ last ys q (last xs q o)
last-append xs ys q o = last_at-append (slice_cmp nat_cmp) xs ys q o

pub is_itself : (q : List ℕ) → is q q ≡ true
is_itself q = ap is_eq (tied_itself nat_list_cmp_total q)

pub is_same : (q k : List ℕ) → is q k ≡ true → q ≡ k
is_same q k e = same_bytes q k (texts_ties q k ∙ e)
