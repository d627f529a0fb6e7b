-- Ascending lists of values.
use Rattle.std.proofs.Common.{◌≡◌, ℕ, Bool, true, false, cond, ◌||◌, List, [], ◌∷◌, Option, Some, None, nat_eq, refl, sym, ap, subst, ◌∙◌}
use Rattle.std.specs.Ordering.{nat_cmp, match_ordering}
use Rattle.std.specs.Cmp.Lexicographic.{slice_cmp, pointwise, nat_list_cmp_total, texts_ties}
use Rattle.std.specs.List.{AllByRecursion, list_any, dedup, dedup_from}
use Rattle.std.specs.List.Sorted.{IsStrictlySortedBy, IsSorted, IsPermutation}
use Rattle.std.specs.List.Retain.{DiffersFromLast, IsFiltered}
use Rattle.std.specs.declared.cmp.Ordering.TheVariants.{Less, Equal, Greater}
use Rattle.std.specs.FinMap as FinMap
use Rattle.std.specs.FinMap.{nat_cmp-IsAntisymmetric, slice_cmp-IsAntisymmetric}
use Rattle.std.specs.FinMap.Entries.{by_order}
use Rattle.std.specs.BTreeMap.{is_at}
use Rattle.std.specs.Map.{lookup, keys_of}
use Rattle.std.proofs.lemmas.Map.Keys.{sorted_head, sorted_tail}
use Rattle.std.proofs.lemmas.List.Kept.{IsStrictlySortedBy-dedup}
use Rattle.std.proofs.lemmas.List.Sorted.{list_any-IsPermutation}
use Rattle.std.proofs.lemmas.List.Filters.{dedup_is}
use Rattle.fx_base.specs.Set.{marked, from_list, items}
use Rattle.fx_base.specs.Same.{same_bytes}
use Rattle.fx_base.proofs.Entries.{entries-empty, get-view, listed}
use Rattle.fx_selector.specs.Tree.{put, set_of}

pub put-below : (v : List ℕ) (ws : List (List ℕ)) → AllByRecursion (λ w. slice_cmp nat_cmp v w ≡ Less) ws → put v ws ≡ v ∷ ws
put-below v [] h = refl
put-below v (w ∷ ws) h = ap (λ r. match_ordering r (v ∷ w ∷ ws) (w ∷ ws) (w ∷ put v ws)) h.0

-- an ascending list is the set of its values
pub sorted_set : (vs : List (List ℕ)) → IsStrictlySortedBy (slice_cmp nat_cmp) vs → set_of vs ≡ vs
sorted_set [] h = refl
sorted_set (v ∷ vs) h = ap (put v) (sorted_set vs (sorted_tail (slice_cmp nat_cmp) v vs h)) ∙ put-below v vs (sorted_head (slice_cmp nat_cmp) v vs h)

-- the elements that a `dedup` keeps pass a test where the list's do
module _ (E : List ℕ → List ℕ → Bool) (same : (x y : List ℕ) → E x y ≡ true → x ≡ y) (p : List ℕ → Bool) where
  twice : (a b : Bool) → (a || b) ≡ (a || (a || b))
  twice true b = refl
  twice false b = refl

  list_any-dedup_from : (k : List ℕ) (xs : List (List ℕ)) → list_any p (dedup_from E k xs) ≡ (p k || list_any p xs)
  list_any-dedup_from k [] = refl
  list_any-dedup_from k (x ∷ xs) =
      elim (E x k) as (λ b. E x k ≡ b → list_any p (cond b (dedup_from E k xs) (k ∷ dedup_from E x xs)) ≡ (p k || (p x || list_any p xs))) [
        | true ↦ λ e. list_any-dedup_from k xs ∙ (twice (p k) (list_any p xs) ∙ ap (λ z. p k || (p z || list_any p xs)) (sym (same x k e)))
        | false ↦ λ e. ap (λ b. p k || b) (list_any-dedup_from x xs)
      ] refl

  pub list_any-dedup : (xs : List (List ℕ)) → list_any p (dedup E xs) ≡ list_any p xs
  list_any-dedup [] = refl
  list_any-dedup (x ∷ xs) = list_any-dedup_from x xs

-- what a finite set has at a key
abbrev mark : Bool → Option (Unit {0})
mark true = Some tt
mark false = None

lookup-marked : (test : List ℕ → Bool) (ks : List (List ℕ)) → lookup test (marked ks) ≡ mark (list_any test ks)
lookup-marked test [] = refl
lookup-marked test (k ∷ ks) = elim (test k) as (λ b. cond b (Some tt) (lookup test (marked ks)) ≡ mark (b || list_any test ks)) [ true ↦ refl | false ↦ lookup-marked test ks ]

keys-put : (k : List ℕ) (es : List (List ℕ × Unit {0})) → keys_of (FinMap.put (slice_cmp nat_cmp) k tt es) ≡ put k (keys_of es)
keys-put k [] = refl
keys-put k (e ∷ es) = elim (slice_cmp nat_cmp k e.0) as (λ r. keys_of (by_order r ((k, tt) ∷ e ∷ es) ((e.0, tt) ∷ es) (e ∷ FinMap.put (slice_cmp nat_cmp) k tt es)) ≡ match_ordering r (k ∷ e.0 ∷ keys_of es) (e.0 ∷ keys_of es) (e.0 ∷ put k (keys_of es))) [
  | Less ↦ refl
  | Equal ↦ refl
  | Greater ↦ ap (λ xs. e.0 ∷ xs) (keys-put k es)
]

-- the items of the finite set of these values
items-from_list : (vs : List (List ℕ)) → items (from_list {R = slice_cmp nat_cmp} vs) ≡ set_of vs
items-from_list [] = ap keys_of (entries-empty (slice_cmp nat_cmp))
items-from_list (v ∷ vs) = ap keys_of (FinMap.entries-insert nat_list_cmp_total (from_list vs) v tt) ∙ (keys-put v (FinMap.entries (from_list vs)) ∙ ap (put v) (items-from_list vs))

-- an ascending list with the values of another is the other's set
pub same_values : (ys vs : List (List ℕ)) → IsStrictlySortedBy (slice_cmp nat_cmp) ys → ((p : List ℕ → Bool) → list_any p ys ≡ list_any p vs) → ys ≡ set_of vs
same_values ys vs sorted alike =
    listed nat_list_cmp_total ys (from_list ys) refl sorted
    ∙ (ap items (FinMap.same_map nat_list_cmp_total (slice_cmp-IsAntisymmetric nat_cmp-IsAntisymmetric) (from_list ys) (from_list vs) (λ q.
    get-view nat_list_cmp_total (marked ys) q ∙ (lookup-marked (is_at (slice_cmp nat_cmp q)) ys ∙ (ap mark (alike _) ∙ (sym (lookup-marked (is_at (slice_cmp nat_cmp q)) vs) ∙ sym (get-view nat_list_cmp_total (marked vs) q))))))
    ∙ items-from_list vs)

-- after a sort and a `dedup`
pub deduped_set : (vs xs ys : List (List ℕ)) → IsPermutation vs xs → IsSorted (slice_cmp nat_cmp) xs → IsFiltered (DiffersFromLast (pointwise nat_eq)) [] xs ys → ys ≡ set_of vs
deduped_set vs xs ys moved sorted kept =
    let e : ys ≡ dedup (pointwise nat_eq) xs = dedup_is (pointwise nat_eq) xs ys kept in
    same_values ys vs (subst (IsStrictlySortedBy (slice_cmp nat_cmp)) (sym e) (IsStrictlySortedBy-dedup nat_list_cmp_total texts_ties xs sorted))
    (λ p. ap (list_any p) e ∙ (list_any-dedup (pointwise nat_eq) same_bytes p xs ∙ sym (list_any-IsPermutation p vs xs moved)))
