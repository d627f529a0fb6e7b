-- Trees that a selector may hold.
use Rattle.std.proofs.Common.{◌≡◌, ℕ, ◌≤◌, ◌<◌, Bool, true, false, if◌then◌else◌, List, [], ◌∷◌, ◌++◌, length, All, refl, ap, ◌∙◌, arith}
use Rattle.std.specs.Ordering.{nat_cmp, match_ordering, ordering_reverse}
use Rattle.std.specs.Cmp.Lexicographic.{slice_cmp, nat_list_cmp_total}
use Rattle.std.specs.List.{AllByRecursion}
use Rattle.std.specs.List.Sorted.{IsStrictlySortedBy}
use Rattle.std.specs.declared.cmp.Ordering.{Ordering}
use Rattle.std.specs.declared.cmp.Ordering.TheVariants.{Less, Equal, Greater}
use Rattle.std.proofs.lemmas.List.Elements.{All-head, All-tail}
use Rattle.fx_selector.specs.Tree.{Tree, within, outside, each, many, together, and_of, put, set_of, count, height, heights, IsKey, IsString, AreStrings, IsSet, IsTree, AreTrees, IsSelector}

abbrev order : List ℕ → List ℕ → Ordering
order = slice_cmp nat_cmp

all-put : (P : List ℕ → Type 0) (v : List ℕ) (ws : List (List ℕ)) → P v → AllByRecursion P ws → AllByRecursion P (put v ws)
all-put P v [] p h = (p, tt)
all-put P v (w ∷ ws) p h = elim (order v w) as (λ r. AllByRecursion P (match_ordering r (v ∷ w ∷ ws) (w ∷ ws) (w ∷ put v ws))) [
  | Less ↦ (p, (h.0, h.1))
  | Equal ↦ (h.0, h.1)
  | Greater ↦ (h.0, all-put P v ws p h.1)
]

below_all : (v w : List ℕ) (ws : List (List ℕ)) → order v w ≡ Less → AllByRecursion (λ y. order w y ≡ Less) ws → AllByRecursion (λ y. order v y ≡ Less) ws
below_all v w [] e h = tt
below_all v w (x ∷ xs) e h = (nat_list_cmp_total.trans v w x e h.0, below_all v w xs e h.1)

turned : (v w : List ℕ) → order v w ≡ Greater → order w v ≡ Less
turned v w e = nat_list_cmp_total.antisymm w v ∙ ap ordering_reverse e

sorted-put : (v : List ℕ) (ws : List (List ℕ)) → IsStrictlySortedBy order ws → IsStrictlySortedBy order (put v ws)
unfolding IsStrictlySortedBy
sorted-put v [] h = (tt, tt)
sorted-put v (w ∷ ws) h = elim (order v w) as (λ r. order v w ≡ r → IsStrictlySortedBy order (match_ordering r (v ∷ w ∷ ws) (w ∷ ws) (w ∷ put v ws))) [
  | Less ↦ λ e. ((e, below_all v w ws e h.0), (h.0, h.1))
  | Equal ↦ λ e. (h.0, h.1)
  | Greater ↦ λ e. (all-put (λ y. order w y ≡ Less) v ws (turned v w e) h.0, sorted-put v ws h.1)
] refl

pub sorted-set_of : (vs : List (List ℕ)) → IsStrictlySortedBy order (set_of vs)
unfolding IsStrictlySortedBy
sorted-set_of [] = tt
sorted-set_of (v ∷ vs) = sorted-put v (set_of vs) (sorted-set_of vs)

strings-put : (v : List ℕ) (ws : List (List ℕ)) → IsString v → AreStrings ws → AreStrings (put v ws)
strings-put v [] p h = (p, tt)
strings-put v (w ∷ ws) p h = elim (order v w) as (λ r. AreStrings (match_ordering r (v ∷ w ∷ ws) (w ∷ ws) (w ∷ put v ws))) [
  | Less ↦ (p, (h.0, h.1))
  | Equal ↦ (h.0, h.1)
  | Greater ↦ (h.0, strings-put v ws p h.1)
]

strings-set_of : (vs : List (List ℕ)) → AreStrings vs → AreStrings (set_of vs)
strings-set_of [] h = tt
strings-set_of (v ∷ vs) h = strings-put v (set_of vs) h.0 (strings-set_of vs h.1)

pub set-set_of : (vs : List (List ℕ)) → AreStrings vs → IsSet (set_of vs)
set-set_of vs h = (strings-set_of vs h, sorted-set_of vs)

pub one_of_selector : (k : List ℕ) (vs : List (List ℕ)) (not : Bool) → IsKey k → AreStrings vs → IsSelector (if not then outside k (set_of vs) else within k (set_of vs))
one_of_selector k vs true h s = record { tree = (h, set-set_of vs s); shallow = omega arith }
one_of_selector k vs false h s = record { tree = (h, set-set_of vs s); shallow = omega arith }

count-many : (ts : List Tree) → count (many ts) ≡ length ts
count-many [] = refl
count-many (t ∷ ts) = omega (arith, count-many ts)

heights-many : (n : ℕ) (ts : List Tree) → All (λ t. height t ≤ n) ts → heights (many ts) ≤ n
heights-many n [] h = omega arith
heights-many n (t ∷ ts) h = omega (arith, All-head (λ t. height t ≤ n) t ts h, heights-many n ts (All-tail (λ t. height t ≤ n) t ts h))

pub trees-push : (ts : List Tree) (t : Tree) → AreTrees (many ts) → IsTree t → AreTrees (many (ts ++ t ∷ []))
trees-push [] t s h = (h, tt)
trees-push (u ∷ us) t s h = (s.0, trees-push us t s.1 h)

-- the And of operands that are not too deep
pub and_selector : (ts : List Tree) → AreTrees (many ts) → All (λ t. height t ≤ 139) ts → IsSelector (and_of ts)
and_selector [] s h = record { tree = tt; shallow = omega arith }
and_selector (t ∷ []) s h = record { tree = s.0; shallow = omega (arith, heights-many 139 (t ∷ []) h) }
and_selector (t ∷ u ∷ us) s h = record { tree = (s, omega (arith, count-many (t ∷ u ∷ us))); shallow = omega (arith, heights-many 139 (t ∷ u ∷ us) h) }

pub and_of-filled : (ts : List Tree) → 0 < length ts → together each ts ≡ and_of ts
and_of-filled [] h = absurd (omega arith)
and_of-filled (t ∷ ts) h = refl
