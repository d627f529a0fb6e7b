-- What shows that `==` tells all values apart.
use Rattle.std.specs.Prelude.{Option, Some, None, ◌≡◌, ℕ, Bool, true, false, ◌&&◌, List, [], ◌∷◌, nat_eq}
use Rattle.std.specs.declared.cmp.Ordering.{Ordering}
use Rattle.std.specs.FinMap.{FinMap, entries, same_entries_map}
use Rattle.std.proofs.Common.{refl, ap, ◌∙◌}
use Rattle.std.specs.Cmp.{unsigned_Decides}
use Rattle.std.specs.Cmp.Lexicographic.{pointwise}
use Rattle.fx_base.specs.Set.{Set, items, same_items}
use mathlib.Core.Bool.{beq}
use Rattle.std.specs.Ordering.{eq_by_cmp, is_eq}
use Rattle.std.specs.FinMap.{IsAntisymmetric}
use Rattle.std.specs.Option.{option_eq}
use Rattle.std.proofs.lemmas.Slice.Eq.{slice_eq-Decides}

pub same_numbers : (x y : ℕ) → nat_eq x y ≡ true → x ≡ y
same_numbers x y e = (unsigned_Decides x y).0 e

pub same_bytes : (x y : List ℕ) → pointwise nat_eq x y ≡ true → x ≡ y
same_bytes x y e = (slice_eq-Decides unsigned_Decides x y _ refl).0 e

-- both tests of an `&&`
pub both_pass : (s t : Bool) → (s && t) ≡ true → (s ≡ true) × (t ≡ true)
both_pass true t e = (refl, e)
both_pass false t e = cc

pub same_list : {A : Type 0} (E : A → A → Bool) → ((a b : A) → E a b ≡ true → a ≡ b) → (xs ys : List A) → pointwise E xs ys ≡ true → xs ≡ ys
same_list E same [] [] e = refl
same_list E same [] (y ∷ ys) e = cc
same_list E same (x ∷ xs) [] e = cc
same_list E same (x ∷ xs) (y ∷ ys) e =
    let p = both_pass (E x y) (pointwise E xs ys) e in
    λ i. same x y p.0 i ∷ same_list E same xs ys p.1 i

-- finite maps whose entries `==` does not tell apart
pub same_finite : {K X : Type 0} {R : K → K → Ordering} (E : K → K → Bool) (F : X → X → Bool) → ((a b : K) → E a b ≡ true → a ≡ b) → ((v w : X) → F v w ≡ true → v ≡ w) → (m n : FinMap R X) → pointwise (λ (p q : K × X). E p.0 q.0 && F p.1 q.1) (entries m) (entries n) ≡ true → m ≡ n
same_finite E F keys values m n e =
    same_entries_map m n (same_list _ (λ p q h. let b = both_pass (E p.0 q.0) (F p.1 q.1) h in λ i. (keys p.0 q.0 b.0 i, values p.1 q.1 b.1 i)) (entries m) (entries n) e)

pub same_set : {K : Type 0} {R : K → K → Ordering} (E : K → K → Bool) → ((a b : K) → E a b ≡ true → a ≡ b) → (s t : Set R) → pointwise E (items s) (items t) ≡ true → s ≡ t
same_set E same s t e = same_items s t (same_list E same (items s) (items t) e)

pub same_truths : (a b : Bool) → beq a b ≡ true → a ≡ b
same_truths true true e = refl
same_truths true false e = cc
same_truths false true e = cc
same_truths false false e = refl

pub same_option : {A : Type 0} (E : A → A → Bool) → ((a b : A) → E a b ≡ true → a ≡ b) → (x y : Option A) → option_eq E x y ≡ true → x ≡ y
same_option E same None None e = refl
same_option E same None (Some y) e = cc
same_option E same (Some x) None e = cc
same_option E same (Some x) (Some y) e = λ i. Some (same x y e i)

-- a clone of an option is the option, where a clone of its value is the value
pub copies_option : {A : Type 0} (F : Option A → Option A → Type 0) → ((a b : A) → F (Some a) (Some b) → b ≡ a) → ((b : A) → F None (Some b) → ⊥) → ((a : A) → F (Some a) None → ⊥) → (x y : Option A) → F x y → y ≡ x
copies_option F value none some None None h = refl
copies_option F value none some None (Some b) h = absurd (none b h)
copies_option F value none some (Some a) None h = absurd (some a h)
copies_option F value none some (Some a) (Some b) h = λ i. Some (value a b h i)

-- keys that compare alike are one, where `==` answers as the order does and tells all keys apart
pub exact_by : {K : Type 0} (E : K → K → Bool) (R : K → K → Ordering) → ((x y : K) → E x y ≡ eq_by_cmp R x y) → ((x y : K) → E x y ≡ true → x ≡ y) → IsAntisymmetric R
exact_by E R ties same x y e = same x y (ties x y ∙ ap is_eq e)
