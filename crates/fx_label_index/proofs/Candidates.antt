-- A walk over candidates, which tests each once.
use Rattle.std.proofs.Common.{◌≡◌, ℕ, ◌+◌, ◌-◌, ◌^◌, min, Bool, true, false, cond, List, ◌∷◌, length, Option, Some, None, is_some, IsSome, refl, sym, ap, ◌∙◌}
use Rattle.std.specs.declared.cmp.Ordering.{Ordering}
use Rattle.std.specs.Ordering.{is_eq, eq_by_cmp}
use Rattle.std.specs.Cmp.{IsTotalOrder, tied_itself}
use Rattle.std.specs.FinMap.{IsAntisymmetric, entries, get-entries, get-empty, len-entries}
use Rattle.fx_base.specs.Set as set
use Rattle.fx_base.specs.Set.{Set}
use Rattle.fx_base.specs.Passing.{passes}
use Rattle.fx_base.specs.Ticks.{ticked}
use Rattle.fx_base.proofs.Walk.{IsRest, IsHalf, IsRest-head, IsHalf-next}
use Rattle.fx_selector.specs.Tree.{Tree}
use Rattle.fx_selector.specs.Truth.{LabelMap}
use Rattle.fx_selector.proofs.Needing.{holding}
use Rattle.fx_label_index.specs.Indexed.{is_met}
use Rattle.fx_label_index.specs.Tested.{met_on}
use Rattle.fx_label_index.specs.Matched.{tests, holds_on}
use Rattle.fx_label_index.specs.declared.counted.Counted.{Counted}

-- candidates that are left aren't in the answer, and the others are where the test says so
abbrev pub HalfTested : {K : Type 0} {R : K → K → Ordering} → (K → Bool) → Set R → List (K × Unit {0}) → Type 0
HalfTested {K = K} {R = R} f now es = IsHalf R (λ (k : K) (_ : Unit {0}). false) (λ k _. f k) (λ k _. set.contains now k) es

module _ {K : Type 0} {R : K → K → Ordering} (o : IsTotalOrder R) (exact : IsAntisymmetric R) (f : K → Bool) (candidates : Set R) where
  untested : (a b : Bool) → (b ≡ true → a ≡ true) → false ≡ cond a false b
  untested true b h = refl
  untested false true h = h refl
  untested false false h = refl

  pub tested-start : ((k : K) → f k ≡ true → set.contains candidates k ≡ true) → (now : Set R) → now ≡ set.empty → HalfTested f now (entries candidates)
  tested-start within now is = record {
    at = λ k _.
        ap (λ s. set.contains s k) is ∙ ap is_some (get-empty R k) ∙ untested (set.contains candidates k) (f k) (within k)
        ∙ ap (λ b. cond b false (f k)) (ap is_some (get-entries candidates k));
  }

  pub tested-next : (now next : Set R) (e : K × Unit {0}) (es : List (K × Unit {0})) (answer : Bool) → IsRest candidates (e ∷ es) → HalfTested f now (e ∷ es) → answer ≡ f e.0 → ((k : K) → set.contains next k ≡ cond (eq_by_cmp R k e.0) answer (set.contains now k)) → HalfTested f next es
  tested-next now next e es answer w h is put =
      IsHalf-next o exact (λ k _. false) (λ k _. f k) candidates (λ k _. set.contains now k) (λ k _. set.contains next k) e es w h
      (λ _. put e.0 ∙ ap (λ r. cond (is_eq r) answer (set.contains now e.0)) (tied_itself o e.0) ∙ is)
      (λ k _ other. put k ∙ ap (λ b. cond b answer (set.contains now k)) other)

  pub tested-head : (e : K × Unit {0}) (es : List (K × Unit {0})) → IsRest candidates (e ∷ es) → set.contains candidates e.0 ≡ true
  tested-head e es w = ap is_some (IsRest-head o candidates e es w)

  pub tested-tick : (n next total : ℕ) (e : K × Unit {0}) (es : List (K × Unit {0})) → IsRest candidates (e ∷ es) → next ≡ min (n + 1) (2 ^ 64 - 1) → ticked (length (e ∷ es)) n ≡ total → ticked (length es) next ≡ total
  tested-tick n next total e es w is h = ap (ticked (length es)) is ∙ h

  -- as many ticks as candidates
  pub tested-number : (n count : ℕ) → ticked 0 n ≡ ticked (length (entries candidates)) count → n ≡ ticked (set.len candidates) count
  tested-number n count h = h ∙ ap (λ k. ticked k count) (sym (len-entries candidates))

-- ---- texts on labels
pub text_there : (labels : LabelMap) (t : List ℕ) (o : Option Counted) → passes (is_met labels) t o ≡ true → IsSome o
text_there labels t None h = cc
text_there labels t (Some counted) h = refl

pub text_within : (labels : LabelMap) (t : List ℕ) (o : Option Counted) → tests o (Some labels) ≡ true → passes (is_met labels) t o ≡ true
text_within labels t None h = h
text_within labels t (Some counted) h = holding counted.selector labels h

-- ---- a selector on items
pub item_there : (tree : Tree) (o : Option LabelMap) → met_on tree o ≡ true → IsSome o
item_there tree None h = cc
item_there tree (Some labels) h = refl

pub item_within : (tree : Tree) (o : Option LabelMap) → holds_on tree o ≡ true → met_on tree o ≡ true
item_within tree None h = h
item_within tree (Some labels) h = holding tree labels h
