-- What items contribute to a set in all, as an item comes, goes, or begins to count.
use Rattle.std.proofs.Common.{◌≡◌, ◌≤◌, ℕ, ◌+◌, Bool, true, false, cond, not, ◌&&◌, List, [], ◌∷◌, Option, Some, None, refl, sym, ap, ◌∙◌, subst, arith}
use Rattle.std.specs.Cmp.{eq_by_cmp_equiv}
use Rattle.std.specs.FinMap as map
use Rattle.fx_base.proofs.SumOver.{sum_over, sum_at, sum-insert, sum-remove}
use Rattle.fx_base.proofs.Keyed.{own_key, get_removed}
use Rattle.fx_model.specs.Sets.{contributed}
use Rattle.fx_model.specs.declared.ids.ItemKey.{ItemKey}
use Rattle.fx_model.specs.declared.member.Member.{Member}
use Rattle.fx_model.specs.declared.resources.Item.{Item}
use Rattle.fx_model.specs.declared.set_use.SetUse.{SetUse}
use Rattle.fx_model.specs.contracts.ids.ItemKeyOrd.TheImpl as item_cmp
use Rattle.fx_model.proofs.Orders.{item_total, exact_item}
use Rattle.fx_members.specs.Counts.{gives, shifted, times, total}
use Rattle.fx_members.specs.Indexes.{same_item}
use Rattle.fx_members.specs.Inputs.{Items}
use Rattle.fx_members.proofs.CountLemmas.{unmoved}

nothing : (b : Bool) → ◌≡◌ {A = ℕ} 0 (cond b 0 0)
nothing true = refl
nothing false = refl

same_sum : (a b c d : ℕ) → a ≡ b → c ≡ d → a + c ≡ b + d
same_sum a b c d h k = λ j. h j + k j

abbrev weight : (ItemKey → Bool) → SetUse → Member → ItemKey × Item → ℕ
weight holds u m e = cond (holds e.0) (times (contributed u e.1) m) 0

-- ---- an item apart from the others
module _ (holds : ItemKey → Bool) (u : SetUse) (m : Member) where
  as_sum : (es : List (ItemKey × Item)) → total holds u es m ≡ sum_over (weight holds u m) es
  as_sum [] = refl
  as_sum (e ∷ es) = ap (λ n. weight holds u m e + n) (as_sum es)

  at_item : (k : ItemKey) (o : Option Item) → sum_at (weight holds u m) k o ≡ cond (holds k) (gives (Some u) o m) 0
  at_item k None = nothing (holds k)
  at_item k (Some x) = refl

  pub total_apart : (items : Items) (k : ItemKey) → total holds u (map.entries items) m ≡ cond (holds k) (gives (Some u) (map.get items k) m) 0 + total holds u (map.entries (map.remove items k)) m
  total_apart items k =
      as_sum (map.entries items) ∙ sum-remove item_total exact_item (weight holds u m) items k
      ∙ same_sum _ _ _ _ (at_item k (map.get items k)) (sym (as_sum (map.entries (map.remove items k))))

  pub total_insert : (items : Items) (k : ItemKey) (x : Item) → total holds u (map.entries (map.insert items k x)) m ≡ cond (holds k) (gives (Some u) (Some x) m) 0 + total holds u (map.entries (map.remove items k)) m
  total_insert items k x =
      as_sum (map.entries (map.insert items k x)) ∙ sum-insert item_total exact_item (weight holds u m) items k x
      ∙ ap (λ n. weight holds u m (k, x) + n) (sym (as_sum (map.entries (map.remove items k))))

  pub total_none : ((i : ItemKey) → holds i ≡ false) → (es : List (ItemKey × Item)) → total holds u es m ≡ 0
  total_none none [] = refl
  total_none none (e ∷ es) = same_sum _ _ _ _ (ap (λ b. cond b (times (contributed u e.1) m) 0) (none e.0)) (total_none none es)

-- ---- items that hold alike
module _ (holds others : ItemKey → Bool) (u : SetUse) (m : Member) where
  pub total_same : ((i : ItemKey) → holds i ≡ others i) → (es : List (ItemKey × Item)) → total holds u es m ≡ total others u es m
  total_same same [] = refl
  total_same same (e ∷ es) = same_sum _ _ _ _ (ap (λ b. cond b (times (contributed u e.1) m) 0) (same e.0)) (total_same same es)

  -- but for one that isn't there
  total_alike : (k : ItemKey) → ((i : ItemKey) → same_item i k ≡ false → holds i ≡ others i) → (es : List (ItemKey × Item)) → map.find item_cmp.cmp-value.it k es ≡ None → total holds u es m ≡ total others u es m
  total_alike k alike [] none = refl
  total_alike k alike (e ∷ es) none =
      elim (same_item k e.0) as (λ b. same_item k e.0 ≡ b → cond b (Some e.1) (map.find item_cmp.cmp-value.it k es) ≡ None → total holds u (e ∷ es) m ≡ total others u (e ∷ es) m) [
        | true ↦ λ t is. cc
        | false ↦ λ t is.
            same_sum _ _ _ _
            (ap (λ b. cond b (times (contributed u e.1) m) 0) (alike e.0 ((eq_by_cmp_equiv item_total).symm e.0 k ∙ t)))
            (total_alike k alike es is)
      ] refl none

  pub total_beside : (items : Items) (k : ItemKey) → ((i : ItemKey) → same_item i k ≡ false → holds i ≡ others i) → total holds u (map.entries (map.remove items k)) m ≡ total others u (map.entries (map.remove items k)) m
  total_beside items k alike = total_alike k alike (map.entries (map.remove items k)) (sym (map.get-entries (map.remove items k) k) ∙ get_removed item_total items k)

-- ---- an item that begins to count, or ends
joins : (b : Bool) (g n : ℕ) → cond b g 0 + n ≡ shifted b g (cond (not b) g 0 + n)
joins true g n = omega arith
joins false g n = omega arith

within : (b : Bool) (g n : ℕ) → b ≡ true → g ≤ cond b g 0 + n
within true g n h = omega arith
within false g n h = cc

module _ (holds after : ItemKey → Bool) (u : SetUse) (items : Items) (k : ItemKey) (b : Bool) (m : Member) where
  pub total_put : ((i : ItemKey) → after i ≡ cond (same_item i k) b (holds i)) → holds k ≡ not b → total after u (map.entries items) m ≡ shifted b (gives (Some u) (map.get items k) m) (total holds u (map.entries items) m)
  total_put is was =
      let g = gives (Some u) (map.get items k) m in
      let rest = total holds u (map.entries (map.remove items k)) m in
      total_apart after u m items k
      ∙ same_sum (cond (after k) g 0) (cond b g 0) _ rest
      (ap (λ c. cond c g 0) (is k ∙ ap (λ c. cond c b (holds k)) (own_key item_total k)))
      (sym (total_beside holds after u m items k (λ i other. sym (is i ∙ ap (λ c. cond c b (holds i)) other))))
      ∙ joins b g rest
      ∙ ap (shifted b g) (sym (total_apart holds u m items k ∙ ap (λ c. cond c g 0 + rest) was))

-- what an item that counts contributes is within the whole
pub total_within : (holds : ItemKey → Bool) (u : SetUse) (items : Items) (k : ItemKey) (m : Member) → holds k ≡ true → gives (Some u) (map.get items k) m ≤ total holds u (map.entries items) m
total_within holds u items k m counts =
    let g = gives (Some u) (map.get items k) m in
    subst (λ n. g ≤ n) (sym (total_apart holds u m items k)) (within (holds k) g _ counts)

-- the same where it may not be concerned
pub total_put_if : (holds after : ItemKey → Bool) (u : SetUse) (items : Items) (k : ItemKey) (a b : Bool) (m : Member)
    → ((i : ItemKey) → after i ≡ cond (a && same_item i k) b (holds i)) → (a ≡ true → holds k ≡ not b)
    → total after u (map.entries items) m ≡ shifted b (cond a (gives (Some u) (map.get items k) m) 0) (total holds u (map.entries items) m)
total_put_if holds after u items k true b m is was = total_put holds after u items k b m is (was refl)
total_put_if holds after u items k false b m is was = total_same after holds u m is (map.entries items) ∙ sym (unmoved b (total holds u (map.entries items) m))
