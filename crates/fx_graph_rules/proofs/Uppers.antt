-- The nodes agree after a policy, or a selector that is used besides, came or went.
use Rattle.std.proofs.Common.{◌≡◌, ℕ, ◌+◌, true, false, cond, List, Option, Some, None, refl, sym, ap, ◌∙◌, subst, arith}
use Rattle.std.specs.Ordering.{nat_cmp, eq_by_cmp}
use Rattle.std.specs.Cmp.Lexicographic.{slice_cmp}
use Rattle.std.specs.FinMap as map
use Rattle.fx_base.specs.Set as set
use Rattle.fx_base.proofs.Entries.{entries-empty}
use Rattle.fx_selector.specs.Tree.{IsSelector}
use Rattle.fx_selector.specs.Canonical.{canonical_text}
use Rattle.fx_model.specs.Pairs.{PolicyPairs}
use Rattle.fx_model.specs.Sinks.{Policies, Profiles}
use Rattle.fx_model.specs.declared.ids.PolicyId.{PolicyId}
use Rattle.fx_model.specs.declared.policy.Policy.{Policy}
use Rattle.fx_model.specs.contracts.ids.PolicyIdOrd.TheImpl.{cmp-value}
use Rattle.fx_model.proofs.Orders.{policy_total}
use Rattle.fx_label_index.specs.Canonicals.{Selectors}
use Rattle.fx_label_index.specs.Counts.{uses_in, raised, lowered}
use Rattle.fx_label_index.specs.Matched.{text_eq}
use Rattle.fx_label_index.specs.declared.counted.Counted.{Counted}
use Rattle.fx_label_index.proofs.Canonicals.{canonical_none}
use Rattle.fx_active.specs.Active.{text_of, selector_text}
use Rattle.fx_graph_rules.specs.declared.join.Joined.{Joined}
use Rattle.fx_graph_rules.specs.Counting.{weight, weight_of, times_among, times, total, none_used, with_one, with_some, IsCounted}
use Rattle.fx_graph_rules.specs.Joining.{IsJoined}
use Rattle.fx_graph_rules.specs.Uppers.{AreInStep}
use Rattle.fx_graph_rules.proofs.Counts.{raised_counted, lowered_counted, times_apart, times_insert}
use Rattle.fx_base.proofs.Cases.{moved, none_more}

recounted : (s : Selectors) (uses others : List ℕ → ℕ) → IsCounted s uses → ((t : List ℕ) → uses t ≡ others t) → IsCounted s others
recounted s uses others h e = record { trees = h.trees; some = h.some; count = λ t. h.count t ∙ e t }

comes : (w v r u : ℕ) → w + ((v + r) + u) ≡ (w + r) + (v + u)
comes w v r u = omega arith

goes : (v r u : ℕ) → (v + r) + u ≡ r + (v + u)
goes v r u = omega arith

-- a policy's selector, as one that is used besides
some_used : (used : List ℕ → ℕ) (t : List ℕ) (o : Option Policy) → weight_of t o + used t ≡ with_some (selector_text o) used t
some_used used t None = sym (none_more (used t))
some_used used t (Some p) = refl

-- ---- what is counted
module _ (s : Selectors) (m : Policies) (used : List ℕ → ℕ) (text : List ℕ) where
  pub counted_less : IsCounted s (total m (with_one text used)) → IsCounted (lowered s text) (total m used)
  counted_less h = lowered_counted s (total m (with_one text used)) (total m used) h text (λ t. sym (moved (cond (text_eq t text) 1 0) (times m t) (used t)))

module _ (s : Selectors) (m : Policies) (used : List ℕ → ℕ) (h : IsCounted s (total m used)) (id : PolicyId) where
  pub counted_put : (p : Policy) → IsSelector p.selector → IsCounted (raised s (text_of p) p.selector) (total (map.insert m id p) (with_some (selector_text (map.get m id)) used))
  counted_put p is = recounted _ _ _ (raised_counted s (total m used) h (text_of p) p.selector is refl) (λ t.
      ap (λ n. weight t p + (n + used t)) (times_apart m id t)
      ∙ comes (weight t p) (weight_of t (map.get m id)) (times (map.remove m id) t) (used t)
      ∙ ap (λ n. n + (weight_of t (map.get m id) + used t)) (sym (times_insert m id p t))
      ∙ ap (λ n. times (map.insert m id p) t + n) (some_used used t (map.get m id)))

  pub counted_gone : IsCounted s (total (map.remove m id) (with_some (selector_text (map.get m id)) used))
  counted_gone = recounted _ _ _ h (λ t.
      ap (λ n. n + used t) (times_apart m id t)
      ∙ goes (weight_of t (map.get m id)) (times (map.remove m id) t) (used t)
      ∙ ap (λ n. times (map.remove m id) t + n) (some_used used t (map.get m id)))

the_policy : (x y : Policy) → Some x ≡ Some y → x ≡ y
the_policy x y e = cc

no_count : (x : Counted) → None ≡ Some x → ⊥
no_count x e = cc

no_policy : (x : Policy) → None ≡ Some x → ⊥
no_policy x e = cc

-- each policy's selector is one
abbrev pub AreSelectors : Policies → Type 0
AreSelectors m = (id : PolicyId) (p : Policy) → map.get m id ≡ Some p → IsSelector p.selector

selectors_put : (m : Policies) (id : PolicyId) (p : Policy) → AreSelectors m → IsSelector p.selector → AreSelectors (map.insert m id p)
selectors_put m id p h is = λ q r e.
    elim (eq_by_cmp cmp-value.it q id) as (λ x. cond x (Some p) (map.get m q) ≡ Some r → IsSelector r.selector) [
      | true ↦ λ g. subst (λ (x : Policy). IsSelector x.selector) (the_policy p r g) is
      | false ↦ λ g. h q r g
    ] (sym (map.get-insert policy_total m id p q) ∙ e)

selectors_gone : (m : Policies) (id : PolicyId) → AreSelectors m → AreSelectors (map.remove m id)
selectors_gone m id h = λ q r e.
    elim (eq_by_cmp cmp-value.it q id) as (λ x. cond x None (map.get m q) ≡ Some r → IsSelector r.selector) [
      | true ↦ λ g. absurd (no_policy r g)
      | false ↦ λ g. h q r g
    ] (sym (map.get-remove policy_total m id q) ∙ e)

-- ---- the nodes after a call
module _ (j : Joined) (used : List ℕ → ℕ) (P : Policies) (Q : Profiles) (S : PolicyPairs) (u : AreInStep j used P Q S) (j' : Joined) (P' : Policies) (Q' : Profiles) (S' : PolicyPairs) (joined : IsJoined j' P' Q' S') where
  -- a policy was put
  pub upper_put : (id : PolicyId) (p : Policy) (text : List ℕ) → IsSelector p.selector → text ≡ canonical_text p.selector
      → j'.index.selectors ≡ raised j.index.selectors text p.selector → j'.active.policies ≡ map.insert j.active.policies id p
      → (before : Option (List ℕ)) → before ≡ selector_text (map.get j.active.policies id) → AreInStep j' (with_some before used) P' Q' S'
  upper_put id p text is at counted put before was = record {
    joined = joined;
    counted = subst (λ o. IsCounted j'.index.selectors (total j'.active.policies (with_some o used))) (sym was)
        (subst (λ s. IsCounted s (total j'.active.policies (with_some (selector_text (map.get j.active.policies id)) used))) (sym (counted ∙ ap (λ t. raised j.index.selectors t p.selector) at))
        (subst (λ m. IsCounted (raised j.index.selectors (text_of p) p.selector) (total m (with_some (selector_text (map.get j.active.policies id)) used))) (sym put)
        (counted_put j.index.selectors j.active.policies used u.counted id p is)));
    selectors = subst AreSelectors (sym put) (selectors_put j.active.policies id p u.selectors is);
  }

  -- a policy was removed
  pub upper_gone : (id : PolicyId) → j'.index.selectors ≡ j.index.selectors → j'.active.policies ≡ map.remove j.active.policies id
      → (before : Option (List ℕ)) → before ≡ selector_text (map.get j.active.policies id) → AreInStep j' (with_some before used) P' Q' S'
  upper_gone id same removed before was = record {
    joined = joined;
    counted = subst (λ o. IsCounted j'.index.selectors (total j'.active.policies (with_some o used))) (sym was)
        (subst (λ s. IsCounted s (total j'.active.policies (with_some (selector_text (map.get j.active.policies id)) used))) (sym same)
        (subst (λ m. IsCounted j.index.selectors (total m (with_some (selector_text (map.get j.active.policies id)) used))) (sym removed)
        (counted_gone j.index.selectors j.active.policies used u.counted id)));
    selectors = subst AreSelectors (sym removed) (selectors_gone j.active.policies id u.selectors);
  }

  -- neither the policies nor the counted selectors changed
  pub upper_stays : j'.index.selectors ≡ j.index.selectors → j'.active.policies ≡ j.active.policies → AreInStep j' used P' Q' S'
  upper_stays same kept = record {
    joined = joined;
    counted = subst (λ s. IsCounted s (total j'.active.policies used)) (sym same) (subst (λ m. IsCounted j.index.selectors (total m used)) (sym kept) u.counted);
    selectors = subst AreSelectors (sym kept) u.selectors;
  }

-- a selector is used once less
pub upper_less : (j : Joined) (used : List ℕ → ℕ) (P : Policies) (Q : Profiles) (S : PolicyPairs) (text : List ℕ) → AreInStep j (with_one text used) P Q S
    → (j' : Joined) (P' : Policies) (Q' : Profiles) (S' : PolicyPairs) → IsJoined j' P' Q' S'
    → j'.index.selectors ≡ lowered j.index.selectors text → j'.active.policies ≡ j.active.policies → AreInStep j' used P' Q' S'
upper_less j used P Q S text u j' P' Q' S' joined counted kept = record {
  joined = joined;
  counted = subst (λ s. IsCounted s (total j'.active.policies used)) (sym counted)
      (subst (λ m. IsCounted (lowered j.index.selectors text) (total m used)) (sym kept)
      (counted_less j.index.selectors j.active.policies used text u.counted));
  selectors = subst AreSelectors (sym kept) u.selectors;
}

-- ---- at the start
counted_none : IsCounted map.empty (total map.empty none_used)
counted_none = record {
  trees = canonical_none;
  some = λ t c e. absurd (no_count c (sym (map.get-empty (slice_cmp nat_cmp) t) ∙ e));
  count = λ t. ap uses_in (map.get-empty (slice_cmp nat_cmp) t) ∙ sym (ap (λ es. times_among t es + 0) (entries-empty cmp-value.it));
}

pub upper_none : (j : Joined) → IsJoined j map.empty map.empty set.empty → j.index.selectors ≡ map.empty → j.active.policies ≡ map.empty
    → AreInStep j none_used map.empty map.empty set.empty
upper_none j joined none empty = record {
  joined = joined;
  counted = subst (λ s. IsCounted s (total j.active.policies none_used)) (sym none) (subst (λ m. IsCounted map.empty (total m none_used)) (sym empty) counted_none);
  selectors = λ id p e. absurd (no_policy p (sym (ap (λ m. map.get m id) empty ∙ map.get-empty cmp-value.it id) ∙ e));
}

-- a text that is there counts once
pub upper_at : (j : Joined) (before : Option (List ℕ)) (text : List ℕ) (used : List ℕ → ℕ) (P : Policies) (Q : Profiles) (S : PolicyPairs)
    → before ≡ Some text → AreInStep j (with_some before used) P Q S → AreInStep j (with_one text used) P Q S
upper_at j before text used P Q S is upper = subst (λ x. AreInStep j (with_some x used) P Q S) is upper
