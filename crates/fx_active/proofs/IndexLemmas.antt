-- The ids of the policies of each selector, as a policy is put or removed.
use Rattle.std.proofs.Common.{◌≡◌, ℕ, Bool, true, false, cond, ◌&&◌, nat_eq, List, Option, Some, None, IsSome, refl, sym, ap, ◌∙◌}
use Rattle.std.specs.declared.cmp.Ordering.TheVariants.{Less, Equal, Greater}
use Rattle.std.specs.Ordering.{is_eq}
use Rattle.std.specs.Cmp.Lexicographic.{pointwise}
use Rattle.std.specs.FinMap as map
use Rattle.fx_base.specs.Set as set
use Rattle.fx_base.specs.Grouped.{has_key}
use Rattle.fx_base.proofs.AtKey.{get_empty}
use Rattle.fx_model.specs.Sinks.{Policies}
use Rattle.fx_model.specs.declared.ids.PolicyId.{PolicyId}
use Rattle.fx_model.specs.declared.policy.Policy.{Policy}
use Rattle.fx_model.specs.contracts.ids.PolicyIdOrd.TheImpl.{cmp-value}
use Rattle.fx_model.proofs.Orders.{policy_total, exact_policy}
use Rattle.fx_active.specs.Active.{text_of}
use Rattle.fx_active.specs.Steps.{same_id}
use Rattle.fx_active.specs.Indexes.{ByText, has_text, AreByText}
use Rattle.fx_active.proofs.KeysByText.{key_there}
use Rattle.fx_active.proofs.CountLemmas.{own_name}
use Rattle.fx_base.proofs.Cases.{shown, gone_both}

pub by_text_empty : AreByText map.empty map.empty
by_text_empty t id = ap (λ (o : Option (set.Set cmp-value.it)). has_key o id) (get_empty t) ∙ sym (ap (has_text t) (map.get-empty cmp-value.it id))

-- ---- policies and ids together
text_in : (b : Bool) (t : List ℕ) (p : Policy) (o : Option Policy) → has_text t (cond b (Some p) o) ≡ cond b (pointwise nat_eq (text_of p) t) (has_text t o)
text_in true t p o = refl
text_in false t p o = refl

no_text : (b : Bool) (t : List ℕ) (o : Option Policy) → has_text t (cond b None o) ≡ cond b false (has_text t o)
no_text true t o = refl
no_text false t o = refl

-- a value at an id
at_id : {A : Type 0} (f : PolicyId → A) (k q : PolicyId) (x : A) → f k ≡ x → cond (same_id q k) x (f q) ≡ f q
at_id f k q x h =
    elim (cmp-value.it q k) as (λ r. cmp-value.it q k ≡ r → cond (is_eq r) x (f q) ≡ f q) [
      | Less ↦ λ e. refl
      | Equal ↦ λ e. sym h ∙ ap f (sym (exact_policy q k e))
      | Greater ↦ λ e. refl
    ] refl

module _ (m : ByText) (policies : Policies) (are : AreByText m policies) (id : PolicyId) (p : Policy) (now : ByText) where
  pub by_text_added : map.get policies id ≡ None → ((t : List ℕ) (q : PolicyId) → has_key (map.get now t) q ≡ cond (pointwise nat_eq (text_of p) t && same_id q id) true (has_key (map.get m t) q)) → AreByText now (map.insert policies id p)
  by_text_added none is t q =
      is t q ∙ ap (cond (pointwise nat_eq (text_of p) t && same_id q id) true) (are t q)
      ∙ shown (pointwise nat_eq (text_of p) t) (same_id q id) (has_text t (map.get policies q)) (at_id (λ u. has_text t (map.get policies u)) id q false (ap (has_text t) none))
      ∙ sym (ap (has_text t) (map.get-insert policy_total policies id p q) ∙ text_in (same_id q id) t p (map.get policies q))

  pub by_text_removed : map.get policies id ≡ Some p → ((t : List ℕ) (q : PolicyId) → has_key (map.get now t) q ≡ cond (pointwise nat_eq (text_of p) t && same_id q id) false (has_key (map.get m t) q)) → AreByText now (map.remove policies id)
  by_text_removed there is t q =
      is t q ∙ ap (cond (pointwise nat_eq (text_of p) t && same_id q id) false) (are t q)
      ∙ gone_both (pointwise nat_eq (text_of p) t) (same_id q id) (has_text t (map.get policies q)) (at_id (λ u. has_text t (map.get policies u)) id q (pointwise nat_eq (text_of p) t) (ap (has_text t) there))
      ∙ sym (ap (has_text t) (map.get-remove policy_total policies id q) ∙ no_text (same_id q id) t (map.get policies q))

-- the text of a policy that is there has ids
pub text_there : (m : ByText) (policies : Policies) → AreByText m policies → (id : PolicyId) (p : Policy) → map.get policies id ≡ Some p → IsSome (map.get m (text_of p))
text_there m policies are id p there = key_there policy_total (map.get m (text_of p)) id (are (text_of p) id ∙ ap (has_text (text_of p)) there ∙ own_name (text_of p))
