-- The policies of each tier, as a policy is put or removed.
use Rattle.std.proofs.Common.{◌≡◌, ℕ, Bool, true, false, cond, ◌&&◌, List, Option, Some, None, refl, sym, ap, ◌∙◌}
use Rattle.std.specs.FinMap as map
use Rattle.fx_base.specs.Set as set
use Rattle.fx_base.specs.Grouped.{has_key, same_text}
use Rattle.fx_base.proofs.AtKey.{get_empty}
use Rattle.fx_model.specs.declared.ids.PolicyId.{PolicyId}
use Rattle.fx_model.specs.contracts.ids.PolicyIdOrd.TheImpl.{cmp-value}
use Rattle.fx_model.proofs.Orders.{policy_total, exact_policy}
use Rattle.fx_resolver.specs.declared.known.KnownPolicy.{KnownPolicy}
use Rattle.fx_resolver.specs.Indexes.{IdsByTier, is_in_tier, same_id, AreByTier}
use Rattle.fx_resolver.specs.Known.{KnownPolicies}
use Rattle.fx_base.proofs.Cases.{shown, gone_both}
use Rattle.fx_base.proofs.Keyed.{at_key}

pub by_tier_empty : AreByTier map.empty map.empty
by_tier_empty t id = ap (λ (o : Option (set.Set cmp-value.it)). has_key o id) (get_empty t) ∙ sym (ap (is_in_tier t) (map.get-empty cmp-value.it id))

one_in : (b : Bool) (t : List ℕ) (o x : Option KnownPolicy) → is_in_tier t (cond b o x) ≡ cond b (is_in_tier t o) (is_in_tier t x)
one_in true t o x = refl
one_in false t o x = refl

module _ (m : IdsByTier) (policies : KnownPolicies) (are : AreByTier m policies) (id : PolicyId) (now : IdsByTier) where
  -- with a policy that wasn't there
  pub by_tier_added : (p : KnownPolicy) → map.get policies id ≡ None
      → ((t : List ℕ) (q : PolicyId) → has_key (map.get now t) q ≡ cond (same_text t p.tier && same_id q id) true (has_key (map.get m t) q))
      → AreByTier now (map.insert policies id p)
  by_tier_added p none is t q =
      is t q ∙ ap (cond (same_text t p.tier && same_id q id) true) (are t q)
      ∙ shown (same_text t p.tier) (same_id q id) (is_in_tier t (map.get policies q)) (at_key exact_policy (λ u. is_in_tier t (map.get policies u)) id q false (ap (is_in_tier t) none))
      ∙ sym (ap (is_in_tier t) (map.get-insert policy_total policies id p q) ∙ one_in (same_id q id) t (Some p) (map.get policies q))

  -- without the one that was there, if there was one
  pub by_tier_removed : ((t : List ℕ) (q : PolicyId) → has_key (map.get now t) q ≡ cond (is_in_tier t (map.get policies id) && same_id q id) false (has_key (map.get m t) q))
      → AreByTier now (map.remove policies id)
  by_tier_removed is t q =
      is t q ∙ ap (cond (is_in_tier t (map.get policies id) && same_id q id) false) (are t q)
      ∙ gone_both (is_in_tier t (map.get policies id)) (same_id q id) (is_in_tier t (map.get policies q)) (at_key exact_policy (λ u. is_in_tier t (map.get policies u)) id q (is_in_tier t (map.get policies id)) refl)
      ∙ sym (ap (is_in_tier t) (map.get-remove policy_total policies id q) ∙ one_in (same_id q id) t None (map.get policies q))
