-- What the sink has before an endpoint is removed, and then.
use Rattle.std.proofs.Common.{◌≡◌, ℕ, true, false, not, ◌&&◌, List, Option, Some, None, is_some, refl, ap, subst}
use Rattle.std.specs.FinMap.{get, insert, remove, contains_key}
use Rattle.fx_base.specs.Set as set
use Rattle.fx_base.proofs.Keyed.{get_removed}
use Rattle.fx_model.specs.Pairs.{Pairs, PolicyPairs}
use Rattle.fx_model.specs.Sinks.{Policies}
use Rattle.fx_model.specs.declared.ids.ItemKey.{ItemKey}
use Rattle.fx_model.specs.declared.ids.PolicyId.{PolicyId}
use Rattle.fx_model.proofs.Orders.{item_total, exact_item}
use Rattle.fx_active.specs.Inputs.{Endpoints}
use Rattle.fx_active.specs.Active.{text_of, ArePolicies, ArePairs}
use Rattle.fx_active.specs.Steps.{selects, holds_of, IsUpdated}
use Rattle.fx_active.proofs.MapLemmas.{insert_back}
use Rattle.fx_active.proofs.Updates.{pair_there, policy_there, policies_shrunk, pairs_shrunk}
use Rattle.fx_active.proofs.Larger.{endpoint_more, endpoint_test}

some_value : {A : Type 0} (o : Option A) → is_some o ≡ true → (x : A) × (o ≡ Some x)
some_value None h = cc
some_value (Some x) h = (x, refl)

module _ (policies : Policies) (E : Endpoints) (M : Pairs) (key : ItemKey) (is : contains_key E key ≡ true) (P : Policies) (S : PolicyPairs) (was : ArePolicies policies E M P) (had : ArePairs policies E M S) where
  names : List (List ℕ)
  names = (some_value (get E key) is).0

  back : E ≡ insert (remove E key) key names
  unfolding names
  back = insert_back item_total exact_item E key (some_value (get E key) is).0 (some_value (get E key) is).1

  none : contains_key (remove E key) key ≡ false
  none = ap is_some (get_removed item_total E key)

  was_back : ArePolicies policies (insert (remove E key) key names) M P
  was_back = subst (λ e. ArePolicies policies e M P) back was

  had_back : ArePairs policies (insert (remove E key) key names) M S
  had_back = subst (λ e. ArePairs policies e M S) back had

  pub leaving_pair : (id : PolicyId) → selects M key (get policies id) ≡ true → set.contains S (id, key) ≡ true
  leaving_pair = pair_there (remove E key) M (insert (remove E key) key names) M key (λ p. set.contains M (text_of p, key)) (endpoint_more (remove E key) M key names none) (selects M key) (holds_of (remove E key) M) (endpoint_test (remove E key) M key) policies P S was_back had_back

  pub leaving_policy : (id : PolicyId) → (selects M key (get policies id) && not (holds_of (remove E key) M (get policies id))) ≡ true → is_some (get P id) ≡ true
  leaving_policy = policy_there (remove E key) M (insert (remove E key) key names) M key (λ p. set.contains M (text_of p, key)) (endpoint_more (remove E key) M key names none) (selects M key) (holds_of (remove E key) M) (endpoint_test (remove E key) M key) policies P S was_back had_back

  module _ (P' : Policies) (S' : PolicyPairs) (updated : IsUpdated policies (λ id. selects M key (get policies id)) (λ id. holds_of (remove E key) M (get policies id)) key false P S P' S') where
    pub left_policies : ArePolicies policies (remove E key) M P'
    left_policies = policies_shrunk (remove E key) M (insert (remove E key) key names) M key (λ p. set.contains M (text_of p, key)) (endpoint_more (remove E key) M key names none) (selects M key) (holds_of (remove E key) M) (endpoint_test (remove E key) M key) policies P S was_back had_back P' S' updated

    pub left_pairs : ArePairs policies (remove E key) M S'
    left_pairs = pairs_shrunk (remove E key) M (insert (remove E key) key names) M key (λ p. set.contains M (text_of p, key)) (endpoint_more (remove E key) M key names none) (selects M key) (holds_of (remove E key) M) (endpoint_test (remove E key) M key) policies P S was_back had_back P' S' updated
