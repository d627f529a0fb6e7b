-- What the sink has before a match is added or removed, and then.
use Rattle.std.proofs.Common.{◌≡◌, ℕ, Bool, true, false, not, ◌&&◌, List, is_some, nat_eq, sym}
use Rattle.std.specs.Cmp.Lexicographic.{pointwise}
use Rattle.std.specs.FinMap.{get, contains_key}
use Rattle.fx_base.specs.Set as set
use Rattle.fx_model.specs.Pairs.{Pairs, PolicyPairs}
use Rattle.fx_model.specs.Sinks.{Policies}
use Rattle.fx_model.specs.declared.ids.ItemKey.{ItemKey}
use Rattle.fx_model.specs.declared.ids.PolicyId.{PolicyId}
use Rattle.fx_active.specs.Inputs.{Endpoints}
use Rattle.fx_active.specs.Active.{text_of, holds_somewhere, ArePolicies, ArePairs}
use Rattle.fx_active.specs.Steps.{has_typed_text, beside, IsUpdated}
use Rattle.fx_active.proofs.Updates.{pair_absent, policy_absent, policies_grown, pairs_grown, pair_there, policy_there, policies_shrunk, pairs_shrunk, policies_stay, pairs_stay}
use Rattle.fx_active.proofs.Larger.{match_more, match_test, idle_holds, idle_pairs}

module _ (policies : Policies) (E : Endpoints) (M : Pairs) (t : List ℕ) (item : ItemKey) (P : Policies) (S : PolicyPairs) where
  abbrev more : Pairs
  more = set.insert M (t, item)

  -- an item that is no endpoint here
  module _ (isnt : contains_key E item ≡ false) where
    pub idle_policies : (added : Bool) → ArePolicies policies E (beside M (t, item) (not added)) P → ArePolicies policies E (beside M (t, item) added) P
    idle_policies true was = policies_stay E E M more (idle_holds E M t item isnt) (idle_pairs E M t item isnt) policies P was
    idle_policies false was = policies_stay E E more M (λ u. sym (idle_holds E M t item isnt u)) (λ u i. sym (idle_pairs E M t item isnt u i)) policies P was

    pub idle_rows : (added : Bool) → ArePairs policies E (beside M (t, item) (not added)) S → ArePairs policies E (beside M (t, item) added) S
    idle_rows true was = pairs_stay E E M more (idle_holds E M t item isnt) (idle_pairs E M t item isnt) policies S was
    idle_rows false was = pairs_stay E E more M (λ u. sym (idle_holds E M t item isnt u)) (λ u i. sym (idle_pairs E M t item isnt u i)) policies S was

  module _ (is : contains_key E item ≡ true) (none : set.contains M (t, item) ≡ false) (others : Bool) (other : others ≡ holds_somewhere E M t) where
    pub match_pair : (added : Bool) → ArePolicies policies E (beside M (t, item) (not added)) P → ArePairs policies E (beside M (t, item) (not added)) S → (id : PolicyId) → has_typed_text t (get policies id) ≡ true → set.contains S (id, item) ≡ not added
    match_pair true was had = pair_absent E M E more item (λ p. pointwise nat_eq (text_of p) t) (match_more E M t item is none) (has_typed_text t) (λ o. others) (match_test E M t item others other) policies P S was had
    match_pair false was had = pair_there E M E more item (λ p. pointwise nat_eq (text_of p) t) (match_more E M t item is none) (has_typed_text t) (λ o. others) (match_test E M t item others other) policies P S was had

    pub match_policy : (added : Bool) → ArePolicies policies E (beside M (t, item) (not added)) P → ArePairs policies E (beside M (t, item) (not added)) S → (id : PolicyId) → (has_typed_text t (get policies id) && not others) ≡ true → is_some (get P id) ≡ not added
    match_policy true was had = policy_absent E M E more item (λ p. pointwise nat_eq (text_of p) t) (match_more E M t item is none) (has_typed_text t) (λ o. others) (match_test E M t item others other) policies P S was had
    match_policy false was had = policy_there E M E more item (λ p. pointwise nat_eq (text_of p) t) (match_more E M t item is none) (has_typed_text t) (λ o. others) (match_test E M t item others other) policies P S was had

    module _ (P' : Policies) (S' : PolicyPairs) where
      pub match_policies : (added : Bool) → ArePolicies policies E (beside M (t, item) (not added)) P → ArePairs policies E (beside M (t, item) (not added)) S
          → IsUpdated policies (λ id. has_typed_text t (get policies id)) (λ id. others) item added P S P' S' → ArePolicies policies E (beside M (t, item) added) P'
      match_policies true was had updated = policies_grown E M E more item (λ p. pointwise nat_eq (text_of p) t) (match_more E M t item is none) (has_typed_text t) (λ o. others) (match_test E M t item others other) policies P S was had P' S' updated
      match_policies false was had updated = policies_shrunk E M E more item (λ p. pointwise nat_eq (text_of p) t) (match_more E M t item is none) (has_typed_text t) (λ o. others) (match_test E M t item others other) policies P S was had P' S' updated

      pub match_rows : (added : Bool) → ArePolicies policies E (beside M (t, item) (not added)) P → ArePairs policies E (beside M (t, item) (not added)) S
          → IsUpdated policies (λ id. has_typed_text t (get policies id)) (λ id. others) item added P S P' S' → ArePairs policies E (beside M (t, item) added) S'
      match_rows true was had updated = pairs_grown E M E more item (λ p. pointwise nat_eq (text_of p) t) (match_more E M t item is none) (has_typed_text t) (λ o. others) (match_test E M t item others other) policies P S was had P' S' updated
      match_rows false was had updated = pairs_shrunk E M E more item (λ p. pointwise nat_eq (text_of p) t) (match_more E M t item is none) (has_typed_text t) (λ o. others) (match_test E M t item others other) policies P S was had P' S' updated
