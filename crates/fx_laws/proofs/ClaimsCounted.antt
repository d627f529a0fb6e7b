-- How often a claim is among those of all resources, as one is put or deleted.
use Rattle.std.proofs.Common.{◌≡◌, ℕ, ◌+◌, true, List, [], ◌∷◌, ◌++◌, Option, Some, None, refl, ap, ◌∙◌, arith}
use Rattle.std.specs.List.{flat_map}
use Rattle.std.specs.Cmp.Lexicographic.{nat_list_cmp_total}
use Rattle.std.specs.FinMap as maps
use Rattle.fx_base.proofs.KeyCases.{bytes_exact}
use Rattle.fx_base.proofs.SumOver.{sum_over, sum_at, sum-insert, sum-remove}
use Rattle.fx_names.specs.Digests.{Digest}
use Rattle.fx_names.specs.declared.claim.Claim.{Claim}
use Rattle.fx_names.specs.Claims.{times}
use Rattle.fx_names.proofs.ClaimLists.{times-append}
use Rattle.fx_model.specs.declared.ids.ItemKey.{ItemKey}
use Rattle.fx_model.specs.declared.ids.ItemKey.TheVariants as item_key
use Rattle.fx_model.specs.declared.ids.Key.{Key}
use Rattle.fx_model.specs.declared.ids.Key.TheVariants as key
use Rattle.fx_model.specs.declared.ids.PolicyId.{PolicyId}
use Rattle.fx_model.specs.declared.policy.Policy.{Policy}
use Rattle.fx_model.specs.declared.resources.Endpoint.{Endpoint}
use Rattle.fx_model.specs.declared.resources.Item.{Item}
use Rattle.fx_model.specs.declared.resources.Item.TheVariants as item
use Rattle.fx_model.specs.declared.resources.Profile.{Profile}
use Rattle.fx_model.specs.declared.resources.Resources.{Resources}
use Rattle.fx_model.specs.declared.resources.Update.TheVariants as update
use Rattle.fx_model.specs.Resources.{after_put, after_delete}
use Rattle.fx_model.specs.Formed.{is_formed_item_key, is_formed_policy_id, is_formed}
use Rattle.fx_model.specs.Claims.{profile_claims, policy_claims, endpoint_claims, claims_of, listed_claims, named_claims, given_policy_claims, claims_at, all_claims}
use Rattle.fx_model.proofs.Orders.{item_total, exact_item, policy_total, exact_policy}
use Rattle.fx_laws.proofs.FormedLemmas.{not_formed}

module _ (c : Claim) where
  pub times-flat_map : {A : Type 0} (f : A → List Claim) (xs : List A) → times c (flat_map f xs) ≡ sum_over (λ x. times c (f x)) xs
  times-flat_map f [] = refl
  times-flat_map f (x ∷ xs) = times-append c (f x) (flat_map f xs) ∙ ap (λ n. times c (f x) + n) (times-flat_map f xs)

  module _ (dg : Digest) where
    -- what an entry of endpoints counts, one of profiles and one of policies
    abbrev of_endpoint : List ℕ → ItemKey × Endpoint → ℕ
    of_endpoint node x = times c (endpoint_claims dg node x.0 x.1)

    abbrev of_profile : List ℕ × Profile → ℕ
    of_profile x = times c (profile_claims dg x.0 x.1)

    abbrev of_policy : PolicyId × Policy → ℕ
    of_policy x = times c (policy_claims dg x.0 x.1)

    listed : (node : List ℕ) (k : ItemKey) (o : Option Endpoint) → sum_at (of_endpoint node) k o ≡ times c (listed_claims dg node k o)
    listed node k None = refl
    listed node k (Some e) = refl

    named : (name : List ℕ) (o : Option Profile) → sum_at of_profile name o ≡ times c (named_claims dg name o)
    named name None = refl
    named name (Some p) = refl

    given : (id : PolicyId) (o : Option Policy) → sum_at of_policy id o ≡ times c (given_policy_claims dg id o)
    given id None = refl
    given id (Some p) = refl

    sums : (R : Resources) → times c (all_claims dg R) ≡ sum_over (of_endpoint R.node) (maps.entries R.endpoints) + (sum_over of_profile (maps.entries R.profiles) + sum_over of_policy (maps.entries R.policies))
    sums R =
        let endpoints = λ (x : ItemKey × Endpoint). endpoint_claims dg R.node x.0 x.1 in
        let profiles = λ (x : List ℕ × Profile). profile_claims dg x.0 x.1 in
        let policies = λ (x : PolicyId × Policy). policy_claims dg x.0 x.1 in
        let later = flat_map profiles (maps.entries R.profiles) ++ flat_map policies (maps.entries R.policies) in
        times-append c (flat_map endpoints (maps.entries R.endpoints)) later
        ∙ ap (λ n. times c (flat_map endpoints (maps.entries R.endpoints)) + n) (times-append c (flat_map profiles (maps.entries R.profiles)) (flat_map policies (maps.entries R.policies)))
        ∙ (λ i. times-flat_map endpoints (maps.entries R.endpoints) i + (times-flat_map profiles (maps.entries R.profiles) i + times-flat_map policies (maps.entries R.policies) i))

    -- what stands at a key, and the rest
    pub times-at : (R : Resources) (k : Key) → times c (all_claims dg R) ≡ times c (claims_at dg R k) + times c (all_claims dg (after_delete R k))
    times-at R (key.Item (item_key.Endpoint ns name)) =
        let k = item_key.Endpoint ns name in
        let e = sum-remove item_total exact_item (of_endpoint R.node) R.endpoints k in
        omega (arith, e, listed R.node k (maps.get R.endpoints k), sums R, sums (after_delete R (key.Item k)))
    times-at R (key.Item (item_key.NetSet ns name)) = omega (arith, sums R, sums (after_delete R (key.Item (item_key.NetSet ns name))))
    times-at R (key.Profile name) =
        let e = sum-remove nat_list_cmp_total bytes_exact of_profile R.profiles name in
        omega (arith, e, named name (maps.get R.profiles name), sums R, sums (after_delete R (key.Profile name)))
    times-at R (key.Tier name) = omega (arith, sums R, sums (after_delete R (key.Tier name)))
    times-at R (key.Policy id) =
        let e = sum-remove policy_total exact_policy of_policy R.policies id in
        omega (arith, e, given id (maps.get R.policies id), sums R, sums (after_delete R (key.Policy id)))

    -- what is put, and the rest
    pub times-put : (R : Resources) (k : Key) (x : Item) → is_formed (update.Put k x) ≡ true → times c (all_claims dg (after_put R k x)) ≡ times c (claims_of dg R.node k x) + times c (all_claims dg (after_delete R k))
    times-put R k (item.Endpoint e) formed = at_key k formed
      where
        at_key : (k : Key) → is_formed (update.Put k (item.Endpoint e)) ≡ true → times c (all_claims dg (after_put R k (item.Endpoint e))) ≡ times c (claims_of dg R.node k (item.Endpoint e)) + times c (all_claims dg (after_delete R k))
        at_key (key.Item (item_key.Endpoint ns name)) formed =
            let k = item_key.Endpoint ns name in
            omega (arith, sum-insert item_total exact_item (of_endpoint R.node) R.endpoints k e, sums (after_put R (key.Item k) (item.Endpoint e)), sums (after_delete R (key.Item k)))
        at_key (key.Item (item_key.NetSet ns name)) formed = not_formed (is_formed_item_key (item_key.NetSet ns name)) formed
        at_key (key.Profile name) formed = cc
        at_key (key.Tier name) formed = cc
        at_key (key.Policy id) formed = not_formed (is_formed_policy_id id) formed
    times-put R k (item.Profile p) formed = at_key k formed
      where
        at_key : (k : Key) → is_formed (update.Put k (item.Profile p)) ≡ true → times c (all_claims dg (after_put R k (item.Profile p))) ≡ times c (claims_of dg R.node k (item.Profile p)) + times c (all_claims dg (after_delete R k))
        at_key (key.Item k) formed = not_formed (is_formed_item_key k) formed
        at_key (key.Profile name) formed =
            omega (arith, sum-insert nat_list_cmp_total bytes_exact of_profile R.profiles name p, sums (after_put R (key.Profile name) (item.Profile p)), sums (after_delete R (key.Profile name)))
        at_key (key.Tier name) formed = cc
        at_key (key.Policy id) formed = not_formed (is_formed_policy_id id) formed
    times-put R k (item.Tier t) formed = at_key k formed
      where
        at_key : (k : Key) → is_formed (update.Put k (item.Tier t)) ≡ true → times c (all_claims dg (after_put R k (item.Tier t))) ≡ times c (claims_of dg R.node k (item.Tier t)) + times c (all_claims dg (after_delete R k))
        at_key (key.Item k) formed = not_formed (is_formed_item_key k) formed
        at_key (key.Profile name) formed = cc
        at_key (key.Tier name) formed = omega (arith, sums (after_put R (key.Tier name) (item.Tier t)), sums (after_delete R (key.Tier name)))
        at_key (key.Policy id) formed = not_formed (is_formed_policy_id id) formed
    times-put R k (item.Policy p) formed = at_key k formed
      where
        at_key : (k : Key) → is_formed (update.Put k (item.Policy p)) ≡ true → times c (all_claims dg (after_put R k (item.Policy p))) ≡ times c (claims_of dg R.node k (item.Policy p)) + times c (all_claims dg (after_delete R k))
        at_key (key.Item k) formed = not_formed (is_formed_item_key k) formed
        at_key (key.Profile name) formed = cc
        at_key (key.Tier name) formed = cc
        at_key (key.Policy id) formed =
            omega (arith, sum-insert policy_total exact_policy of_policy R.policies id p, sums (after_put R (key.Policy id) (item.Policy p)), sums (after_delete R (key.Policy id)))
    times-put R k (item.NetSet s) formed = at_key k formed
      where
        at_key : (k : Key) → is_formed (update.Put k (item.NetSet s)) ≡ true → times c (all_claims dg (after_put R k (item.NetSet s))) ≡ times c (claims_of dg R.node k (item.NetSet s)) + times c (all_claims dg (after_delete R k))
        at_key (key.Item (item_key.Endpoint ns name)) formed = not_formed (is_formed_item_key (item_key.Endpoint ns name)) formed
        at_key (key.Item (item_key.NetSet ns name)) formed =
            let k = item_key.NetSet ns name in
            omega (arith, sums (after_put R (key.Item k) (item.NetSet s)), sums (after_delete R (key.Item k)))
        at_key (key.Profile name) formed = cc
        at_key (key.Tier name) formed = cc
        at_key (key.Policy id) formed = not_formed (is_formed_policy_id id) formed
