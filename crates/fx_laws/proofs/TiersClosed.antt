-- The policies of a served endpoint's tiers are in the view.
use Rattle.std.proofs.Common.{◌≡◌, ℕ, Bool, true, false, ◌||◌, cond, List, [], ◌∷◌, map, refl, sym, ◌∙◌}
use Rattle.std.specs.Prelude.{filter, if◌then◌else◌}
use Rattle.std.specs.List.{AllByRecursion, list_any, list_all}
use Rattle.std.specs.Str.{bytes_eq}
use Rattle.std.specs.FinMap as maps
use Rattle.std.proofs.lemmas.Bool.{or_left, or_right}
use Rattle.fx_base.specs.Extended.{extended}
use Rattle.fx_base.specs.Same.{both_pass}
use Rattle.fx_base.proofs.AllEntries.{all-collected}
use Rattle.fx_base.proofs.KeyCases.{there_inserted}
use Rattle.fx_base.proofs.ExtendedKeys.{there_extended}
use Rattle.fx_names.specs.Digests.{Digest}
use Rattle.fx_model.specs.declared.ids.ItemKey.{ItemKey}
use Rattle.fx_model.specs.declared.ids.PolicyId.{PolicyId}
use Rattle.fx_model.specs.declared.policy.Policy.{Policy}
use Rattle.fx_model.specs.declared.resources.Endpoint.{Endpoint}
use Rattle.fx_model.specs.declared.resources.Resources.{Resources}
use Rattle.fx_model.specs.declared.tier_order.PolicyPlace.{PolicyPlace}
use Rattle.fx_model.specs.declared.view.ViewPolicy.{ViewPolicy}
use Rattle.fx_model.specs.Directions.{Direction, Ingress, Egress}
use Rattle.fx_model.specs.Messages.{Named}
use Rattle.fx_model.specs.Active.{applies, applying, is_active}
use Rattle.fx_model.specs.TierOrder.{TierHead, head_of, onto_tiers, tier_by_tier, in_order, view_tier}
use Rattle.fx_model.specs.Views.{view_policy, policy_key, policy_entry, key_in_place, view_tiers}
use Rattle.fx_model.specs.Closed.{AreThere, TiersAreThere}
use Rattle.fx_model.proofs.Orders.{place_total, exact_place}
use Rattle.fx_laws.proofs.Removing.{both}

-- a policy that applies to one of these endpoints is active
pub activates : (R : Resources) (xs : List (ItemKey × Endpoint)) → ((p : Policy) → list_any (λ x. applies R Ingress p x.1 || applies R Egress p x.1) xs ≡ true → is_active R p ≡ true) → AllByRecursion (λ x. (d : Direction) (p : Policy) → applies R d p x.1 ≡ true → is_active R p ≡ true) xs
activates R [] among = tt
activates R (x ∷ xs) among = (here, activates R xs (λ p h. among p (or_right _ _ h)))
  where
    here : (d : Direction) (p : Policy) → applies R d p x.1 ≡ true → is_active R p ≡ true
    here Ingress p h = among p (or_left _ _ (or_left _ _ h))
    here Egress p h = among p (or_left _ _ (or_right _ _ h))

module _ (dg : Digest) (R : Resources) where
  -- the keys of policies are there once they are put in
  pub keys_there : (m : Named ViewPolicy) (xs : List (PolicyId × Policy)) → AreThere (extended m (map (policy_entry dg) xs)) (map (λ x. policy_key dg x.0) xs)
  keys_there m [] = tt
  keys_there m (x ∷ xs) =
      let key = policy_key dg x.0 in
      let policy = view_policy dg x.0 x.1 in
      (there_extended (maps.insert m key policy) (map (policy_entry dg) xs) key (there_inserted m key policy), keys_there (maps.insert m key policy) xs)

  module _ (m : Named ViewPolicy) (d : Direction) (e : Endpoint) (active : (p : Policy) → applies R d p e ≡ true → is_active R p ≡ true) where
    abbrev is_there : PolicyPlace × List ℕ → Bool
    is_there x = maps.contains_key m x.1

    abbrev active_of : List (PolicyId × Policy) → List (PolicyId × Policy)
    active_of xs = filter (λ x. is_active R x.1) xs

    abbrev applying_of : List (PolicyId × Policy) → List (PolicyId × Policy)
    applying_of xs = filter (λ x. applies R d x.1 e) xs

    applying_there : (xs : List (PolicyId × Policy)) → AreThere m (map (λ x. policy_key dg x.0) (active_of xs)) → list_all is_there (map (key_in_place dg R) (applying_of xs)) ≡ true
    applying_there [] h = refl
    applying_there (x ∷ xs) h = by_tests (applying_there xs) (applies R d x.1 e) (is_active R x.1) refl refl h
      where
        by_tests : (AreThere m (map (λ x. policy_key dg x.0) (active_of xs)) → list_all is_there (map (key_in_place dg R) (applying_of xs)) ≡ true)
            → (b c : Bool) → applies R d x.1 e ≡ b → is_active R x.1 ≡ c → AreThere m (map (λ x. policy_key dg x.0) (cond c (x ∷ active_of xs) (active_of xs))) → list_all is_there (map (key_in_place dg R) (cond b (x ∷ applying_of xs) (applying_of xs))) ≡ true
        by_tests rest true true p q h = both _ _ h.0 (rest h.1)
        by_tests rest true false p q h = let wrong : true ≡ false = sym (active x.1 p) ∙ q in cc
        by_tests rest false true p q h = rest h.1
        by_tests rest false false p q h = rest h

    onto_there : (tier : TierHead) (key : List ℕ) (ts : List (TierHead × List (List ℕ))) → maps.contains_key m key ≡ true → TiersAreThere m (map view_tier ts) → TiersAreThere m (map view_tier (onto_tiers tier key ts))
    onto_there tier key [] here h = ((here, tt), tt)
    onto_there tier key (t ∷ ts) here h =
        elim (bytes_eq tier.name t.0.name) as (λ b. TiersAreThere m (map view_tier (if b then (tier, key ∷ t.1) ∷ ts else (tier, key ∷ []) ∷ t ∷ ts))) [
          | true ↦ ((here, h.0), h.1)
          | false ↦ ((here, tt), h)
        ]

    by_tier_there : (es : List (PolicyPlace × List ℕ)) → list_all is_there es ≡ true → TiersAreThere m (map view_tier (tier_by_tier es))
    by_tier_there [] h = tt
    by_tier_there (x ∷ es) h =
        let parts = both_pass (is_there x) (list_all is_there es) h in
        onto_there (head_of x.0) x.1 (tier_by_tier es) parts.0 (by_tier_there es parts.1)

    -- where the active policies are there, those of the tiers are
    pub tiers_there : AreThere m (map (λ x. policy_key dg x.0) (active_of (maps.entries R.policies))) → TiersAreThere m (view_tiers dg R d e)
    tiers_there h =
        let placed = map (key_in_place dg R) (applying R d e) in
        by_tier_there (in_order placed) (all-collected exact_place is_there place_total placed (applying_there (maps.entries R.policies) h))
