-- The endpoints that the resolver told are those of the view of the resources.
use Rattle.std.proofs.Common.{◌≡◌, ℕ, Bool, true, false, ◌&&◌, ◌||◌, List, [], ◌∷◌, map, Option, Some, None, refl, ap, ◌∙◌}
use Rattle.std.specs.Prelude.{filter, option_map}
use Rattle.std.specs.List.{AllByRecursion}
use Rattle.std.proofs.lemmas.Bool.{or_left, or_right}
use Rattle.std.specs.FinMap as maps
use Rattle.fx_base.specs.Extended.{collected}
use Rattle.fx_base.specs.Set as set
use Rattle.fx_base.proofs.Found.{each, entries_found}
use Rattle.fx_names.specs.Digests.{Digest}
use Rattle.fx_selector.specs.Truth.{holds}
use Rattle.fx_model.proofs.Orders.{item_total, exact_item, policy_total, exact_policy}
use Rattle.fx_model.specs.declared.ids.ItemKey.{ItemKey}
use Rattle.fx_model.specs.declared.ids.PolicyId.{PolicyId}
use Rattle.fx_model.specs.declared.policy.Policy.{Policy}
use Rattle.fx_model.specs.declared.resources.Endpoint.{Endpoint}
use Rattle.fx_model.specs.declared.resources.Resources.{Resources}
use Rattle.fx_model.specs.declared.view.ViewEndpoint.{ViewEndpoint}
use Rattle.fx_model.specs.Active.{applies, applying, is_active, active_policies}
use Rattle.fx_model.specs.Directions.{Direction, Ingress, Egress}
use Rattle.fx_model.specs.Labels.{effective_labels, of_endpoint}
use Rattle.fx_model.specs.Messages.{Named}
use Rattle.fx_model.specs.Pairs.{PolicyPairs}
use Rattle.fx_model.specs.Resources.{is_served, served_endpoints}
use Rattle.fx_model.specs.Sinks.{Policies, Profiles}
use Rattle.fx_model.specs.TierOrder.{place_in, tiers_of, view_tier}
use Rattle.fx_model.specs.Views.{policy_key, key_in_place, namespace_of, item_name, profile_key, endpoint_entry, view_of}
use Rattle.fx_label_index.specs.declared.held.Inputs as index
use Rattle.fx_active.specs.declared.inputs.Inputs as active
use Rattle.fx_resolver.specs.declared.inputs.Inputs as resolver
use Rattle.fx_resolver.specs.declared.known.KnownEndpoint.{KnownEndpoint}
use Rattle.fx_resolver.specs.declared.known.KnownPolicy.{KnownPolicy}
use Rattle.fx_resolver.specs.Known.{known_policy}
use Rattle.fx_resolver.specs.Resolved.{applies_to, key_in_place as known_in_place, keys_for, endpoint_entry as known_entry, IsResolved}
use Rattle.fx_members.specs.declared.inputs.Inputs as members
use Rattle.fx_node_laws.specs.Tied.{known_endpoint, served_known, IsTied}
use Rattle.fx_node_laws.specs.Defined.{is_paired, IsDefined}
use Rattle.fx_node_laws.proofs.Lists.{all_filtered, map_alike, map-map, filter-map, filter_both}
use Rattle.fx_node_laws.proofs.Mapped.{value_at, mapped, kept, entries_mapped, mapped-kept}
use Rattle.fx_node_laws.proofs.SomeEntry.{from_entry}

-- ---- tests

-- a policy that applies in a direction is active, so that needn't be asked
settled_first : (active i o h : Bool) → ((h && i) ≡ true → active ≡ true) → (active && (i && ((h && i) || (h && o)))) ≡ (h && i)
settled_first true true o true acts = refl
settled_first false true o true acts = acts refl
settled_first true false o true acts = refl
settled_first false false o true acts = refl
settled_first true true o false acts = refl
settled_first true false o false acts = refl
settled_first false true o false acts = refl
settled_first false false o false acts = refl

settled_second : (active i o h : Bool) → ((h && o) ≡ true → active ≡ true) → (active && (o && ((h && i) || (h && o)))) ≡ (h && o)
settled_second true true true true acts = refl
settled_second true false true true acts = refl
settled_second false i true true acts = acts refl
settled_second true i false true acts = refl
settled_second false i false true acts = refl
settled_second true i true false acts = refl
settled_second true i false false acts = refl
settled_second false i true false acts = refl
settled_second false i false false acts = refl

abbrev known : Digest → PolicyId × Policy → PolicyId × KnownPolicy
known dg x = (x.0, known_policy (policy_key dg x.0) x.1)

module _ (dg : Digest) (R : Resources) (r : resolver.Inputs) where
  -- ---- the policies that are known

  policy_value : (id : PolicyId) (o : Option Policy) → option_map (known_policy (policy_key dg id)) o ≡ value_at (λ id p. Some (known_policy (policy_key dg id) p)) id o
  policy_value id None = refl
  policy_value id (Some p) = refl

  all_known : (xs : List (PolicyId × Policy)) → mapped (λ id p. Some (known_policy (policy_key dg id) p)) xs ≡ map (known dg) xs
  all_known [] = refl
  all_known (x ∷ xs) = ap (λ ys. known dg x ∷ ys) (all_known xs)

  pub known_policies : (policies : Policies) → ((id : PolicyId) → maps.get r.policies id ≡ option_map (known_policy (policy_key dg id)) (maps.get policies id)) → maps.entries r.policies ≡ map (known dg) (maps.entries policies)
  known_policies policies are =
      entries_mapped policy_total exact_policy (λ id p. Some (known_policy (policy_key dg id) p)) policies r.policies (λ id. are id ∙ policy_value id (maps.get policies id))
      ∙ all_known (maps.entries policies)

  -- ---- the endpoints that are known

  known_value : (k : ItemKey) (o : Option Endpoint) → served_known dg R o ≡ value_at (kept (λ _ e. is_served R e) (λ _ e. known_endpoint dg e)) k o
  known_value k None = refl
  known_value k (Some e) = refl

  pub known_endpoints : ((k : ItemKey) → maps.get r.endpoints k ≡ served_known dg R (maps.get R.endpoints k)) → maps.entries r.endpoints ≡ map (λ x. (x.0, known_endpoint dg x.1)) (served_endpoints R)
  known_endpoints are =
      entries_mapped item_total exact_item (kept (λ _ e. is_served R e) (λ _ e. known_endpoint dg e)) R.endpoints r.endpoints (λ k. are k ∙ known_value k (maps.get R.endpoints k))
      ∙ mapped-kept (λ _ e. is_served R e) (λ _ e. known_endpoint dg e) (maps.entries R.endpoints)

  module _ (tiers : r.tiers ≡ R.tiers) (policies : maps.entries r.policies ≡ map (known dg) (active_policies R)) (pairs : (id : PolicyId) (i : ItemKey) → set.contains r.pairs (id, i) ≡ is_paired R (maps.get R.policies id) (maps.get R.endpoints i)) where
    module _ (i : ItemKey) (e : Endpoint) (at : maps.get R.endpoints i ≡ Some e) (serves : is_served R e ≡ true) where
      abbrev own_labels : Policy → Bool
      own_labels p = holds p.selector (effective_labels R (of_endpoint e))

      -- a policy that applies to the endpoint is active
      acts : (p : Policy) → (applies R Ingress p e || applies R Egress p e) ≡ true → is_active R p ≡ true
      acts p h = from_entry item_total exact_item R.endpoints (λ x. is_served R x.1) (λ x. applies R Ingress p x.1 || applies R Egress p x.1) i e at serves h

      pair_is : (x : PolicyId × Policy) → maps.get R.policies x.0 ≡ Some x.1 → set.contains r.pairs (x.0, i) ≡ (applies R Ingress x.1 e || applies R Egress x.1 e)
      pair_is x is =
          pairs x.0 i ∙ (λ j. is_paired R (is j) (at j))
          ∙ ap (λ b. b && (applies R Ingress x.1 e || applies R Egress x.1 e)) serves

      applies_alike : (d : Direction) (x : PolicyId × Policy) → maps.get R.policies x.0 ≡ Some x.1 → (is_active R x.1 && applies_to r d i (known dg x)) ≡ applies R d x.1 e
      applies_alike Ingress x is =
          let first = applies R Ingress x.1 e in
          let second = applies R Egress x.1 e in
          ap (λ b. is_active R x.1 && (x.1.on_ingress && b)) (pair_is x is)
          ∙ settled_first (is_active R x.1) x.1.on_ingress x.1.on_egress (own_labels x.1) (λ h. acts x.1 (or_left first second h))
      applies_alike Egress x is =
          let first = applies R Ingress x.1 e in
          let second = applies R Egress x.1 e in
          ap (λ b. is_active R x.1 && (x.1.on_egress && b)) (pair_is x is)
          ∙ settled_second (is_active R x.1) x.1.on_ingress x.1.on_egress (own_labels x.1) (λ h. acts x.1 (or_right first second h))

      keys_alike : (d : Direction) → keys_for r d i ≡ map (key_in_place dg R) (applying R d e)
      keys_alike d =
          ap (λ (xs : List (PolicyId × KnownPolicy)). map (known_in_place r) (filter (applies_to r d i) xs)) policies
          ∙ ap (map (known_in_place r)) (filter-map (applies_to r d i) (known dg) (active_policies R))
          ∙ map-map (known_in_place r) (known dg) (filter (λ x. applies_to r d i (known dg x)) (active_policies R))
          ∙ ap (map (λ (x : PolicyId × Policy). known_in_place r (known dg x)))
          (filter_both (λ x. is_active R x.1) (λ x. applies_to r d i (known dg x)) (λ x. applies R d x.1 e) (maps.entries R.policies)
          (each (λ (x : PolicyId × Policy). maps.get R.policies x.0 ≡ Some x.1) (λ x. (is_active R x.1 && applies_to r d i (known dg x)) ≡ applies R d x.1 e) (applies_alike d) (maps.entries R.policies) (entries_found policy_total R.policies)))
          ∙ (λ j. map (λ (x : PolicyId × Policy). (place_in (tiers j) x, policy_key dg x.0)) (applying R d e))

      entry_alike : known_entry r (i, known_endpoint dg e) ≡ endpoint_entry dg R (i, e)
      entry_alike = λ j. (
        e.iface,
        record {
          ns = namespace_of i;
          name = item_name i;
          ingress = map view_tier (tiers_of (keys_alike Ingress j));
          egress = map view_tier (tiers_of (keys_alike Egress j));
          profiles = map (profile_key dg) e.profiles;
        },
      )

    served_stand : AllByRecursion (λ x. (maps.get R.endpoints x.0 ≡ Some x.1) × (is_served R x.1 ≡ true)) (served_endpoints R)
    served_stand = all_filtered (λ (x : ItemKey × Endpoint). maps.get R.endpoints x.0 ≡ Some x.1) (λ x. is_served R x.1) (maps.entries R.endpoints) (entries_found item_total R.endpoints)

    pub entries_alike : map (known_entry r) (map (λ x. (x.0, known_endpoint dg x.1)) (served_endpoints R)) ≡ map (endpoint_entry dg R) (served_endpoints R)
    entries_alike =
        map-map (known_entry r) (λ (x : ItemKey × Endpoint). (x.0, known_endpoint dg x.1)) (served_endpoints R)
        ∙ map_alike (λ (x : ItemKey × Endpoint). known_entry r (x.0, known_endpoint dg x.1)) (endpoint_entry dg R) (served_endpoints R)
        (each (λ (x : ItemKey × Endpoint). (maps.get R.endpoints x.0 ≡ Some x.1) × (is_served R x.1 ≡ true)) (λ x. known_entry r (x.0, known_endpoint dg x.1) ≡ endpoint_entry dg R x) (λ x h. entry_alike x.0 x.1 h.0 h.1) (served_endpoints R) served_stand)

module _ {dg : Digest} {R : Resources} {n : index.Inputs} {a : active.Inputs} {r : resolver.Inputs} {m : members.Inputs} {policies : Policies} {profiles : Profiles} {pairs : PolicyPairs} {endpoints : Named ViewEndpoint} where
  pub endpoints_are : IsTied dg R n a r m → IsDefined R policies profiles pairs → ((id : PolicyId) → maps.get r.policies id ≡ option_map (known_policy (policy_key dg id)) (maps.get policies id)) → r.pairs ≡ pairs → IsResolved r endpoints → endpoints ≡ (view_of dg R).endpoints
  endpoints_are tied defined are paired resolved =
      resolved
      ∙ ap (λ (xs : List (ItemKey × KnownEndpoint)). collected (map (known_entry r) xs)) (known_endpoints dg R r tied.locals)
      ∙ ap (λ (es : List (List ℕ × ViewEndpoint)). collected es) (entries_alike dg R r tied.tiers
      (known_policies dg R r policies are ∙ ap (map (known dg)) defined.policies_are)
      (λ id i. ap (λ (s : PolicyPairs). set.contains s (id, i)) paired ∙ defined.pairs_are id i))
