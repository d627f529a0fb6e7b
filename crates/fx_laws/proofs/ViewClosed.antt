-- The view of any resources is closed: each policy that applies to an endpoint, each profile that it lists and each set that their
-- rules use is put in.
use Rattle.std.proofs.Common.{◌≡◌, ℕ, true, List, [], ◌∷◌, map, Option, Some, None, sym, ◌∙◌, subst}
use Rattle.std.specs.List.{AllByRecursion, flat_map}
use Rattle.std.specs.FinMap as maps
use Rattle.fx_base.specs.Extended.{extended}
use Rattle.fx_base.proofs.AtKey.{get_empty}
use Rattle.fx_base.proofs.KeyCases.{there_inserted}
use Rattle.fx_base.proofs.ExtendedKeys.{there_extended, at_extended}
use Rattle.fx_base.proofs.FilledLemmas.{keys_filled}
use Rattle.fx_model.specs.declared.resources.Profile.{Profile}
use Rattle.fx_model.specs.declared.view.ViewPolicy.{ViewPolicy}
use Rattle.fx_model.specs.Directions.{Direction, Ingress, Egress}
use Rattle.fx_model.specs.Tables.{Sets, policy_side, profile_side}
use Rattle.fx_model.specs.declared.ids.ItemKey.{ItemKey}
use Rattle.fx_model.specs.declared.ids.PolicyId.{PolicyId}
use Rattle.fx_model.specs.declared.policy.Policy.{Policy}
use Rattle.fx_model.specs.declared.resources.Endpoint.{Endpoint}
use Rattle.fx_model.specs.declared.resources.Resources.{Resources}
use Rattle.fx_model.specs.declared.view.View.{View}
use Rattle.fx_model.specs.declared.view.ViewEndpoint.{ViewEndpoint}
use Rattle.fx_model.specs.declared.view.ViewProfile.{ViewProfile}
use Rattle.fx_model.specs.declared.set_use.SetUse.{SetUse}
use Rattle.fx_model.specs.Messages.{Members, Named}
use Rattle.fx_model.specs.Sets.{rules_uses, policy_uses}
use Rattle.fx_model.specs.Resources.{served_endpoints}
use Rattle.fx_names.specs.Digests.{Digest}
use Rattle.fx_model.specs.Views.{profile_key, policy_entry, profile_entry, endpoint_entry, view_policy, view_profile, view_endpoint, active_profiles, uses_if_there, uses_of_profile, wanted_uses, set_entry, view_of}
use Rattle.fx_model.specs.Active.{applies, is_active, active_policies}
use Rattle.fx_laws.proofs.SetNames.{IsThere, rules_name}
use Rattle.fx_laws.proofs.TiersClosed.{activates, keys_there, tiers_there}
use Rattle.fx_laws.proofs.Uses.{all-first, all-second, each-map, uses-policies, uses-profiles}
use Rattle.fx_model.specs.Closed.{AreThere, NameSets, EndpointIsClosed, IsClosedView}
use Rattle.fx_model.proofs.Serving.{profiles_both}

there_later : (m : Named ViewProfile) (es : List (List ℕ × ViewProfile)) (ks : List (List ℕ)) → AreThere m ks → AreThere (extended m es) ks
there_later m es [] h = tt
there_later m es (k ∷ ks) h = (there_extended m es k h.0, there_later m es ks h.1)

module _ (dg : Digest) (R : Resources) where
  -- the profiles of these names are there once they are put in
  names_there : (m : Named ViewProfile) (names : List (List ℕ)) → AreThere (extended m (map (profile_entry dg R) names)) (map (profile_key dg) names)
  names_there m [] = tt
  names_there m (name ∷ names) =
      let first = maps.insert m (profile_key dg name) (profile_entry dg R name).1 in
      (there_extended first (map (profile_entry dg R) names) (profile_key dg name) (there_inserted m (profile_key dg name) (profile_entry dg R name).1), names_there first names)

  listed_there : (m : Named ViewProfile) (xs : List (ItemKey × Endpoint)) → AllByRecursion (λ x. AreThere (extended m (map (profile_entry dg R) (flat_map (λ y. y.1.profiles) xs))) (map (profile_key dg) x.1.profiles)) xs
  listed_there m [] = tt
  listed_there m (x ∷ xs) =
      let all = λ (y : ItemKey × Endpoint). y.1.profiles in
      let first = extended m (map (profile_entry dg R) x.1.profiles) in
      let split = sym (profiles_both dg R m x.1.profiles (flat_map all xs)) in
      subst (λ (n : Named ViewProfile). AllByRecursion (λ (y : ItemKey × Endpoint). AreThere n (map (profile_key dg) y.1.profiles)) (x ∷ xs)) split
      (there_later first (map (profile_entry dg R) (flat_map all xs)) (map (profile_key dg) x.1.profiles) (names_there m x.1.profiles), listed_there first xs)

module _ (dg : Digest) (R : Resources) where
  abbrev wanted : View
  wanted = view_of dg R

  endpoint_closed : (x : ItemKey × Endpoint) → AreThere wanted.profiles (map (profile_key dg) x.1.profiles) → ((d : Direction) (p : Policy) → applies R d p x.1 ≡ true → is_active R p ≡ true) → EndpointIsClosed wanted (view_endpoint dg R x.0 x.1)
  endpoint_closed x profiles active = record {
    ingress = tiers_there dg R wanted.policies Ingress x.1 (active Ingress) (keys_there dg R maps.empty (active_policies R));
    egress = tiers_there dg R wanted.policies Egress x.1 (active Egress) (keys_there dg R maps.empty (active_policies R));
    profiles = profiles;
  }

  entries_closed : (xs : List (ItemKey × Endpoint)) → AllByRecursion (λ x. AreThere wanted.profiles (map (profile_key dg) x.1.profiles)) xs → AllByRecursion (λ x. (d : Direction) (p : Policy) → applies R d p x.1 ≡ true → is_active R p ≡ true) xs → AllByRecursion (λ e. EndpointIsClosed wanted e.1) (map (endpoint_entry dg R) xs)
  entries_closed [] h active = tt
  entries_closed (x ∷ xs) h active = (endpoint_closed x h.0 active.0, entries_closed xs h.1 active.1)

-- each set that the rules of policies and profiles use is there
module _ (dg : Digest) (sets : Sets) where
  abbrev AllThere : List SetUse → Type 0
  AllThere us = AllByRecursion (IsThere dg sets) us

  no_rules_name : NameSets sets []
  no_rules_name = record { there = tt; kinds = tt }

  profile_names : (d : Direction) (name : List ℕ) (o : Option Profile) → AllThere (uses_if_there o) → NameSets sets (profile_side d (view_profile dg name o))
  profile_names Ingress name None h = no_rules_name
  profile_names Egress name None h = no_rules_name
  profile_names Ingress name (Some p) h = rules_name dg sets p.ingress (all-first (IsThere dg sets) (rules_uses p.ingress) (rules_uses p.egress) h)
  profile_names Egress name (Some p) h = rules_name dg sets p.egress (all-second (IsThere dg sets) (rules_uses p.ingress) (rules_uses p.egress) h)

  profiles_name : (R : Resources) (d : Direction) (names : List (List ℕ)) → AllByRecursion (λ n. AllThere (uses_of_profile R n)) names → AllByRecursion (λ e. NameSets sets (profile_side d e.1)) (map (profile_entry dg R) names)
  profiles_name R d [] h = tt
  profiles_name R d (n ∷ names) h = (profile_names d n (maps.get R.profiles n) h.0, profiles_name R d names h.1)

  policy_names : (d : Direction) (id : PolicyId) (p : Policy) → AllThere (policy_uses p) → NameSets sets (policy_side d (view_policy dg id p))
  policy_names Ingress id p h = rules_name dg sets p.ingress (all-first (IsThere dg sets) (rules_uses p.ingress) (rules_uses p.egress) h)
  policy_names Egress id p h = rules_name dg sets p.egress (all-second (IsThere dg sets) (rules_uses p.ingress) (rules_uses p.egress) h)

  policies_name : (d : Direction) (xs : List (PolicyId × Policy)) → AllByRecursion (λ x. AllThere (policy_uses x.1)) xs → AllByRecursion (λ e. NameSets sets (policy_side d e.1)) (map (policy_entry dg) xs)
  policies_name d [] h = tt
  policies_name d (x ∷ xs) h = (policy_names d x.0 x.1 h.0, policies_name d xs h.1)

-- each set that the wanted rules use is put in
pub sets_there : (dg : Digest) (R : Resources) → AllByRecursion (IsThere dg (view_of dg R).sets) (wanted_uses R)
sets_there dg R =
    each-map (λ (e : List ℕ × Members). maps.contains_key (view_of dg R).sets e.0 ≡ true) (set_entry dg R) (wanted_uses R)
    (keys_filled maps.empty (map (set_entry dg R) (wanted_uses R)))

no_endpoint : {A : Type 0} (e : ViewEndpoint) → None ≡ Some e → A
no_endpoint e is = cc

no_profile : {A : Type 0} (p : ViewProfile) → None ≡ Some p → A
no_profile p is = cc

no_policy : {A : Type 0} (p : ViewPolicy) → None ≡ Some p → A
no_policy p is = cc

pub view_of-closed : (dg : Digest) (R : Resources) → IsClosedView (view_of dg R)
view_of-closed dg R = record {
  endpoints = at_extended (λ iface e. EndpointIsClosed (view_of dg R) e) maps.empty (map (endpoint_entry dg R) (served_endpoints R))
      (λ q x is. no_endpoint x (sym (get_empty q) ∙ is))
      (entries_closed dg R (served_endpoints R) (listed_there dg R maps.empty (served_endpoints R)) (activates R (served_endpoints R) (λ p h. h)));
  policies = λ d. at_extended (λ key p. NameSets (view_of dg R).sets (policy_side d p)) maps.empty (map (policy_entry dg) (active_policies R))
      (λ q x found. no_policy x (sym (get_empty q) ∙ found))
      (policies_name dg (view_of dg R).sets d (active_policies R) (uses-policies (IsThere dg (view_of dg R).sets) R (sets_there dg R)));
  profiles = λ d. at_extended (λ key p. NameSets (view_of dg R).sets (profile_side d p)) maps.empty (map (profile_entry dg R) (active_profiles R))
      (λ q x found. no_profile x (sym (get_empty q) ∙ found))
      (profiles_name dg (view_of dg R).sets R d (active_profiles R) (uses-profiles (IsThere dg (view_of dg R).sets) R (sets_there dg R)));
}
