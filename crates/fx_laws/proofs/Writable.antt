-- A closed view's chains can be written one after another.
use Rattle.std.proofs.Common.{◌≡◌, ℕ, true, List, [], ◌∷◌, ◌++◌, Some, refl, sym, ◌∙◌, arith}
use Rattle.std.specs.List.{AllByRecursion, flat_map}
use Rattle.std.specs.Cmp.Lexicographic.{nat_list_cmp_total}
use Rattle.std.specs.FinMap as maps
use Rattle.fx_base.specs.Extended.{extended}
use Rattle.fx_base.proofs.KeyCases.{there_insert, there_inserted}
use Rattle.fx_base.proofs.ExtendedKeys.{is_among, among_first, among_later, there_extended, there_by_name}
use Rattle.fx_base.proofs.Found.{each, entries_found}
use Rattle.fx_model.specs.declared.view.View.{View}
use Rattle.fx_model.specs.declared.view.ViewPolicy.{ViewPolicy}
use Rattle.fx_model.specs.declared.view.ViewProfile.{ViewProfile}
use Rattle.fx_model.specs.declared.view.ViewEndpoint.{ViewEndpoint}
use Rattle.fx_model.specs.declared.chain.ChainRule.{ChainRule}
use Rattle.fx_model.specs.Directions.{Direction, Ingress, Egress}
use Rattle.fx_model.specs.Tables.{ChainName, Chains, Sets, policy_chain, profile_chain, policy_side, profile_side, policy_rules, profile_rules, endpoint_chain, endpoint_rules}
use Rattle.fx_model.specs.ViewTables.{policy_chains, profile_chains, endpoint_chains, first_chain, dispatch_chains, chains_of}
use Rattle.fx_model.specs.Tree.{dispatch_chains_of}
use Rattle.fx_model.specs.Closed.{EndpointIsClosed, IsClosedView, NameSets}
use Rattle.fx_model.specs.Writing.{CanBeWritten}
use Rattle.fx_laws.proofs.Leads.{HasLower, policy_writable, profile_writable, endpoint_writable}
use Rattle.fx_laws.proofs.TreeWritten.{written-append, root_there, tree_written}

-- the sets of a policy's and a profile's rules are there, in both directions
abbrev PolicyNames : Sets → ViewPolicy → Type 0
PolicyNames sets p = (d : Direction) → NameSets sets (policy_side d p)

abbrev ProfileNames : Sets → ViewProfile → Type 0
ProfileNames sets p = (d : Direction) → NameSets sets (profile_side d p)

policies_written : (sets : Sets) (chains : Chains) (es : List (List ℕ × ViewPolicy)) → AllByRecursion (λ e. PolicyNames sets e.1) es → CanBeWritten sets chains (flat_map policy_chains es)
policies_written sets chains [] h = tt
policies_written sets chains (e ∷ es) h =
    written-append sets chains (policy_chains e) (flat_map policy_chains es) (policy_writable sets chains e.0 e.1 h.0) (policies_written sets (extended chains (policy_chains e)) es h.1)

profiles_written : (sets : Sets) (chains : Chains) (es : List (List ℕ × ViewProfile)) → AllByRecursion (λ e. ProfileNames sets e.1) es → CanBeWritten sets chains (flat_map profile_chains es)
profiles_written sets chains [] h = tt
profiles_written sets chains (e ∷ es) h =
    written-append sets chains (profile_chains e) (flat_map profile_chains es) (profile_writable sets chains e.0 e.1 h.0) (profiles_written sets (extended chains (profile_chains e)) es h.1)

has-extended : (v : View) (chains : Chains) (es : List (ChainName × List ChainRule)) → HasLower v chains → HasLower v (extended chains es)
has-extended v chains es has = record {
  policies = λ d k h. there_extended chains es (policy_chain d k) (has.policies d k h);
  profiles = λ d k h. there_extended chains es (profile_chain d k) (has.profiles d k h);
}

endpoints_written : (v : View) (chains : Chains) → HasLower v chains → (es : List (List ℕ × ViewEndpoint)) → AllByRecursion (λ e. EndpointIsClosed v e.1) es → CanBeWritten v.sets chains (flat_map endpoint_chains es)
endpoints_written v chains has [] h = tt
endpoints_written v chains has (e ∷ es) h =
    written-append v.sets chains (endpoint_chains e) (flat_map endpoint_chains es) (endpoint_writable v v.sets chains e.0 e.1 has h.0)
    (endpoints_written v (extended chains (endpoint_chains e)) (has-extended v chains (endpoint_chains e) has) es h.1)

-- ---- the way to endpoints' chains

all_among : (ks names : List (List ℕ)) → ((k : List ℕ) → is_among k names ≡ true → is_among k ks ≡ true) → AllByRecursion (λ k. is_among k ks ≡ true) names
all_among ks [] h = tt
all_among ks (name ∷ names) h = (h name (among_first name names), all_among ks names (λ k later. h k (among_later k name names later)))

dispatch_written : (v : View) (chains : Chains) → ((d : Direction) (k : List ℕ) → is_among k (maps.keys v.endpoints) ≡ true → maps.contains_key chains (endpoint_chain d k) ≡ true) → CanBeWritten v.sets chains (dispatch_chains v)
dispatch_written v chains there =
    let ks = maps.keys v.endpoints in
    let tree = dispatch_chains_of ks in
    written-append v.sets chains tree first_chain
    (tree_written (λ k. is_among k ks ≡ true) v.sets chains there ks (all_among ks ks (λ k h. h)))
    (record { there = (tt, (root_there chains ks Egress, (root_there chains ks Ingress, tt))); below = (tt, (omega arith, (omega arith, tt))); named = (tt, ((tt, tt), ((tt, tt), tt))); shaped = refl }, tt)

-- ---- all chains

policies_give : (d : Direction) (chains : Chains) (e : List ℕ × ViewPolicy) → maps.contains_key (extended chains (policy_chains e)) (policy_chain d e.0) ≡ true
policies_give Ingress chains e = there_insert (maps.insert chains (policy_chain Ingress e.0) (policy_rules Ingress e.1)) (policy_chain Egress e.0) (policy_rules Egress e.1) (policy_chain Ingress e.0) (there_inserted chains (policy_chain Ingress e.0) (policy_rules Ingress e.1))
policies_give Egress chains e = there_inserted (maps.insert chains (policy_chain Ingress e.0) (policy_rules Ingress e.1)) (policy_chain Egress e.0) (policy_rules Egress e.1)

profiles_give : (d : Direction) (chains : Chains) (e : List ℕ × ViewProfile) → maps.contains_key (extended chains (profile_chains e)) (profile_chain d e.0) ≡ true
profiles_give Ingress chains e = there_insert (maps.insert chains (profile_chain Ingress e.0) (profile_rules Ingress e.1)) (profile_chain Egress e.0) (profile_rules Egress e.1) (profile_chain Ingress e.0) (there_inserted chains (profile_chain Ingress e.0) (profile_rules Ingress e.1))
profiles_give Egress chains e = there_inserted (maps.insert chains (profile_chain Ingress e.0) (profile_rules Ingress e.1)) (profile_chain Egress e.0) (profile_rules Egress e.1)

endpoints_give : (d : Direction) (chains : Chains) (e : List ℕ × ViewEndpoint) → maps.contains_key (extended chains (endpoint_chains e)) (endpoint_chain d e.0) ≡ true
endpoints_give Ingress chains e = there_insert (maps.insert chains (endpoint_chain Ingress e.0) (endpoint_rules Ingress e.1)) (endpoint_chain Egress e.0) (endpoint_rules Egress e.1) (endpoint_chain Ingress e.0) (there_inserted chains (endpoint_chain Ingress e.0) (endpoint_rules Ingress e.1))
endpoints_give Egress chains e = there_inserted (maps.insert chains (endpoint_chain Ingress e.0) (endpoint_rules Ingress e.1)) (endpoint_chain Egress e.0) (endpoint_rules Egress e.1)

has_lower : (v : View) (chains : Chains) → HasLower v (extended (extended chains (flat_map policy_chains (maps.entries v.policies))) (flat_map profile_chains (maps.entries v.profiles)))
has_lower v chains = record {
  policies = λ d k h. there_extended (extended chains (flat_map policy_chains (maps.entries v.policies))) (flat_map profile_chains (maps.entries v.profiles)) (policy_chain d k)
      (there_by_name policy_chains (policy_chain d) (policies_give d) chains (maps.entries v.policies) k (sym (maps.contains_key-keys v.policies k) ∙ h));
  profiles = λ d k h. there_by_name profile_chains (profile_chain d) (profiles_give d) (extended chains (flat_map policy_chains (maps.entries v.policies))) (maps.entries v.profiles) k (sym (maps.contains_key-keys v.profiles k) ∙ h);
}

-- the endpoints of a closed view, one by one
each_closed : (v : View) → IsClosedView v → AllByRecursion (λ e. EndpointIsClosed v e.1) (maps.entries v.endpoints)
each_closed v closed =
    each (λ e. maps.get v.endpoints e.0 ≡ Some e.1) (λ e. EndpointIsClosed v e.1) (λ e h. closed.endpoints e.0 e.1 h)
    (maps.entries v.endpoints) (entries_found nat_list_cmp_total v.endpoints)

each_policy : (v : View) → IsClosedView v → AllByRecursion (λ e. PolicyNames v.sets e.1) (maps.entries v.policies)
each_policy v closed =
    each (λ e. maps.get v.policies e.0 ≡ Some e.1) (λ e. PolicyNames v.sets e.1) (λ e h d. closed.policies d e.0 e.1 h)
    (maps.entries v.policies) (entries_found nat_list_cmp_total v.policies)

each_profile : (v : View) → IsClosedView v → AllByRecursion (λ e. ProfileNames v.sets e.1) (maps.entries v.profiles)
each_profile v closed =
    each (λ e. maps.get v.profiles e.0 ≡ Some e.1) (λ e. ProfileNames v.sets e.1) (λ e h d. closed.profiles d e.0 e.1 h)
    (maps.entries v.profiles) (entries_found nat_list_cmp_total v.profiles)

pub chains_can_be_written : (v : View) → IsClosedView v → CanBeWritten v.sets maps.empty (chains_of v)
chains_can_be_written v closed =
    let policies = flat_map policy_chains (maps.entries v.policies) in
    let profiles = flat_map profile_chains (maps.entries v.profiles) in
    let endpoints = flat_map endpoint_chains (maps.entries v.endpoints) in
    let a : Chains = extended maps.empty policies in
    let b : Chains = extended a profiles in
    let c : Chains = extended b endpoints in
    written-append v.sets maps.empty policies (profiles ++ (endpoints ++ dispatch_chains v)) (policies_written v.sets maps.empty (maps.entries v.policies) (each_policy v closed))
    (written-append v.sets a profiles (endpoints ++ dispatch_chains v) (profiles_written v.sets a (maps.entries v.profiles) (each_profile v closed))
    (written-append v.sets b endpoints (dispatch_chains v) (endpoints_written v b (has_lower v maps.empty) (maps.entries v.endpoints) (each_closed v closed))
    (dispatch_written v c (λ d k h. there_by_name endpoint_chains (endpoint_chain d) (endpoints_give d) b (maps.entries v.endpoints) k h))))
