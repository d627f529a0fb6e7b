-- What the chains of a view have at a name of each kind.
use Rattle.std.proofs.Common.{◌≡◌, ℕ, true, false, cond, List, ◌++◌, Option, Some, None, option_map, refl, sym, ap, ◌∙◌}
use Rattle.std.specs.List.{flat_map}
use Rattle.std.specs.Cmp.Lexicographic.{nat_list_cmp_total}
use Rattle.std.specs.FinMap as maps
use Rattle.fx_base.proofs.Found.{each}
use Rattle.fx_model.specs.declared.chain.ChainRule.{ChainRule}
use Rattle.fx_model.specs.declared.view.View.{View}
use Rattle.fx_model.specs.Directions.{Direction}
use Rattle.fx_model.specs.Tables.{ChainName, forward, forward_rules, endpoint_chain, endpoint_rules, policy_chain, policy_rules, profile_chain, profile_rules}
use Rattle.fx_model.specs.Tree.{dispatch_chains_of, tree_of}
use Rattle.fx_model.specs.ViewTables.{endpoint_chains, policy_chains, profile_chains, first_chain, chains_of, tables_of}
use Rattle.fx_laws.specs.DispatchNames.{is_dispatch}
use Rattle.fx_laws.proofs.EntryLookups.{is, last, last-append, get-collected}
use Rattle.fx_laws.proofs.NamesApart.{policy_same, profile_same, endpoint_same, policy_profile, policy_endpoint, profile_policy, profile_endpoint, endpoint_policy, endpoint_profile, policy_no_dispatch, profile_no_dispatch, endpoint_no_dispatch, policy_not_first, profile_not_first, endpoint_not_first, told_apart, no_true, no_false, IsElse}
use Rattle.fx_laws.proofs.ChainPairs.{past_names, past, at_key}
use Rattle.fx_laws.proofs.TreeNames.{tree_names}

-- a name that isn't one of dispatch passes the tree
past_tree : (names : List (List ℕ)) (q : ChainName) (o : Option (List ChainRule)) → is_dispatch q ≡ false → last (dispatch_chains_of names) q o ≡ o
past_tree names q o other =
    past_names (dispatch_chains_of names) q o
    (each (λ e. is_dispatch e.0 ≡ true) (λ e. is q e.0 ≡ false) (λ e h. told_apart is_dispatch q e.0 false true other h no_true) (dispatch_chains_of names) (tree_names names))

past_first : (q : ChainName) (o : Option (List ChainRule)) → is q forward ≡ false → last first_chain q o ≡ o
past_first q o other = ap (λ b. cond b (Some forward_rules) o) other

-- a name of dispatch is none of another kind
pub dispatch_not_policy : (q : ChainName) → is_dispatch q ≡ true → (d : Direction) (k : List ℕ) → is q (policy_chain d k) ≡ false
dispatch_not_policy q h d k = told_apart is_dispatch q (policy_chain d k) true false h (policy_no_dispatch d k) no_false

pub dispatch_not_profile : (q : ChainName) → is_dispatch q ≡ true → (d : Direction) (k : List ℕ) → is q (profile_chain d k) ≡ false
dispatch_not_profile q h d k = told_apart is_dispatch q (profile_chain d k) true false h (profile_no_dispatch d k) no_false

pub dispatch_not_endpoint : (q : ChainName) → is_dispatch q ≡ true → (d : Direction) (k : List ℕ) → is q (endpoint_chain d k) ≡ false
dispatch_not_endpoint q h d k = told_apart is_dispatch q (endpoint_chain d k) true false h (endpoint_no_dispatch d k) no_false

pub dispatch_not_first : (q : ChainName) → is_dispatch q ≡ true → is q forward ≡ false
dispatch_not_first q h = told_apart is_dispatch q forward true false h refl no_false

module _ (v : View) where
  abbrev policies : List (ChainName × List ChainRule)
  policies = flat_map policy_chains (maps.entries v.policies)

  abbrev profiles : List (ChainName × List ChainRule)
  profiles = flat_map profile_chains (maps.entries v.profiles)

  abbrev endpoints : List (ChainName × List ChainRule)
  endpoints = flat_map endpoint_chains (maps.entries v.endpoints)

  abbrev tree : List (ChainName × List ChainRule)
  tree = dispatch_chains_of (maps.keys v.endpoints)

  chain_at : (q : ChainName) → maps.get (tables_of v).chains q ≡ last first_chain q (last tree q (last endpoints q (last profiles q (last policies q None))))
  chain_at q =
      get-collected nat_list_cmp_total (chains_of v) q
      ∙ last-append policies (profiles ++ (endpoints ++ (tree ++ first_chain))) q None
      ∙ last-append profiles (endpoints ++ (tree ++ first_chain)) q (last policies q None)
      ∙ last-append endpoints (tree ++ first_chain) q (last profiles q (last policies q None))
      ∙ last-append tree first_chain q (last endpoints q (last profiles q (last policies q None)))

  -- a name that is neither of the first chain nor of dispatch
  below_dispatch : (q : ChainName) → is q forward ≡ false → is_dispatch q ≡ false → maps.get (tables_of v).chains q ≡ last endpoints q (last profiles q (last policies q None))
  below_dispatch q first dispatch = chain_at q ∙ past_first q _ first ∙ past_tree (maps.keys v.endpoints) q _ dispatch

  no_policies : (q : ChainName) → ((d : Direction) (k : List ℕ) → is q (policy_chain d k) ≡ false) → last policies q None ≡ None
  no_policies q other = past policy_chain policy_rules (maps.entries v.policies) q None other

  no_profiles : (q : ChainName) (o : Option (List ChainRule)) → ((d : Direction) (k : List ℕ) → is q (profile_chain d k) ≡ false) → last profiles q o ≡ o
  no_profiles q o other = past profile_chain profile_rules (maps.entries v.profiles) q o other

  no_endpoints : (q : ChainName) (o : Option (List ChainRule)) → ((d : Direction) (k : List ℕ) → is q (endpoint_chain d k) ≡ false) → last endpoints q o ≡ o
  no_endpoints q o other = past endpoint_chain endpoint_rules (maps.entries v.endpoints) q o other

  pub policy_at : (d : Direction) (k : List ℕ) → maps.get (tables_of v).chains (policy_chain d k) ≡ option_map (policy_rules d) (maps.get v.policies k)
  policy_at d k =
      let q = policy_chain d k in
      below_dispatch q (policy_not_first d k) (policy_no_dispatch d k)
      ∙ no_endpoints q _ (λ e l. policy_endpoint d e k l)
      ∙ no_profiles q _ (λ e l. policy_profile d e k l)
      ∙ at_key policy_chain policy_rules policy_same (λ k l. refl) (λ k l. refl) v.policies d k

  pub profile_at : (d : Direction) (k : List ℕ) → maps.get (tables_of v).chains (profile_chain d k) ≡ option_map (profile_rules d) (maps.get v.profiles k)
  profile_at d k =
      let q = profile_chain d k in
      below_dispatch q (profile_not_first d k) (profile_no_dispatch d k)
      ∙ no_endpoints q _ (λ e l. profile_endpoint d e k l)
      ∙ ap (last profiles q) (no_policies q (λ e l. profile_policy d e k l))
      ∙ at_key profile_chain profile_rules profile_same (λ k l. refl) (λ k l. refl) v.profiles d k

  pub endpoint_at : (d : Direction) (k : List ℕ) → maps.get (tables_of v).chains (endpoint_chain d k) ≡ option_map (endpoint_rules d) (maps.get v.endpoints k)
  endpoint_at d k =
      let q = endpoint_chain d k in
      below_dispatch q (endpoint_not_first d k) (endpoint_no_dispatch d k)
      ∙ ap (λ o. last endpoints q (last profiles q o)) (no_policies q (λ e l. endpoint_policy d e k l))
      ∙ ap (last endpoints q) (no_profiles q None (λ e l. endpoint_profile d e k l))
      ∙ at_key endpoint_chain endpoint_rules endpoint_same (λ k l. refl) (λ k l. refl) v.endpoints d k

  -- nothing of a kind below
  nothing_below : (q : ChainName) → ((d : Direction) (k : List ℕ) → is q (policy_chain d k) ≡ false) → ((d : Direction) (k : List ℕ) → is q (profile_chain d k) ≡ false) → ((d : Direction) (k : List ℕ) → is q (endpoint_chain d k) ≡ false) → last endpoints q (last profiles q (last policies q None)) ≡ None
  nothing_below q a b c =
      no_endpoints q _ c ∙ no_profiles q _ b ∙ no_policies q a

  pub dispatch_at : (q : ChainName) → is_dispatch q ≡ true → maps.get (tables_of v).chains q ≡ maps.get (tree_of (maps.keys v.endpoints)) q
  dispatch_at q h =
      chain_at q ∙ past_first q _ (dispatch_not_first q h)
      ∙ ap (last tree q) (nothing_below q (dispatch_not_policy q h) (dispatch_not_profile q h) (dispatch_not_endpoint q h))
      ∙ sym (get-collected nat_list_cmp_total tree q)

  pub first_at : maps.get (tables_of v).chains forward ≡ Some forward_rules
  first_at = chain_at forward

  pub nothing_at : (q : ChainName) → IsElse q → maps.get (tables_of v).chains q ≡ None
  nothing_at q h = below_dispatch q h.first h.dispatch ∙ nothing_below q h.policies h.profiles h.endpoints
