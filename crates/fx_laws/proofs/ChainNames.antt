-- Each chain of the tables is a fixed one, or some resource claims it.
use Rattle.std.proofs.Common.{◌≡◌, inl, inr, ◌<◌, ℕ, Bool, true, false, ◌||◌, cond, List, [], ◌∷◌, ◌++◌, length, map, Some, None, refl, sym, ap, ◌∙◌, subst, arith}
use Rattle.std.specs.Prelude.{filter, codes, nat_lt, nat_le, if◌then◌else◌}
use Rattle.std.proofs.lemmas.Bool.Decides.{nat_tests}
use Rattle.std.specs.List.{AllByRecursion, flat_map, list_all}
use Rattle.std.specs.Cmp.Lexicographic.{nat_list_cmp_total}
use Rattle.std.specs.FinMap as maps
use Rattle.fx_base.specs.Same.{both_pass}
use Rattle.fx_base.proofs.AtKey.{get_empty}
use Rattle.fx_base.proofs.ExtendedKeys.{is_among, among_first, among_later, at_extended}
use Rattle.fx_base.proofs.Found.{each, entries_found}
use Rattle.fx_base.specs.declared.kernel_name.KernelName.TheVariants.{Chain}
use Rattle.fx_names.specs.Digests.{Digest}
use Rattle.fx_names.specs.Names.{prefix_text, chain_name_of, shortened}
use Rattle.fx_names.specs.Claims.{times}
use Rattle.fx_names.specs.declared.claim.Claim.{Claim}
use Rattle.fx_names.specs.declared.prefix.Prefix.TheVariants.{ToEndpoint, FromEndpoint}
use Rattle.fx_names.proofs.ClaimLists.{times-append, times-itself}
use Rattle.fx_model.specs.declared.ids.ItemKey.{ItemKey}
use Rattle.fx_model.specs.declared.ids.ItemKey.TheVariants as item_key
use Rattle.fx_model.specs.declared.ids.PolicyId.{PolicyId}
use Rattle.fx_model.specs.declared.policy.Policy.{Policy}
use Rattle.fx_model.specs.declared.resources.Endpoint.{Endpoint}
use Rattle.fx_model.specs.declared.resources.Profile.{Profile}
use Rattle.fx_model.specs.declared.resources.Resources.{Resources}
use Rattle.fx_model.specs.declared.view.View.{View}
use Rattle.fx_model.specs.declared.view.ViewEndpoint.{ViewEndpoint}
use Rattle.fx_model.specs.declared.view.ViewPolicy.{ViewPolicy}
use Rattle.fx_model.specs.declared.view.ViewProfile.{ViewProfile}
use Rattle.fx_model.specs.declared.chain.ChainRule.{ChainRule}
use Rattle.fx_model.specs.Directions.{Direction, Ingress, Egress}
use Rattle.fx_model.specs.Resources.{is_served, is_local, served_endpoints}
use Rattle.fx_model.specs.Formed.{is_formed_namespace, is_formed_item_key, is_formed_endpoint, is_formed_endpoint_entry, are_formed}
use Rattle.fx_model.specs.Claims.{item_text, profile_chains as claimed_chains, profile_claims, policy_claims, interface_claims, endpoint_claims, all_claims}
use Rattle.fx_model.specs.Views.{view_of, policy_entry, profile_entry, endpoint_entry, active_profiles, is_active_profile}
use Rattle.fx_model.specs.Active.{is_active, active_policies}
use Rattle.fx_model.specs.PolicyIdTexts.{policy_id_text}
use Rattle.fx_model.proofs.Orders.{policy_total}
use Rattle.fx_model.specs.Tables.{ChainName, root_of, policy_chain, profile_chain, endpoint_chain}
use Rattle.fx_model.specs.Tree.{Branch, children, child_chain, child_entry, root_rules, chains_towards, dispatch_chains_of}
use Rattle.fx_model.specs.ViewTables.{policy_chains, profile_chains, endpoint_chains, first_chain, dispatch_chains, chains_of, tables_of}
use Rattle.fx_laws.specs.ChainNames.{is_fixed_chain, IsFixedOrClaimed}
use Rattle.fx_laws.proofs.Uses.{all-append}
use Rattle.fx_laws.proofs.BranchLemmas.{IsChildOf, children_within, one_byte}
use Rattle.fx_laws.proofs.ClaimsOfKeys.{ingress_claimed, egress_claimed, policy_ingress_claimed, policy_egress_claimed}
use Rattle.fx_laws.proofs.FormedLemmas.{endpoints_formed, not_formed}

abbrev Written : Type 0
Written = ChainName × List ChainRule

-- ---- the way to endpoints' chains

abbrev AreFixed : List Written → Type 0
AreFixed ws = AllByRecursion (λ w. is_fixed_chain w.0 ≡ true) ws

child_fixed : (d : Direction) (n : ℕ) → is_fixed_chain (child_chain d (n ∷ [])) ≡ true
child_fixed Ingress n = refl
child_fixed Egress n = refl

root_fixed : (d : Direction) → is_fixed_chain (root_of d) ≡ true
root_fixed Ingress = refl
root_fixed Egress = refl

abbrev AnyName : List ℕ → Type 0
AnyName name = Unit {0}

any_names : (names : List (List ℕ)) → AllByRecursion AnyName names
any_names [] = tt
any_names (name ∷ names) = (tt, any_names names)

children_fixed : (d : Direction) (bs : List Branch) → AllByRecursion (IsChildOf AnyName) bs → AreFixed (map (child_entry d) bs)
children_fixed d [] h = tt
children_fixed d (b ∷ bs) h = (one_byte (λ c. is_fixed_chain (child_chain d c) ≡ true) b.0 b.1 h.0.branch.short h.0.has (child_fixed d), children_fixed d bs h.1)

towards_fixed : (d : Direction) (names : List (List ℕ)) → AreFixed (chains_towards d names)
towards_fixed d names =
    all-append (λ (w : Written). is_fixed_chain w.0 ≡ true) (map (child_entry d) (children names)) ((root_of d, root_rules d names) ∷ [])
    (children_fixed d (children names) (children_within AnyName names (any_names names))) (root_fixed d, tt)

dispatch_fixed : (v : View) → AreFixed (dispatch_chains v)
dispatch_fixed v =
    let names = maps.keys v.endpoints in
    all-append (λ (w : Written). is_fixed_chain w.0 ≡ true) (dispatch_chains_of names) first_chain
    (all-append (λ (w : Written). is_fixed_chain w.0 ≡ true) (chains_towards Ingress names) (chains_towards Egress names) (towards_fixed Ingress names) (towards_fixed Egress names))
    (refl, tt)

-- an interface's name stands behind a prefix as it is
short_whole : (n : ℕ) (b : Bool) → nat_le n 15 ≡ true → (nat_lt n 20 || b) ≡ true
short_whole n b h = grind (arith, nat_tests, h)

module _ (dg : Digest) where
  to_name : (e : Endpoint) → is_formed_endpoint e ≡ true → chain_name_of dg ToEndpoint e.iface ≡ endpoint_chain Ingress e.iface
  to_name e h = ap (λ b. prefix_text ToEndpoint ++ (if b then e.iface else shortened dg 20 e.iface)) (short_whole (length e.iface) _ h)

  from_name : (e : Endpoint) → is_formed_endpoint e ≡ true → chain_name_of dg FromEndpoint e.iface ≡ endpoint_chain Egress e.iface
  from_name e h = ap (λ b. prefix_text FromEndpoint ++ (if b then e.iface else shortened dg 20 e.iface)) (short_whole (length e.iface) _ h)

  module _ (R : Resources) where
    abbrev Has : ChainName → Type 0
    Has name = IsFixedOrClaimed dg R name

    abbrev IsHeld : Written → Type 0
    IsHeld w = Has w.0

    -- ---- profiles

    abbrev ProfileHeld : List ℕ → ViewProfile → Type 0
    ProfileHeld key p = Has (profile_chain Ingress key) × Has (profile_chain Egress key)

    names_held : (all names : List (List ℕ)) → ((n : List ℕ) → is_among n names ≡ true → is_active_profile R n ≡ true) → AllByRecursion (λ e. ProfileHeld e.0 e.1) (map (profile_entry dg R) names)
    names_held all [] active = tt
    names_held all (n ∷ names) active =
        let here = active n (among_first n names) in (
          (inr (codes "profile " ++ n, ingress_claimed dg R n here), inr (codes "profile " ++ n, egress_claimed dg R n here)),
          names_held all names (λ m h. active m (among_later m n names h)),
        )

    no_profile : {A : Type 0} (p : ViewProfile) → None ≡ Some p → A
    no_profile p is = cc

    profile_held : (key : List ℕ) (p : ViewProfile) → maps.get (view_of dg R).profiles key ≡ Some p → ProfileHeld key p
    profile_held = at_extended ProfileHeld maps.empty (map (profile_entry dg R) (active_profiles R))
        (λ q x is. no_profile x (sym (get_empty q) ∙ is))
        (names_held (active_profiles R) (active_profiles R) (λ n h. h))

    profile_chains_held : (es : List (List ℕ × ViewProfile)) → AllByRecursion (λ e. ProfileHeld e.0 e.1) es → AllByRecursion IsHeld (flat_map profile_chains es)
    profile_chains_held [] h = tt
    profile_chains_held (e ∷ es) h = (h.0.0, (h.0.1, profile_chains_held es h.1))

    -- ---- policies

    abbrev PolicyHeld : List ℕ → ViewPolicy → Type 0
    PolicyHeld key p = Has (policy_chain Ingress key) × Has (policy_chain Egress key)

    active_held : (xs : List (PolicyId × Policy)) → AllByRecursion (λ x. maps.get R.policies x.0 ≡ Some x.1) xs → AllByRecursion (λ e. PolicyHeld e.0 e.1) (map (policy_entry dg) (filter (λ x. is_active R x.1) xs))
    active_held [] there = tt
    active_held (x ∷ xs) there =
        let rest = active_held xs there.1 in
        let left = filter (λ (y : PolicyId × Policy). is_active R y.1) xs in
        let holder = codes "policy " ++ policy_id_text x.0 in
        elim (is_active R x.1) as (λ b. AllByRecursion (λ (e : List ℕ × ViewPolicy). PolicyHeld e.0 e.1) (map (policy_entry dg) (cond b (x ∷ left) left))) [
          | true ↦ ((inr (holder, policy_ingress_claimed dg R x.0 x.1 there.0), inr (holder, policy_egress_claimed dg R x.0 x.1 there.0)), rest)
          | false ↦ rest
        ]

    no_policy : {A : Type 0} (p : ViewPolicy) → None ≡ Some p → A
    no_policy p is = cc

    policy_held : (key : List ℕ) (p : ViewPolicy) → maps.get (view_of dg R).policies key ≡ Some p → PolicyHeld key p
    policy_held = at_extended PolicyHeld maps.empty (map (policy_entry dg) (active_policies R))
        (λ q x is. no_policy x (sym (get_empty q) ∙ is))
        (active_held (maps.entries R.policies) (entries_found policy_total R.policies))

    policy_chains_held : (es : List (List ℕ × ViewPolicy)) → AllByRecursion (λ e. PolicyHeld e.0 e.1) es → AllByRecursion IsHeld (flat_map policy_chains es)
    policy_chains_held [] h = tt
    policy_chains_held (e ∷ es) h = (h.0.0, (h.0.1, policy_chains_held es h.1))

    -- ---- endpoints

    abbrev EndpointHeld : List ℕ → ViewEndpoint → Type 0
    EndpointHeld iface e = Has (endpoint_chain Ingress iface) × Has (endpoint_chain Egress iface)

    abbrev endpoints_claim : List (ItemKey × Endpoint) → List Claim
    endpoints_claim es = flat_map (λ x. endpoint_claims dg R.node x.0 x.1) es

    abbrev to_claim : ItemKey × Endpoint → Claim
    to_claim x = record { name = Chain (chain_name_of dg ToEndpoint x.1.iface); holder = codes "endpoint " ++ item_text x.0 }

    abbrev from_claim : ItemKey × Endpoint → Claim
    from_claim x = record { name = Chain (chain_name_of dg FromEndpoint x.1.iface); holder = codes "endpoint " ++ item_text x.0 }

    module _ (x : ItemKey × Endpoint) (served : is_served R x.1 ≡ true) where
      own : endpoint_claims dg R.node x.0 x.1 ≡ interface_claims dg x.0 x.1 ++ flat_map (claimed_chains dg) x.1.profiles
      own = ap (λ b. if b then interface_claims dg x.0 x.1 ++ flat_map (claimed_chains dg) x.1.profiles else []) (both_pass R.in_sync (is_local R x.1) served).1

      to_claimed : 0 < times (to_claim x) (endpoint_claims dg R.node x.0 x.1)
      to_claimed =
          subst (λ (cs : List Claim). 0 < times (to_claim x) cs) (sym own)
          (omega (arith, times-itself (to_claim x) (from_claim x ∷ flat_map (claimed_chains dg) x.1.profiles)))

      from_claimed : 0 < times (from_claim x) (endpoint_claims dg R.node x.0 x.1)
      from_claimed =
          subst (λ (cs : List Claim). 0 < times (from_claim x) cs) (sym own)
          (omega (arith, times-itself (from_claim x) (flat_map (claimed_chains dg) x.1.profiles)))

    formed_iface : (x : ItemKey × Endpoint) → is_formed_endpoint_entry x ≡ true → is_formed_endpoint x.1 ≡ true
    formed_iface (item_key.Endpoint ns name, e) h = (both_pass (is_formed_namespace ns) (is_formed_endpoint e) h).1
    formed_iface (item_key.NetSet ns name, e) h = not_formed (is_formed_item_key (item_key.NetSet ns name)) h

    endpoint_held : (x : ItemKey × Endpoint) → is_formed_endpoint_entry x ≡ true → 0 < times (to_claim x) (all_claims dg R) → 0 < times (from_claim x) (all_claims dg R) → Has (endpoint_chain Ingress x.1.iface) × Has (endpoint_chain Egress x.1.iface)
    endpoint_held x formed to from =
        let short = formed_iface x formed in (
          subst Has (to_name x.1 short) (inr (codes "endpoint " ++ item_text x.0, to)),
          subst Has (from_name x.1 short) (inr (codes "endpoint " ++ item_text x.0, from)),
        )

    served_held : (es : List (ItemKey × Endpoint)) → list_all is_formed_endpoint_entry es ≡ true → ((c : Claim) → 0 < times c (endpoints_claim es) → 0 < times c (all_claims dg R)) → AllByRecursion (λ e. EndpointHeld e.0 e.1) (map (endpoint_entry dg R) (filter (λ x. is_served R x.1) es))
    served_held [] all more = tt
    served_held (x ∷ es) all more =
        let h = both_pass (is_formed_endpoint_entry x) (list_all is_formed_endpoint_entry es) all in
        let left = filter (λ (y : ItemKey × Endpoint). is_served R y.1) es in
        let first = endpoint_claims dg R.node x.0 x.1 in
        let rest = served_held es h.1 (λ c p. more c (omega (arith, p, times-append c first (endpoints_claim es)))) in
        elim (is_served R x.1) as (λ b. is_served R x.1 ≡ b → AllByRecursion (λ (e : List ℕ × ViewEndpoint). EndpointHeld e.0 e.1) (map (endpoint_entry dg R) (cond b (x ∷ left) left))) [
          | true ↦ λ served. (
            endpoint_held x h.0
                (more (to_claim x) (omega (arith, to_claimed x served, times-append (to_claim x) first (endpoints_claim es))))
                (more (from_claim x) (omega (arith, from_claimed x served, times-append (from_claim x) first (endpoints_claim es)))),
            rest,
          )
          | false ↦ λ served. rest
        ] refl

    no_endpoint : {A : Type 0} (e : ViewEndpoint) → None ≡ Some e → A
    no_endpoint e is = cc

    endpoints_held : are_formed R ≡ true → (iface : List ℕ) (e : ViewEndpoint) → maps.get (view_of dg R).endpoints iface ≡ Some e → EndpointHeld iface e
    endpoints_held formed = at_extended EndpointHeld maps.empty (map (endpoint_entry dg R) (served_endpoints R))
        (λ q x is. no_endpoint x (sym (get_empty q) ∙ is))
        (served_held (maps.entries R.endpoints) (endpoints_formed R formed)
        (λ c p. omega (arith, p, times-append c (endpoints_claim (maps.entries R.endpoints)) (flat_map (λ (x : List ℕ × Profile). profile_claims dg x.0 x.1) (maps.entries R.profiles) ++ flat_map (λ (x : PolicyId × Policy). policy_claims dg x.0 x.1) (maps.entries R.policies)))))

    endpoint_chains_held : (es : List (List ℕ × ViewEndpoint)) → AllByRecursion (λ e. EndpointHeld e.0 e.1) es → AllByRecursion IsHeld (flat_map endpoint_chains es)
    endpoint_chains_held [] h = tt
    endpoint_chains_held (e ∷ es) h = (h.0.0, (h.0.1, endpoint_chains_held es h.1))

    -- ---- all of them

    all_held : are_formed R ≡ true → AllByRecursion IsHeld (chains_of (view_of dg R))
    all_held formed =
        let v = view_of dg R in
        let profiles = flat_map profile_chains (maps.entries v.profiles) in
        let endpoints = flat_map endpoint_chains (maps.entries v.endpoints) in
        all-append IsHeld (flat_map policy_chains (maps.entries v.policies)) (profiles ++ (endpoints ++ dispatch_chains v))
        (policy_chains_held (maps.entries v.policies)
        (each (λ e. maps.get v.policies e.0 ≡ Some e.1) (λ e. PolicyHeld e.0 e.1) (λ e is. policy_held e.0 e.1 is) (maps.entries v.policies) (entries_found nat_list_cmp_total v.policies)))
        (all-append IsHeld profiles (endpoints ++ dispatch_chains v)
        (profile_chains_held (maps.entries v.profiles)
        (each (λ e. maps.get v.profiles e.0 ≡ Some e.1) (λ e. ProfileHeld e.0 e.1) (λ e is. profile_held e.0 e.1 is) (maps.entries v.profiles) (entries_found nat_list_cmp_total v.profiles)))
        (all-append IsHeld endpoints (dispatch_chains v)
        (endpoint_chains_held (maps.entries v.endpoints)
        (each (λ e. maps.get v.endpoints e.0 ≡ Some e.1) (λ e. EndpointHeld e.0 e.1) (λ e is. endpoints_held formed e.0 e.1 is) (maps.entries v.endpoints) (entries_found nat_list_cmp_total v.endpoints)))
        (each (λ (w : Written). is_fixed_chain w.0 ≡ true) IsHeld (λ w fixed. inl fixed) (dispatch_chains v) (dispatch_fixed v))))

no_chain : {A : Type 0} (rules : List ChainRule) → None ≡ Some rules → A
no_chain rules is = cc

pub chains_claimed : (dg : Digest) (R : Resources) (name : ChainName) (rules : List ChainRule) → are_formed R ≡ true → maps.get (tables_of (view_of dg R)).chains name ≡ Some rules → IsFixedOrClaimed dg R name
chains_claimed dg R name rules formed is =
    at_extended (λ (q : ChainName) (rs : List ChainRule). IsFixedOrClaimed dg R q) maps.empty (chains_of (view_of dg R))
    (λ q x none. no_chain x (sym (get_empty q) ∙ none)) (all_held dg R formed) name rules is
