-- What the wanted view says of a first packet is what the resources say.
use Rattle.std.proofs.Common.{◌≡◌, ℕ, suc, Bool, true, false, not, ◌&&◌, is_some, ◌||◌, cond, List, [], ◌∷◌, ◌++◌, map, Option, Some, None, refl, sym, ap, ◌∙◌, subst}
use Rattle.std.specs.Prelude.{T, filter}
use Rattle.fx_base.proofs.Found.{entries_found}
use Rattle.fx_base.proofs.AtKey.{get_empty}
use Rattle.fx_base.proofs.ExtendedKeys.{among_cases, at_extended}
use Rattle.std.specs.List.{AllByRecursion, list_any, list_all, flat_map}
use Rattle.std.specs.Str.{bytes_eq}
use Rattle.std.specs.Ordering.{nat_cmp, is_lt}
use Rattle.std.specs.Cmp.{tied_itself}
use Rattle.std.specs.Cmp.Lexicographic.{slice_cmp, nat_list_cmp_total, texts_ties}
use Rattle.std.specs.FinMap as maps
use Rattle.std.specs.FinMap.Entries.{below_all}
use Rattle.std.proofs.lemmas.List.Folds.{list_any-append}
use Rattle.std.proofs.lemmas.Bool.{or_left, or_right}
use Rattle.fx_base.specs.Same.{same_bytes, same_numbers, both_pass}
use Rattle.fx_base.specs.declared.net.Proto.{Proto}
use Rattle.fx_selector.specs.Tree.{Tree}
use Rattle.fx_model.proofs.Orders.{item_total}
use Rattle.fx_laws.proofs.Removing.{both}
use Rattle.fx_laws.proofs.TiersClosed.{activates}
use Rattle.fx_laws.proofs.Uses.{all-first, all-second, uses-policies, uses-profiles}
use Rattle.fx_model.specs.contracts.ids.ItemKeyOrd.TheImpl.{cmp-value}
use Rattle.fx_model.specs.declared.ids.ItemKey.{ItemKey}
use Rattle.fx_model.specs.declared.ids.PolicyId.{PolicyId}
use Rattle.fx_model.specs.declared.policy.Policy.{Policy}
use Rattle.fx_model.specs.declared.packet.Packet.{Packet}
use Rattle.fx_model.specs.declared.chain.Reason.{Reason}
use Rattle.fx_model.specs.declared.chain.Reason.TheVariants as reason
use Rattle.fx_model.specs.declared.chain.End.TheVariants.{Source, Dest}
use Rattle.fx_model.specs.declared.rules.PortSpec.{PortSpec}
use Rattle.fx_model.specs.declared.rules.Rule.{Rule}
use Rattle.fx_model.specs.declared.resources.Endpoint.{Endpoint}
use Rattle.fx_model.specs.declared.resources.Profile.{Profile}
use Rattle.fx_model.specs.declared.resources.Resources.{Resources}
use Rattle.fx_model.specs.declared.view.ViewEndpoint.{ViewEndpoint}
use Rattle.fx_model.specs.declared.view.ViewPolicy.{ViewPolicy}
use Rattle.fx_model.specs.declared.view.ViewProfile.{ViewProfile}
use Rattle.fx_model.specs.Directions.{Direction, Ingress, Egress}
use Rattle.fx_model.specs.Resources.{is_served, served_endpoints}
use Rattle.fx_model.specs.Criteria.{proto_is, proto_is_not, icmp_is, icmp_is_not}
use Rattle.fx_base.specs.Given.{is_given}
use Rattle.fx_model.specs.Formed.{implies, has_port_protocol, has_icmp_protocol, lists_ports, lists_view_ports, passes, has_its_protocol, is_formed_side, is_formed_rule, is_formed_policy, is_formed_profile_rule, is_formed_profile, is_formed_view_rule, is_formed_view_profile_rule}
use Rattle.fx_model.specs.Tables.{policy_side, profile_side}
use Rattle.fx_names.specs.Digests.{Digest}
use Rattle.fx_model.specs.Sets.{ports_protocol, side_uses, rule_uses, rules_uses, policy_uses}
use Rattle.fx_model.specs.Views.{view_of, view_port, view_side, view_rule, uses_if_there, uses_of_profile, profile_key, is_active_profile, view_policy, view_profile, policy_entry, profile_entry, view_tiers, view_endpoint, endpoint_entry, active_profiles}
use Rattle.fx_model.specs.Active.{applies, is_active, active_policies}
use Rattle.fx_model.specs.Policy.{side_matches, rule_matches, There, met_rules, rules_of, there_or_missing, listed_profile, tiers_verdict, profiles_verdict, tiers_for, endpoint_verdict, with_iface, endpoint_at, verdict_at, side_verdict, both_sides, packet_verdict}
use Rattle.fx_model.specs.ViewPolicy.{view_side_matches, view_rule_matches, HasFormedRules, met_view_rules, listed_of, view_tier, view_listed, view_endpoint_verdict, view_verdict_at, view_verdict}
use Rattle.fx_walk.specs.Serving.{IsServedApart}
use Rattle.fx_laws.proofs.EntryLookups.{is, last, is_itself, is_same, get-collected, first, second}
use Rattle.fx_laws.proofs.MadeUses.{HasPortsIfGiven, ports_allowed, plain_rules}
use Rattle.fx_walk.proofs.KnownSets.{IsKnown, active_stand}
use Rattle.fx_walk.proofs.SetTruth.{side_same}
use Rattle.fx_walk.proofs.WantedTiers.{tiers_same}

abbrev is_among : List ℕ → List (List ℕ) → Bool
is_among q names = list_any (is q) names

-- the map has each of these entries
abbrev pub AllThere : maps.FinMap cmp-value.it Endpoint → List (ItemKey × Endpoint) → Type 0
AllThere m es = AllByRecursion (λ e. maps.get m e.0 ≡ Some e.1) es

-- ---- the rules of the view are formed where those of the resources are

module _ (dg : Digest) (R : Resources) where
  given_ports : (p : Option Proto) (t : Option Tree) (ps : List PortSpec) → is_given (map (view_port dg p t) ps) ≡ is_given ps
  given_ports p t [] = refl
  given_ports p t (x ∷ ps) = refl

  lists_same : (r : Rule) → lists_view_ports (view_rule dg r) ≡ lists_ports r
  lists_same r =
      let given = given_ports r.protocol in
      λ i. (given r.source.selector r.source.ports i || given r.source.selector r.source.not_ports i) || (given r.destination.selector r.destination.ports i || given r.destination.selector r.destination.not_ports i)

  formed_same : (r : Rule) → is_formed_view_rule (view_rule dg r) ≡ has_its_protocol r
  formed_same r = ap (λ b. implies b (has_port_protocol r.protocol) && implies (is_some r.icmp || is_some r.not_icmp) (has_icmp_protocol r.protocol)) (lists_same r)

  rule_formed : (r : Rule) → is_formed_rule r ≡ true → is_formed_view_rule (view_rule dg r) ≡ true
  rule_formed r h = formed_same r ∙ (both_pass (has_its_protocol r) (is_formed_side r.source && is_formed_side r.destination) h).0

  all_formed : (rs : List Rule) → list_all is_formed_rule rs ≡ true → list_all is_formed_view_rule (map (view_rule dg) rs) ≡ true
  all_formed [] h = refl
  all_formed (r ∷ rs) h =
      let b = both_pass (is_formed_rule r) (list_all is_formed_rule rs) h in
      both (is_formed_view_rule (view_rule dg r)) (list_all is_formed_view_rule (map (view_rule dg) rs)) (rule_formed r b.0) (all_formed rs b.1)

  all_profile_formed : (rs : List Rule) → list_all is_formed_profile_rule rs ≡ true → list_all is_formed_view_profile_rule (map (view_rule dg) rs) ≡ true
  all_profile_formed [] h = refl
  all_profile_formed (r ∷ rs) h =
      let b = both_pass (is_formed_profile_rule r) (list_all is_formed_profile_rule rs) h in
      let c = both_pass (is_formed_rule r) (not (passes r.action)) b.0 in
      both (is_formed_view_profile_rule (view_rule dg r)) (list_all is_formed_view_profile_rule (map (view_rule dg) rs))
      (both (is_formed_view_rule (view_rule dg r)) (not (passes r.action)) (rule_formed r c.0) c.1) (all_profile_formed rs b.1)

  policy_formed : (id : PolicyId) (p : Policy) → is_formed_policy p ≡ true → (d : Direction) → list_all is_formed_view_rule (policy_side d (view_policy dg id p)) ≡ true
  policy_formed id p h Ingress = all_formed p.ingress (both_pass (list_all is_formed_rule p.ingress) (list_all is_formed_rule p.egress) h).0
  policy_formed id p h Egress = all_formed p.egress (both_pass (list_all is_formed_rule p.ingress) (list_all is_formed_rule p.egress) h).1

  -- each side of the profile has formed rules
  abbrev HasFormedSides : ViewProfile → Type 0
  HasFormedSides p = (d : Direction) → list_all is_formed_view_profile_rule (profile_side d p) ≡ true

  profile_formed : (name : List ℕ) (o : Option Profile) → ((p : Profile) → o ≡ Some p → is_formed_profile p ≡ true) → HasFormedSides (view_profile dg name o)
  profile_formed name None h Ingress = refl
  profile_formed name None h Egress = refl
  profile_formed name (Some p) h Ingress = all_profile_formed p.ingress (both_pass (list_all is_formed_profile_rule p.ingress) (list_all is_formed_profile_rule p.egress) (h p refl)).0
  profile_formed name (Some p) h Egress = all_profile_formed p.egress (both_pass (list_all is_formed_profile_rule p.ingress) (list_all is_formed_profile_rule p.egress) (h p refl)).1

  entries_formed : IsServedApart dg R → (names : List (List ℕ)) → AllByRecursion (λ e. HasFormedSides e.1) (map (profile_entry dg R) names)
  entries_formed servable [] = tt
  entries_formed servable (name ∷ names) = (profile_formed name (maps.get R.profiles name) (servable.rules name), entries_formed servable names)

  abbrev HasFormedPolicySides : ViewPolicy → Type 0
  HasFormedPolicySides p = (d : Direction) → list_all is_formed_view_rule (policy_side d p) ≡ true

  policies_formed : IsServedApart dg R → (xs : List (PolicyId × Policy)) → AllByRecursion (λ x. maps.get R.policies x.0 ≡ Some x.1) xs → AllByRecursion (λ e. HasFormedPolicySides e.1) (map (policy_entry dg) xs)
  policies_formed servable [] there = tt
  policies_formed servable (x ∷ xs) there = (policy_formed x.0 x.1 (servable.policies x.0 x.1 there.0), policies_formed servable xs there.1)

  nothing_there : {X A : Type 0} (q : List ℕ) (x : X) → maps.get (maps.empty {X = X} {R = slice_cmp nat_cmp}) q ≡ Some x → A
  nothing_there q x e = absurd (none (sym (get_empty q) ∙ e))
    where
      none : {X : Type 0} {x : X} → None ≡ Some x → ⊥
      none h = cc

  pub formed_rules : IsServedApart dg R → HasFormedRules (view_of dg R)
  formed_rules servable = record {
    policies = λ d key p e. at_extended (λ _ q. HasFormedPolicySides q) maps.empty (map (policy_entry dg) (active_policies R)) (λ q x is. nothing_there q x is) (policies_formed servable (active_policies R) (active_stand R)) key p e d;
    profiles = λ d key p e. at_extended (λ _ q. HasFormedSides q) maps.empty (map (profile_entry dg R) (active_profiles R)) (λ q x is. nothing_there q x is) (entries_formed servable (active_profiles R)) key p e d;
  }

-- ---- rules whose sets are known

-- a formed rule whose sets have their members
abbrev IsKnownRule : Digest → Resources → Rule → Type 0
IsKnownRule dg R r = (is_formed_rule r ≡ true) × AllByRecursion (IsKnown dg R) (rule_uses r)

abbrev AreKnownRules : Digest → Resources → List Rule → Type 0
AreKnownRules dg R rs = AllByRecursion (IsKnownRule dg R) rs

abbrev IsKnownProfile : Digest → Resources → Option Profile → Type 0
IsKnownProfile dg R None = Unit {0}
IsKnownProfile dg R (Some p) = AreKnownRules dg R p.ingress × AreKnownRules dg R p.egress

module _ (dg : Digest) (R : Resources) where
  known_rules : (rs : List Rule) → list_all is_formed_rule rs ≡ true → AllByRecursion (IsKnown dg R) (rules_uses rs) → AreKnownRules dg R rs
  known_rules [] formed known = tt
  known_rules (r ∷ rs) formed known =
      let b = both_pass (is_formed_rule r) (list_all is_formed_rule rs) formed in
      ((b.0, all-first (IsKnown dg R) (rule_uses r) (rules_uses rs) known), known_rules rs b.1 (all-second (IsKnown dg R) (rule_uses r) (rules_uses rs) known))

  module _ (servable : IsServedApart dg R) where
    policy_known : (d : Direction) (x : PolicyId × Policy) → maps.get R.policies x.0 ≡ Some x.1 → AllByRecursion (IsKnown dg R) (policy_uses x.1) → AreKnownRules dg R (rules_of d x.1)
    policy_known d x at known = by_direction d
      where
        formed : (list_all is_formed_rule x.1.ingress ≡ true) × (list_all is_formed_rule x.1.egress ≡ true)
        formed = both_pass (list_all is_formed_rule x.1.ingress) (list_all is_formed_rule x.1.egress) (servable.policies x.0 x.1 at)

        by_direction : (c : Direction) → AreKnownRules dg R (rules_of c x.1)
        by_direction Ingress = known_rules x.1.ingress formed.0 (all-first (IsKnown dg R) (rules_uses x.1.ingress) (rules_uses x.1.egress) known)
        by_direction Egress = known_rules x.1.egress formed.1 (all-second (IsKnown dg R) (rules_uses x.1.ingress) (rules_uses x.1.egress) known)

    policies_known : (d : Direction) (xs : List (PolicyId × Policy)) → AllByRecursion (λ x. maps.get R.policies x.0 ≡ Some x.1) xs → AllByRecursion (λ x. AllByRecursion (IsKnown dg R) (policy_uses x.1)) xs → AllByRecursion (λ x. AreKnownRules dg R (rules_of d x.1)) xs
    policies_known d [] there known = tt
    policies_known d (x ∷ xs) there known = (policy_known d x there.0 known.0, policies_known d xs there.1 known.1)

    -- the rules of active policies
    active_known : (d : Direction) → AllByRecursion (λ x. AreKnownRules dg R (rules_of d x.1)) (active_policies R)
    active_known d = policies_known d (active_policies R) (active_stand R) (uses-policies (IsKnown dg R) R servable.members)

    profile_known : (name : List ℕ) (o : Option Profile) → maps.get R.profiles name ≡ o → AllByRecursion (IsKnown dg R) (uses_if_there o) → IsKnownProfile dg R o
    profile_known name None at known = tt
    profile_known name (Some p) at known =
        let b = both_pass (list_all is_formed_profile_rule p.ingress) (list_all is_formed_profile_rule p.egress) (servable.rules name p at) in (
          known_rules p.ingress (plain_rules p.ingress b.0) (all-first (IsKnown dg R) (rules_uses p.ingress) (rules_uses p.egress) known),
          known_rules p.egress (plain_rules p.egress b.1) (all-second (IsKnown dg R) (rules_uses p.ingress) (rules_uses p.egress) known),
        )

    of_name : (P : List ℕ → Type 0) (q : List ℕ) (names : List (List ℕ)) → AllByRecursion P names → is_among q names ≡ true → P q
    of_name P q [] h among = cc
    of_name P q (n ∷ names) h among = among_cases P q n names among h.0 (λ later. of_name P q names h.1 later)

    -- the rules of a profile that a served endpoint lists
    listed_known : (name : List ℕ) → is_active_profile R name ≡ true → IsKnownProfile dg R (maps.get R.profiles name)
    listed_known name active =
        profile_known name (maps.get R.profiles name) refl
        (of_name (λ n. AllByRecursion (IsKnown dg R) (uses_of_profile R n)) name (active_profiles R) (uses-profiles (IsKnown dg R) R servable.members) active)

-- what two tests behind the one on the protocol say counts where that one passes
behind_protocol : (v b n c x y : Bool) → (b ≡ true → x ≡ y) → (v && ((b && n) && (c && x))) ≡ (v && ((b && n) && (c && y)))
behind_protocol v true n c x y h = ap (λ z. v && (n && (c && z))) (h refl)
behind_protocol v false n c x y h = refl

module _ (dg : Digest) (R : Resources) (a : Packet) where
  -- ---- rules

  of_protocol : (p : Option Proto) (ps : List PortSpec) → proto_is p a.proto.0 ≡ true → HasPortsIfGiven p ps → is_given ps ≡ true → a.proto.0 ≡ (ports_protocol p).0
  of_protocol None ps is has given = let wrong : false ≡ true = has given in cc
  of_protocol (Some p) ps is has given = same_numbers a.proto.0 p.0 is

  sides_same : (r : Rule) → IsKnownRule dg R r → proto_is r.protocol a.proto.0 ≡ true → (view_side_matches (view_of dg R).sets Source (view_side dg r.protocol r.source) a && view_side_matches (view_of dg R).sets Dest (view_side dg r.protocol r.destination) a) ≡ (side_matches R Source r.source a && side_matches R Dest r.destination a)
  sides_same r known is =
      let allowed = ports_allowed r (both_pass (has_its_protocol r) (is_formed_side r.source && is_formed_side r.destination) known.0).0 in
      let source = side_same dg R a Source r.protocol r.source (of_protocol r.protocol r.source.ports is allowed.source) (of_protocol r.protocol r.source.not_ports is allowed.not_source)
      (all-first (IsKnown dg R) (side_uses r.protocol r.source) (side_uses r.protocol r.destination) known.1) in
      let destination = side_same dg R a Dest r.protocol r.destination (of_protocol r.protocol r.destination.ports is allowed.destination) (of_protocol r.protocol r.destination.not_ports is allowed.not_destination)
      (all-second (IsKnown dg R) (side_uses r.protocol r.source) (side_uses r.protocol r.destination) known.1) in
      λ i. source i && destination i

  rule_same : (r : Rule) → IsKnownRule dg R r → view_rule_matches (view_of dg R).sets (view_rule dg r) a ≡ rule_matches R r a
  rule_same r known =
      behind_protocol (not r.never) (proto_is r.protocol a.proto.0) (proto_is_not r.not_protocol a.proto.0) (icmp_is r.icmp a && icmp_is_not r.not_icmp a)
      (view_side_matches (view_of dg R).sets Source (view_side dg r.protocol r.source) a && view_side_matches (view_of dg R).sets Dest (view_side dg r.protocol r.destination) a)
      (side_matches R Source r.source a && side_matches R Dest r.destination a) (sides_same r known)

  met_same : (why : ℕ → Reason) (place : ℕ) (rs : List Rule) → AreKnownRules dg R rs → met_view_rules (view_of dg R).sets a why place (map (view_rule dg) rs) ≡ met_rules R a why place rs
  met_same why place [] known = refl
  met_same why place (r ∷ rs) known =
      let first = rule_same r known.0 in
      let rest = met_same why (suc place) rs known.1 in
      λ i. record { why = why place; action = r.action; matches = first i } ∷ rest i

  -- ---- profiles

  listed_same : (d : Direction) (name : List ℕ) (o : Option Profile) → IsKnownProfile dg R o → listed_of (view_of dg R).sets d a (Some (view_profile dg name o)) ≡ there_or_missing R d a name o
  listed_same d name None known = refl
  listed_same Ingress name (Some p) known = ap There (met_same (reason.Profile name) 1 p.ingress known.0)
  listed_same Egress name (Some p) known = ap There (met_same (reason.Profile name) 1 p.egress known.1)

  abbrev wanted : List ℕ → ViewProfile
  wanted name = view_profile dg name (maps.get R.profiles name)

  -- the profiles of these names are active
  abbrev pub Within : List (List ℕ) → Type 0
  Within names = (q : List ℕ) → is_among q names ≡ true → is_active_profile R q ≡ true

  within_first : (n : List ℕ) (names : List (List ℕ)) → Within (n ∷ names) → is_active_profile R n ≡ true
  within_first n names within = within n (ap (λ b. b || is_among n names) (is_itself n))

  within_later : (n : List ℕ) (names : List (List ℕ)) → Within (n ∷ names) → Within names
  within_later n names within q h = within q (or_right (is q n) (is_among q names) h)

  -- active profiles have each its own key
  abbrev AreApart : Type 0
  AreApart = (m n : List ℕ) → is_active_profile R m ≡ true → is_active_profile R n ≡ true → profile_key dg m ≡ profile_key dg n → m ≡ n

  abbrev key : List ℕ → List ℕ
  key name = profile_key dg name

  module _ (apart : AreApart) (known : (n : List ℕ) → is_active_profile R n ≡ true → IsKnownProfile dg R (maps.get R.profiles n)) where
    -- names that stand twice have one entry
    profile_kept : (names : List (List ℕ)) (q : List ℕ) → Within names → is_active_profile R q ≡ true → last (map (profile_entry dg R) names) (key q) (Some (wanted q)) ≡ Some (wanted q)
    profile_kept [] q within active = refl
    profile_kept (n ∷ names) q within active = by_test (profile_kept names q (within_later n names within) active) (is (key q) (key n)) refl
      where
        by_test : last (map (profile_entry dg R) names) (key q) (Some (wanted q)) ≡ Some (wanted q) → (b : Bool) → is (key q) (key n) ≡ b → last (map (profile_entry dg R) names) (key q) (cond b (Some (wanted n)) (Some (wanted q))) ≡ Some (wanted q)
        by_test ih true t = ap (λ k. last (map (profile_entry dg R) names) (key q) (Some (wanted k))) (sym (apart q n active (within_first n names within) (is_same (key q) (key n) t))) ∙ ih
        by_test ih false t = ih

    profile_found : (names : List (List ℕ)) (q : List ℕ) (p : Option ViewProfile) → Within names → is_active_profile R q ≡ true → is_among q names ≡ true → last (map (profile_entry dg R) names) (key q) p ≡ Some (wanted q)
    profile_found [] q p within active h = absurd (cc)
    profile_found (n ∷ names) q p within active h = by_test (λ g. profile_found names q p (within_later n names within) active g) (is (key q) (key n)) refl h
      where
        unlike : is (key q) (key n) ≡ false → is q n ≡ true → ⊥
        unlike t u = let same : true ≡ false = sym (is_itself (key q)) ∙ ap (λ k. is (key q) (key k)) (is_same q n u) ∙ t in cc

        among_rest : is (key q) (key n) ≡ false → (b : Bool) → is q n ≡ b → (b || is_among q names) ≡ true → is_among q names ≡ true
        among_rest t true u g = absurd (unlike t u)
        among_rest t false u g = g

        by_test : (is_among q names ≡ true → last (map (profile_entry dg R) names) (key q) p ≡ Some (wanted q)) → (b : Bool) → is (key q) (key n) ≡ b → (is q n || is_among q names) ≡ true → last (map (profile_entry dg R) names) (key q) (cond b (Some (wanted n)) p) ≡ Some (wanted q)
        by_test ih true t g = ap (λ k. last (map (profile_entry dg R) names) (key q) (Some (wanted k))) (sym (apart q n active (within_first n names within) (is_same (key q) (key n) t))) ∙ profile_kept names q (within_later n names within) active
        by_test ih false t g = ih (among_rest t (is q n) refl g)

    -- each active name has its profile in the view
    active_listed : (d : Direction) (name : List ℕ) → is_active_profile R name ≡ true → view_listed (view_of dg R) d a (key name) ≡ listed_profile R d a name
    active_listed d name h =
        ap (listed_of (view_of dg R).sets d a) (get-collected nat_list_cmp_total (map (profile_entry dg R) (active_profiles R)) (key name) ∙ profile_found (active_profiles R) name None (λ q g. g) h h)
        ∙ listed_same d name (maps.get R.profiles name) (known name h)

    all_listed : (d : Direction) (names : List (List ℕ)) → Within names → map (view_listed (view_of dg R) d a) (map (profile_key dg) names) ≡ map (listed_profile R d a) names
    all_listed d [] within = refl
    all_listed d (n ∷ names) within =
        let head : view_listed (view_of dg R) d a (key n) ≡ listed_profile R d a n = active_listed d n (within_first n names within) in
        let tail : map (view_listed (view_of dg R) d a) (map (profile_key dg) names) ≡ map (listed_profile R d a) names = all_listed d names (within_later n names within) in
        λ i. head i ∷ tail i

  -- ---- endpoints

  -- policies that apply to the endpoint are active
  abbrev pub Activates : Endpoint → Type 0
  Activates e = (d : Direction) (p : Policy) → applies R d p e ≡ true → is_active R p ≡ true

  pub endpoint_same : IsServedApart dg R → (d : Direction) (k : ItemKey) (e : Endpoint) → Within e.profiles → Activates e → view_endpoint_verdict (view_of dg R) d (view_endpoint dg R k e) a ≡ endpoint_verdict R d e a
  endpoint_same servable d k e within active = by_direction d
    where
      tiers : (d : Direction) → map (view_tier (view_of dg R) d a) (view_tiers dg R d e) ≡ tiers_for R d e a
      tiers d = tiers_same dg R servable.policies_apart d e (active d) a (AreKnownRules dg R) met_same (active_known dg R servable d)

      joined : (d : Direction) → tiers_verdict (map (view_tier (view_of dg R) d a) (view_tiers dg R d e)) (profiles_verdict (map (view_listed (view_of dg R) d a) (map (profile_key dg) e.profiles))) ≡ endpoint_verdict R d e a
      joined d = λ i. tiers_verdict (tiers d i) (profiles_verdict (all_listed servable.keys_apart (listed_known dg R servable) d e.profiles within i))

      by_direction : (c : Direction) → view_endpoint_verdict (view_of dg R) c (view_endpoint dg R k e) a ≡ endpoint_verdict R c e a
      by_direction Ingress = joined Ingress
      by_direction Egress = joined Egress

  abbrev served : List (ItemKey × Endpoint) → List (ItemKey × Endpoint)
  served es = filter (λ x. is_served R x.1) es

  abbrev pub names_of : List (ItemKey × Endpoint) → List (List ℕ)
  names_of es = flat_map (λ x. x.1.profiles) es

  -- of these endpoints the view and the resources say one at an interface
  abbrev IsAlikeAt : Direction → List ℕ → List (ItemKey × Endpoint) → Type 0
  IsAlikeAt d iface xs = Within (names_of xs) → AllByRecursion (λ x. Activates x.1) xs → view_verdict_at (view_of dg R) d a (last (map (endpoint_entry dg R) xs) iface None) ≡ verdict_at R d a (with_iface xs iface)

  module _ (servable : IsServedApart dg R) where
    pub not_itself : (k l : ItemKey) → k ≡ l → T (is_lt (cmp-value.it k l)) → ⊥
    not_itself k l e below = absurd (subst (λ r. T (is_lt r)) (ap (cmp-value.it k) (sym e) ∙ tied_itself item_total k) below)

    -- no endpoint behind another has its interface
    pub none_alike : (k : ItemKey) (e : Endpoint) (es : List (ItemKey × Endpoint)) (p : Option ViewEndpoint) → maps.get R.endpoints k ≡ Some e → is_served R e ≡ true → T (below_all cmp-value.it k es) → AllThere R.endpoints es → last (map (endpoint_entry dg R) (served es)) e.iface p ≡ p
    none_alike k e [] p at s below there = refl
    none_alike k e (x ∷ es) p at s below there = by_served (none_alike k e es p at s (second _ _ below) there.1) (is_served R x.1) refl
      where
        by_iface : last (map (endpoint_entry dg R) (served es)) e.iface p ≡ p → is_served R x.1 ≡ true → (b : Bool) → is e.iface x.1.iface ≡ b → last (map (endpoint_entry dg R) (served es)) e.iface (cond b (Some (view_endpoint dg R x.0 x.1)) p) ≡ p
        by_iface rest t true same = absurd (not_itself k x.0 (servable.apart k x.0 e x.1 at there.0 s t (is_same e.iface x.1.iface same)) (first _ _ below))
        by_iface rest t false same = rest

        by_served : last (map (endpoint_entry dg R) (served es)) e.iface p ≡ p → (b : Bool) → is_served R x.1 ≡ b → last (map (endpoint_entry dg R) (cond b (x ∷ served es) (served es))) e.iface p ≡ p
        by_served rest true t = by_iface rest t (is e.iface x.1.iface) refl
        by_served rest false t = rest

    -- the endpoint at an interface, in the view and among the resources
    alike_at : (d : Direction) (iface : List ℕ) (es : List (ItemKey × Endpoint)) → T (maps.is_sorted cmp-value.it es) → AllThere R.endpoints es → IsAlikeAt d iface (served es)
    alike_at d iface [] sorted there within active = refl
    alike_at d iface (x ∷ es) sorted there within active = by_served (λ w v. alike_at d iface es (second _ _ sorted) there.1 w v) (is_served R x.1) refl within active
      where
        by_iface : IsAlikeAt d iface (served es) → is_served R x.1 ≡ true → Within (x.1.profiles ++ names_of (served es)) → Activates x.1 → AllByRecursion (λ y. Activates y.1) (served es) → (b : Bool) → bytes_eq iface x.1.iface ≡ b → view_verdict_at (view_of dg R) d a (last (map (endpoint_entry dg R) (served es)) iface (cond b (Some (view_endpoint dg R x.0 x.1)) None)) ≡ verdict_at R d a (elim b [ true ↦ Some x.1 | false ↦ with_iface (served es) iface ])
        by_iface rest t within here active true same =
            ap (view_verdict_at (view_of dg R) d a) (ap (λ i. last (map (endpoint_entry dg R) (served es)) i (Some (view_endpoint dg R x.0 x.1))) (same_bytes iface x.1.iface same)
            ∙ none_alike x.0 x.1 es (Some (view_endpoint dg R x.0 x.1)) there.0 t (first _ _ sorted) there.1)
            ∙ ap Some (endpoint_same servable d x.0 x.1 (λ q h. within q (list_any-append (is q) x.1.profiles (names_of (served es)) ∙ or_left (is_among q x.1.profiles) (is_among q (names_of (served es))) h)) here)
        by_iface rest t within here active false same =
            rest (λ q h. within q (list_any-append (is q) x.1.profiles (names_of (served es)) ∙ or_right (is_among q x.1.profiles) (is_among q (names_of (served es))) h)) active

        by_served : IsAlikeAt d iface (served es) → (b : Bool) → is_served R x.1 ≡ b → IsAlikeAt d iface (cond b (x ∷ served es) (served es))
        by_served rest true t within active =
            ap (λ b. view_verdict_at (view_of dg R) d a (last (map (endpoint_entry dg R) (served es)) iface (cond b (Some (view_endpoint dg R x.0 x.1)) None))) (sym (texts_ties iface x.1.iface))
            ∙ by_iface rest t within active.0 active.1 (bytes_eq iface x.1.iface) refl
        by_served rest false t within active = rest within active

    at_iface : (d : Direction) (iface : List ℕ) → view_verdict_at (view_of dg R) d a (maps.get (view_of dg R).endpoints iface) ≡ verdict_at R d a (endpoint_at R iface)
    at_iface d iface =
        ap (view_verdict_at (view_of dg R) d a) (get-collected nat_list_cmp_total (map (endpoint_entry dg R) (served_endpoints R)) iface)
        ∙ alike_at d iface (maps.entries R.endpoints) (maps.entries_sorted R.endpoints) (entries_found item_total R.endpoints) (λ q h. h) (activates R (served_endpoints R) (λ p h. h))

    -- the wanted view's answer is the policy reference's
    pub view_is_policy : view_verdict (view_of dg R) a ≡ packet_verdict R a
    view_is_policy =
        ap (λ x. both_sides (side_verdict x a.iface_in) (side_verdict (view_verdict_at (view_of dg R) Ingress a (maps.get (view_of dg R).endpoints a.iface_out)) a.iface_out)) (at_iface Egress a.iface_in)
        ∙ ap (λ x. both_sides (side_verdict (verdict_at R Egress a (endpoint_at R a.iface_in)) a.iface_in) (side_verdict x a.iface_out)) (at_iface Ingress a.iface_out)
