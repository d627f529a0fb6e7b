-- Of records that stand for resources as they are written, the policy reference says what the resources say, by the places of their rules.
use Rattle.std.proofs.Common.{◌≡◌, ℕ, Bool, true, false, ◌&&◌, cond, List, [], ◌∷◌, ◌++◌, map, Option, Some, None, refl, sym, ap, ◌∙◌, subst}
use Rattle.std.specs.Prelude.{filter, option_map}
use Rattle.std.specs.List.{list_all, flat_map, AllByRecursion}
use Rattle.std.specs.Str.{bytes_eq}
use Rattle.std.specs.FinMap as maps
use Rattle.std.proofs.lemmas.List.{append-nil}
use Rattle.fx_base.proofs.Found.{entries_found}
use Rattle.fx_selector.specs.Truth.{holds}
use Rattle.fx_model.specs.declared.chain.Reason.{Reason}
use Rattle.fx_model.specs.declared.chain.Reason.TheVariants as reason
use Rattle.fx_model.specs.declared.ids.ItemKey.{ItemKey}
use Rattle.fx_model.specs.declared.ids.Key.TheVariants as key
use Rattle.fx_model.specs.declared.ids.PolicyId.{PolicyId}
use Rattle.fx_model.specs.declared.packet.Packet.{Packet}
use Rattle.fx_model.specs.declared.packet.Verdict.{Verdict}
use Rattle.fx_model.specs.declared.packet.Verdict.TheVariants.{Allow, Deny}
use Rattle.fx_model.specs.declared.policy.Policy.{Policy}
use Rattle.fx_model.specs.declared.resources.Endpoint.{Endpoint}
use Rattle.fx_model.specs.declared.resources.Profile.{Profile}
use Rattle.fx_model.specs.declared.resources.Resources.{Resources}
use Rattle.fx_model.specs.declared.rules.Rule.{Rule}
use Rattle.fx_model.specs.declared.tier_order.PolicyPlace.{PolicyPlace}
use Rattle.fx_model.specs.Active.{is_on, applies, applying}
use Rattle.fx_model.specs.Directions as direction
use Rattle.fx_model.specs.Labels.{of_endpoint}
use Rattle.fx_model.specs.Policy as policy
use Rattle.fx_model.specs.Policy.{Answer, Silent, Passed, Allowed, Denied, first_answer, Decision, Tier, Listed, Missing, There, passed_or_denied, after_policies, tiers_verdict, or_rest, profile_verdict, profiles_verdict, there_or_missing, listed_profile, met_policy, met_tier, tiers_for, endpoint_verdict, with_iface, endpoint_at, verdict_at, unknown_or_free, side_verdict, with_ingress, both_sides, packet_verdict}
use Rattle.fx_model.specs.Resources.{is_served, served_endpoints}
use Rattle.fx_model.specs.TierOrder.{TierHead, passes_at_end, place_in, tiers_of}
use Rattle.fx_model.proofs.Orders.{item_total, exact_item, policy_total, exact_policy}
use Rattle.fx_fields.specs.declared.policy_fields.PolicyType.TheVariants.{Ingress, Egress}
use Rattle.fx_fields.proofs.Readings.{first_of, second_of}
use Rattle.fx_kube_laws.proofs.Lists.{nothing_and, to_map}
use Rattle.fx_services.specs.declared.places.PlaceLists.{PlaceLists}
use Rattle.fx_services.specs.declared.services.RuleServices.{RuleServices}
use Rattle.fx_services.specs.declared.slices.Slice.{Slice}
use Rattle.fx_services.specs.Marks.{is_unmarked, is_other_item}
use Rattle.fx_services.specs.Slices.{slice_record}
use Rattle.fx_services.specs.Lowering.{written_rules, places_from, lowered_rules, ingress_of, egress_of, lowered_policy, lowered_profile}
use Rattle.fx_services.specs.Lowerable.{is_lowerable, are_lowerable}
use Rattle.fx_services.specs.Places.{PlacesByKey, written_place, list_for, place_by, reason_as_written}
use Rattle.fx_services.specs.Written.{Written, services_at}
use Rattle.fx_services.specs.WrittenVerdict.{services_for, written_policy, met_written, met_written_policy, written_tier, written_tiers, written_profile, written_listed, written_decision, written_at, written_verdict}
use Rattle.fx_services.specs.Standing.{place_lists, StandsFor, IsSound, PlacesStandFor, as_written, WrittenVerdictIsKept}
use Rattle.fx_service_laws.proofs.Items.{no_slice, no_endpoint}
use Rattle.fx_service_laws.proofs.Labels.{same_labels}
use Rattle.fx_service_laws.proofs.Maps.{valued, entries-valued, filter-ours}
use Rattle.fx_service_laws.proofs.Rules.{type_of}
use Rattle.fx_service_laws.proofs.Turned.{turned, rules-turned, turns-written}
use Rattle.fx_walk.proofs.TierLists.{AllInTiers, tiers_all, tiers-map}

-- ---- decisions

abbrev turned_decision : (Reason → Reason) → Decision → Decision
turned_decision f x = record { verdict = x.verdict; why = f x.why }

-- a reason that names no rule stays
abbrev Keeps : (Reason → Reason) → Type 0
Keeps f =
    ((name : List ℕ) → f (reason.EndOfTier name) ≡ reason.EndOfTier name)
    × (((name : List ℕ) → f (reason.MissingProfile name) ≡ reason.MissingProfile name)
    × ((f reason.NoProfileRule ≡ reason.NoProfileRule) × (f reason.UnknownInterface ≡ reason.UnknownInterface)))

module _ (f : Reason → Reason) (keeps : Keeps f) where
  after-turned : (answer : Answer) (end rest : Decision) → turned_decision f (after_policies answer end rest) ≡ after_policies (turned f answer) (turned_decision f end) (turned_decision f rest)
  after-turned Silent end rest = refl
  after-turned Passed end rest = refl
  after-turned (Allowed why) end rest = refl
  after-turned (Denied why) end rest = refl

  end-turned : (pass : Bool) (name : List ℕ) (rest : Decision) → turned_decision f (passed_or_denied pass name rest) ≡ passed_or_denied pass name (turned_decision f rest)
  end-turned true name rest = refl
  end-turned false name rest = (λ i. record { verdict = Deny; why = keeps.0 name i })

  or-turned : (answer : Answer) (rest : Decision) → turned_decision f (or_rest answer rest) ≡ or_rest (turned f answer) (turned_decision f rest)
  or-turned Silent rest = refl
  or-turned Passed rest = refl
  or-turned (Allowed why) rest = refl
  or-turned (Denied why) rest = refl

  -- a tier of records and one of resources as they are written
  abbrev SameTier : Tier → Tier → Type 0
  SameTier t u = (t.name ≡ u.name) × ((t.pass_at_end ≡ u.pass_at_end) × (turned f (first_answer t.rules) ≡ first_answer u.rules))

  abbrev SameTiers : List Tier → List Tier → Type 0
  SameTiers [] [] = Unit {0}
  SameTiers [] (u ∷ us) = ⊥
  SameTiers (t ∷ ts) [] = ⊥
  SameTiers (t ∷ ts) (u ∷ us) = SameTier t u × SameTiers ts us

  tiers-turned : (ts us : List Tier) (rest later : Decision) → SameTiers ts us → turned_decision f rest ≡ later → turned_decision f (tiers_verdict ts rest) ≡ tiers_verdict us later
  tiers-turned [] [] rest later same h = h
  tiers-turned [] (u ∷ us) rest later same h = absurd same
  tiers-turned (t ∷ ts) [] rest later same h = absurd same
  tiers-turned (t ∷ ts) (u ∷ us) rest later same h =
      let behind : turned_decision f (tiers_verdict ts rest) ≡ tiers_verdict us later = tiers-turned ts us rest later same.1 h in
      after-turned (first_answer t.rules) (passed_or_denied t.pass_at_end t.name (tiers_verdict ts rest)) (tiers_verdict ts rest)
      ∙ (ap (λ end. after_policies (turned f (first_answer t.rules)) end (turned_decision f (tiers_verdict ts rest))) (end-turned t.pass_at_end t.name (tiers_verdict ts rest))
      ∙ (λ i. after_policies (same.0.1.1 i) (passed_or_denied (same.0.1.0 i) (same.0.0 i) (behind i)) (behind i)))

  -- a listed profile of records and one as it is written
  abbrev SameListed : Listed → Listed → Type 0
  SameListed (Missing name) (Missing other) = name ≡ other
  SameListed (Missing name) (There rules) = ⊥
  SameListed (There rules) (Missing name) = ⊥
  SameListed (There rules) (There others) = turned f (first_answer rules) ≡ first_answer others

  profile-turned : (p q : Listed) (rest later : Decision) → SameListed p q → turned_decision f rest ≡ later → turned_decision f (profile_verdict p rest) ≡ profile_verdict q later
  profile-turned (Missing name) (Missing other) rest later same h =
      (λ i. record { verdict = Deny; why = keeps.1.0 name i }) ∙ ap (λ n. record { verdict = Deny; why = reason.MissingProfile n }) same
  profile-turned (Missing name) (There rules) rest later same h = absurd same
  profile-turned (There rules) (Missing name) rest later same h = absurd same
  profile-turned (There rules) (There others) rest later same h =
      or-turned (first_answer rules) rest ∙ (λ i. or_rest (same i) (h i))

  profiles-turned : (record_of written_of : List ℕ → Listed) (names : List (List ℕ)) → ((name : List ℕ) → SameListed (record_of name) (written_of name)) → turned_decision f (profiles_verdict (map record_of names)) ≡ profiles_verdict (map written_of names)
  profiles-turned record_of written_of [] same = (λ i. record { verdict = Deny; why = keeps.1.1.0 i })
  profiles-turned record_of written_of (name ∷ names) same =
      profile-turned (record_of name) (written_of name) (profiles_verdict (map record_of names)) (profiles_verdict (map written_of names)) (same name) (profiles-turned record_of written_of names same)

-- ---- a direction

module _ (W : Written) (R : Resources) (P : PlacesByKey) (a : Packet) (stands : StandsFor W R) (sound : IsSound W) (listed : PlacesStandFor W P) (d : direction.Direction) where
  abbrev back : Reason → Reason
  back = reason_as_written P (type_of d)

  keeps : Keeps back
  keeps = (λ name. refl, (λ name. refl, (refl, refl)))

  -- ---- a policy

  abbrev services : PolicyId → RuleServices
  services id = services_at W (key.Policy id)

  abbrev policy_record : PolicyId × Policy → PolicyId × Policy
  policy_record = valued policy_total exact_policy (λ id p. lowered_policy (services id) p)

  -- a policy that is there
  abbrev IsThere : PolicyId × Policy → Type 0
  IsThere x = maps.get W.plain.policies x.0 ≡ Some x.1

  -- the rules that a direction's lists are of
  rules-low : (g : direction.Direction) (s : RuleServices) (p : Policy) → are_lowerable s p.ingress p.egress ≡ true → list_all (is_lowerable (type_of g)) (written_rules (policy.rules_of g p) (services_for g s)) ≡ true
  rules-low direction.Ingress s p low = first_of (list_all (is_lowerable Ingress) (ingress_of s p.ingress)) (list_all (is_lowerable Egress) (egress_of s p.egress)) low
  rules-low direction.Egress s p low = second_of (list_all (is_lowerable Ingress) (ingress_of s p.ingress)) (list_all (is_lowerable Egress) (egress_of s p.egress)) low

  record-rules : (g : direction.Direction) (s : RuleServices) (p : Policy) → policy.rules_of g (lowered_policy s p) ≡ lowered_rules (type_of g) (written_rules (policy.rules_of g p) (services_for g s))
  record-rules direction.Ingress s p = refl
  record-rules direction.Egress s p = refl

  list-is : (g : direction.Direction) (s : RuleServices) (p : Policy) → list_for (place_lists s p.ingress p.egress) (type_of g) ≡ places_from (type_of g) 1 (written_rules (policy.rules_of g p) (services_for g s))
  list-is direction.Ingress s p = refl
  list-is direction.Egress s p = refl

  policy-places : (x : PolicyId × Policy) → IsThere x → (n : ℕ) → back (reason.Policy x.0 n) ≡ reason.Policy x.0 (written_place (places_from (type_of d) 1 (written_policy W d x)) n)
  policy-places x there n =
      ap (λ (o : Option PlaceLists). reason.Policy x.0 (place_by o (type_of d) n)) (listed.policies x.0 x.1 there)
      ∙ ap (λ (ps : List ℕ). reason.Policy x.0 (written_place ps n)) (list-is d (services x.0) x.1)

  policy-turned : (x : PolicyId × Policy) → IsThere x → (rest others : List policy.MetRule) → turned back (first_answer rest) ≡ first_answer others → turned back (first_answer (met_policy R d a (policy_record x) ++ rest)) ≡ first_answer (met_written_policy W d a x ++ others)
  policy-turned x there rest others h =
      let why : ℕ → Reason = reason.Policy x.0 in
      let ws = written_policy W d x in
      ap (λ (rs : List Rule). turned back (first_answer (policy.met_rules R a why 1 rs ++ rest))) (record-rules d (services x.0) x.1)
      ∙ rules-turned W R stands sound a back why d ws (rules-low d (services x.0) x.1 (sound.policies x.0 x.1 there)) 1 1 rest others (turns-written back why (places_from (type_of d) 1 ws) (policy-places x there)) h

  policies-turned : (xs : List (PolicyId × Policy)) → AllByRecursion IsThere xs → turned back (first_answer (flat_map (met_policy R d a) (map policy_record xs))) ≡ first_answer (flat_map (met_written_policy W d a) xs)
  policies-turned [] all_there = refl
  policies-turned (x ∷ xs) all_there =
      policy-turned x all_there.0 (flat_map (met_policy R d a) (map policy_record xs)) (flat_map (met_written_policy W d a) xs) (policies-turned xs all_there.1)

  -- ---- tiers

  record-policies : maps.entries R.policies ≡ map policy_record (maps.entries W.plain.policies)
  record-policies = entries-valued policy_total exact_policy (λ id p. lowered_policy (services id) p) R.policies W.plain.policies stands.policies

  applies-same : (e : Endpoint) (x : PolicyId × Policy) → applies R d (policy_record x).1 e ≡ applies W.plain d x.1 e
  applies-same e x = (λ i. holds x.1.selector (same_labels W R stands sound (of_endpoint e) i) && on_same d i)
    where
      on_same : (g : direction.Direction) → is_on g (policy_record x).1 ≡ is_on g x.1
      on_same direction.Ingress = refl
      on_same direction.Egress = refl

  filter-records : (e : Endpoint) (xs : List (PolicyId × Policy)) → filter (λ y. applies R d y.1 e) (map policy_record xs) ≡ map policy_record (filter (λ x. applies W.plain d x.1 e) xs)
  filter-records e [] = refl
  filter-records e (x ∷ xs) =
      (λ i. cond (applies-same e x i) (policy_record x ∷ filter-records e xs i) (filter-records e xs i))
      ∙ by (applies W.plain d x.1 e)
    where
      by : (b : Bool) → cond b (policy_record x ∷ map policy_record (filter (λ y. applies W.plain d y.1 e) xs)) (map policy_record (filter (λ y. applies W.plain d y.1 e) xs)) ≡ map policy_record (cond b (x ∷ filter (λ y. applies W.plain d y.1 e) xs) (filter (λ y. applies W.plain d y.1 e) xs))
      by true = refl
      by false = refl

  applying-records : (e : Endpoint) → applying R d e ≡ map policy_record (applying W.plain d e)
  applying-records e = ap (filter (λ y. applies R d y.1 e)) record-policies ∙ filter-records e (maps.entries W.plain.policies)

  -- a policy at its place
  abbrev placed : PolicyId × Policy → PolicyPlace × (PolicyId × Policy)
  placed x = (place_in W.plain.tiers x, x)

  abbrev placed_record : PolicyPlace × (PolicyId × Policy) → PolicyPlace × (PolicyId × Policy)
  placed_record e = (e.0, policy_record e.1)

  placed-records : (xs : List (PolicyId × Policy)) → map (λ y. (place_in R.tiers y, y)) (map policy_record xs) ≡ map placed_record (map placed xs)
  placed-records [] = refl
  placed-records (x ∷ xs) = (λ i. (place_in (stands.tiers i) (policy_record x), policy_record x) ∷ placed-records xs i)

  abbrev tier_record : TierHead × List (PolicyId × Policy) → TierHead × List (PolicyId × Policy)
  tier_record t = (t.0, map policy_record t.1)

  abbrev written_of : Endpoint → List (TierHead × List (PolicyId × Policy))
  written_of e = tiers_of (map placed (applying W.plain d e))

  tier-records : (e : Endpoint) → tiers_of (map (λ y. (place_in R.tiers y, y)) (applying R d e)) ≡ map tier_record (written_of e)
  tier-records e =
      ap (λ (xs : List (PolicyId × Policy)). tiers_of (map (λ y. (place_in R.tiers y, y)) xs)) (applying-records e)
      ∙ (ap tiers_of (placed-records (applying W.plain d e)) ∙ tiers-map policy_record (map placed (applying W.plain d e)))

  kept_there : (e : Endpoint) (xs : List (PolicyId × Policy)) → AllByRecursion IsThere xs → AllByRecursion IsThere (filter (λ x. applies W.plain d x.1 e) xs)
  kept_there e [] h = tt
  kept_there e (x ∷ xs) h =
      elim (applies W.plain d x.1 e) as (λ b. AllByRecursion IsThere (cond b (x ∷ filter (λ y. applies W.plain d y.1 e) xs) (filter (λ y. applies W.plain d y.1 e) xs))) [
        | true ↦ (h.0, kept_there e xs h.1)
        | false ↦ kept_there e xs h.1
      ]

  all_there : (e : Endpoint) → AllInTiers IsThere (written_of e)
  all_there e =
      tiers_all IsThere (map placed (applying W.plain d e))
      (to_map (λ g. IsThere g.1) placed (applying W.plain d e) (kept_there e (maps.entries W.plain.policies) (entries_found policy_total W.plain.policies)))

  tiers-same : (ts : List (TierHead × List (PolicyId × Policy))) → AllInTiers IsThere ts → SameTiers back keeps (map (met_tier R d a) (map tier_record ts)) (map (written_tier W d a) ts)
  tiers-same [] h = tt
  tiers-same (t ∷ ts) h =
      ((refl, (ap (λ tiers. passes_at_end (maps.get tiers t.0.name)) stands.tiers, policies-turned t.1 h.0)), tiers-same ts h.1)

  -- ---- profiles

  profile-low : (g : direction.Direction) (s : RuleServices) (p : Profile) → are_lowerable s p.ingress p.egress ≡ true → list_all (is_lowerable (type_of g)) (written_rules (policy.side_of g p) (services_for g s)) ≡ true
  profile-low direction.Ingress s p low = first_of (list_all (is_lowerable Ingress) (ingress_of s p.ingress)) (list_all (is_lowerable Egress) (egress_of s p.egress)) low
  profile-low direction.Egress s p low = second_of (list_all (is_lowerable Ingress) (ingress_of s p.ingress)) (list_all (is_lowerable Egress) (egress_of s p.egress)) low

  profile-rules : (g : direction.Direction) (s : RuleServices) (p : Profile) → policy.side_of g (lowered_profile s p) ≡ lowered_rules (type_of g) (written_rules (policy.side_of g p) (services_for g s))
  profile-rules direction.Ingress s p = refl
  profile-rules direction.Egress s p = refl

  profile_list-is : (g : direction.Direction) (s : RuleServices) (p : Profile) → list_for (place_lists s p.ingress p.egress) (type_of g) ≡ places_from (type_of g) 1 (written_rules (policy.side_of g p) (services_for g s))
  profile_list-is direction.Ingress s p = refl
  profile_list-is direction.Egress s p = refl

  profile-there : (name : List ℕ) (p : Profile) → maps.get W.plain.profiles name ≡ Some p → turned back (first_answer (policy.met_rules R a (reason.Profile name) 1 (policy.side_of d (lowered_profile (services_at W (key.Profile name)) p)))) ≡ first_answer (met_written W d a (reason.Profile name) 1 (written_profile W d name p))
  profile-there name p there =
      let why : ℕ → Reason = reason.Profile name in
      let s = services_at W (key.Profile name) in
      let ws = written_profile W d name p in
      let low = second_of (is_unmarked p.labels) (are_lowerable s p.ingress p.egress) (sound.profiles name p there) in
      let places : (n : ℕ) → back (why n) ≡ why (written_place (places_from (type_of d) 1 ws) n) = λ n.
      ap (λ (o : Option PlaceLists). reason.Profile name (place_by o (type_of d) n)) (listed.profiles name p there)
      ∙ ap (λ (ps : List ℕ). reason.Profile name (written_place ps n)) (profile_list-is d s p) in
      ap (λ (rs : List Rule). turned back (first_answer (policy.met_rules R a why 1 rs))) (profile-rules d s p)
      ∙ (ap (λ (rs : List policy.MetRule). turned back (first_answer rs)) (sym (append-nil (policy.met_rules R a why 1 (lowered_rules (type_of d) ws))))
      ∙ (rules-turned W R stands sound a back why d ws (profile-low d s p low) 1 1 [] [] (turns-written back why (places_from (type_of d) 1 ws) places) refl
      ∙ ap first_answer (append-nil (met_written W d a why 1 ws))))

  listed-same : (name : List ℕ) → SameListed back keeps (listed_profile R d a name) (written_listed W d a name)
  listed-same name = by (maps.get W.plain.profiles name) refl
    where
      by : (o : Option Profile) → maps.get W.plain.profiles name ≡ o → SameListed back keeps (listed_profile R d a name) (written_listed W d a name)
      by None e =
          let there : maps.get R.profiles name ≡ None = stands.profiles name ∙ ap (option_map (lowered_profile (services_at W (key.Profile name)))) e in
          rw (there, e) refl
      by (Some p) e =
          let there : maps.get R.profiles name ≡ Some (lowered_profile (services_at W (key.Profile name)) p) = stands.profiles name ∙ ap (option_map (lowered_profile (services_at W (key.Profile name)))) e in
          rw (there, e) (profile-there name p e)

  -- ---- an endpoint

  decision-turned : (e : Endpoint) → turned_decision back (endpoint_verdict R d e a) ≡ written_decision W d e a
  decision-turned e =
      ap (λ (ts : List (TierHead × List (PolicyId × Policy))). turned_decision back (tiers_verdict (map (met_tier R d a) ts) (profiles_verdict (map (listed_profile R d a) e.profiles)))) (tier-records e)
      ∙ tiers-turned back keeps (map (met_tier R d a) (map tier_record (written_of e))) (written_tiers W d e a) (profiles_verdict (map (listed_profile R d a) e.profiles)) (profiles_verdict (map (written_listed W d a) e.profiles)) (tiers-same (written_of e) (all_there e))
      (profiles-turned back keeps (listed_profile R d a) (written_listed W d a) e.profiles listed-same)

  -- ---- an interface

  abbrev turned_given : Option Decision → Option Decision
  turned_given o = option_map (turned_decision back) o

  at-turned : (o : Option Endpoint) → turned_given (verdict_at R d a o) ≡ written_at W d a o
  at-turned None = refl
  at-turned (Some e) = ap Some (decision-turned e)

  free-turned : (b : Bool) → turned_given (unknown_or_free b) ≡ unknown_or_free b
  free-turned true = refl
  free-turned false = refl

  pub side-turned : (iface : List ℕ) (o : Option Endpoint) → turned_given (side_verdict (verdict_at R d a o) iface) ≡ side_verdict (written_at W d a o) iface
  side-turned iface None = free-turned (policy.is_workload iface)
  side-turned iface (Some e) = ap Some (decision-turned e)

-- ---- a packet

module _ (W : Written) (R : Resources) (P : PlacesByKey) (a : Packet) (stands : StandsFor W R) (sound : IsSound W) (listed : PlacesStandFor W P) where
  -- slices run on no node
  not_served : (s : Slice) → is_served R (slice_record s) ≡ false
  not_served s = ap (λ b. R.in_sync && b) (by R.node (subst (λ (n : List ℕ). n ≡ [] → ⊥) (sym stands.node) sound.named)) ∙ nothing_and R.in_sync
    where
      by : (node : List ℕ) → (node ≡ [] → ⊥) → bytes_eq [] node ≡ false
      by [] named = absurd (named refl)
      by (b ∷ bs) named = refl

  served_same : (e : Endpoint) → is_served R e ≡ is_served W.plain e
  served_same e = (λ i. stands.in_sync i && bytes_eq e.node (stands.node i))

  filter-same : (xs : List (ItemKey × Endpoint)) → filter (λ x. is_served R x.1) xs ≡ filter (λ x. is_served W.plain x.1) xs
  filter-same [] = refl
  filter-same (x ∷ xs) = (λ i. cond (served_same x.1 i) (x ∷ filter-same xs i) (filter-same xs i))

  served-are : served_endpoints R ≡ served_endpoints W.plain
  served-are =
      filter-ours item_total exact_item slice_record is_other_item R.endpoints W.plain.endpoints W.slices stands.endpoints (no_slice W R stands sound) (no_endpoint W R stands sound) (λ e. is_served R e) not_served
      ∙ filter-same (maps.entries W.plain.endpoints)

  endpoint-is : (iface : List ℕ) → endpoint_at R iface ≡ endpoint_at W.plain iface
  endpoint-is iface = ap (λ (xs : List (ItemKey × Endpoint)). with_iface xs iface) served-are

  abbrev turned_egress : Option Decision → Option Decision
  turned_egress o = option_map (turned_decision (reason_as_written P Egress)) o

  abbrev turned_ingress : Option Decision → Option Decision
  turned_ingress o = option_map (turned_decision (reason_as_written P Ingress)) o

  with-turned : (why : Option Reason) (o : Option Decision) → as_written P (with_ingress why o) ≡ with_ingress (option_map (reason_as_written P Egress) why) (turned_ingress o)
  with-turned why None = refl
  with-turned why (Some x) = refl

  both-turned : (egress ingress : Option Decision) → as_written P (both_sides egress ingress) ≡ both_sides (turned_egress egress) (turned_ingress ingress)
  both-turned None ingress = with-turned None ingress
  both-turned (Some x) ingress = by x.verdict
    where
      by : (v : Verdict) → as_written P (elim v [ Allow ↦ with_ingress (Some x.why) ingress | Deny ↦ record { verdict = Deny; egress = Some x.why; ingress = None } ]) ≡ elim v [ Allow ↦ with_ingress (Some (reason_as_written P Egress x.why)) (turned_ingress ingress) | Deny ↦ record { verdict = Deny; egress = Some (reason_as_written P Egress x.why); ingress = None } ]
      by Allow = with-turned (Some x.why) ingress
      by Deny = refl

  verdict-turned : as_written P (packet_verdict R a) ≡ written_verdict W a
  verdict-turned =
      both-turned (side_verdict (verdict_at R direction.Egress a (endpoint_at R a.iface_in)) a.iface_in) (side_verdict (verdict_at R direction.Ingress a (endpoint_at R a.iface_out)) a.iface_out)
      ∙ ((λ i. both_sides (side-turned W R P a stands sound listed direction.Egress a.iface_in (endpoint_at R a.iface_in) i) (side-turned W R P a stands sound listed direction.Ingress a.iface_out (endpoint_at R a.iface_out) i))
      ∙ (λ i. both_sides (side_verdict (written_at W direction.Egress a (endpoint-is a.iface_in i)) a.iface_in) (side_verdict (written_at W direction.Ingress a (endpoint-is a.iface_out i)) a.iface_out)))

pub verdict_is_kept : WrittenVerdictIsKept
verdict_is_kept W R P a stands sound listed = verdict-turned W R P a stands sound listed
