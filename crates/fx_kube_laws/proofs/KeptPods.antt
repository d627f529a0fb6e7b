-- What the policy reference says at a pod's endpoint is what Kubernetes says of the pod.
use Rattle.std.proofs.Common.{◌≡◌, ℕ, suc, Bool, true, false, not, ◌&&◌, ◌||◌, cond, List, [], ◌∷◌, ◌++◌, map, Option, Some, None, refl, sym, ap, ◌∙◌, subst, codes}
use Rattle.std.specs.Prelude.{filter, is_some, if◌then◌else◌}
use Rattle.std.specs.List.{list_any, list_all, flat_map, AllByRecursion}
use Rattle.std.specs.Str.{bytes_eq}
use Rattle.std.specs.Cmp.Lexicographic.{slice_cmp}
use Rattle.std.specs.Ordering.{nat_cmp}
use Rattle.std.specs.FinMap as maps
use Rattle.std.specs.declared.cmp.Ordering.TheVariants.{Equal}
use Rattle.fx_base.specs.Same.{same_bytes, both_pass}
use Rattle.fx_selector.specs.Truth.{LabelMap}
use Rattle.fx_model.specs.contracts.ids.PolicyIdOrd.TheImpl as policy_cmp
use Rattle.fx_model.specs.contracts.tier_order.PolicyPlaceOrd.TheImpl as place_cmp
use Rattle.fx_model.specs.declared.chain.Reason.{Reason}
use Rattle.fx_model.specs.declared.chain.Reason.TheVariants as reason
use Rattle.fx_model.specs.declared.ids.PolicyId.{PolicyId}
use Rattle.fx_model.specs.declared.packet.Packet.{Packet}
use Rattle.fx_model.specs.declared.packet.Verdict.TheVariants.{Allow}
use Rattle.fx_model.specs.declared.policy.Policy.{Policy}
use Rattle.fx_model.specs.declared.resources.Profile.{Profile}
use Rattle.fx_model.specs.declared.resources.Resources.{Resources}
use Rattle.fx_model.specs.declared.rules.Action.TheVariants as action
use Rattle.fx_base.specs.declared.net.Proto.{Proto}
use Rattle.fx_model.specs.declared.rules.PortSpec.{PortSpec}
use Rattle.fx_model.specs.declared.rules.Rule.{Rule}
use Rattle.fx_model.specs.declared.tier_order.PolicyPlace.{PolicyPlace}
use Rattle.fx_model.specs.Active.{applies, applying}
use Rattle.fx_model.specs.Directions.{Direction, Ingress, Egress}
use Rattle.fx_model.specs.Policy.{MetRule, Decision, first_answer, after_policies, end_of_tier, passed_or_denied, tiers_verdict, profiles_verdict, profile_verdict, rule_matches, met_rules, there_or_missing, listed_profile, met_policy, met_tier, tiers_for, endpoint_verdict}
use Rattle.fx_model.specs.Policy as policy
use Rattle.fx_model.specs.TierOrder.{TierHead, head_of, passes_at_end, place_in, onto_tiers, tier_by_tier, in_order}
use Rattle.fx_model.proofs.Orders.{policy_total, place_total, exact_place}
use Rattle.fx_fields.specs.declared.names.NamespacedName.{NamespacedName}
use Rattle.fx_fields.specs.declared.policy_fields.PolicyType.{PolicyType}
use Rattle.fx_fields.specs.declared.policy_fields.PolicyType.TheVariants as listed
use Rattle.fx_json.specs.Kubernetes as kubernetes
use Rattle.fx_json.specs.Policies.{kept}
use Rattle.fx_k8s.specs.declared.entries.PortEntry.{PortEntry}
use Rattle.fx_k8s.specs.declared.entries.Protocol.{Protocol}
use Rattle.fx_k8s.specs.declared.entries.Protocol.TheVariants.{Tcp, Udp, Sctp}
use Rattle.fx_k8s.specs.declared.peers.Peer.{Peer}
use Rattle.fx_k8s.specs.declared.policies.NetworkPolicy.{NetworkPolicy}
use Rattle.fx_k8s.specs.declared.policy_rules.PolicyRule.{PolicyRule}
use Rattle.fx_k8s.specs.Clusters.{endpoint_of, policy_entry, IsConverted, begin_with, IsPodOf, asks_plainly, is_plain_rule, is_plain_policy, IsPlain}
use Rattle.fx_k8s.specs.Conversion.{asked_side, allow_rule, is_of, ports_of, proto_of, protocol_rules, peer_rules, rules_of_peers, converted_rule, converted_rules, converted_policy}
use Rattle.fx_k8s.specs.KubeVerdict.{Pod, Cluster, selects, namespace_labels, rule_allows, rules_of, isolates, is_isolated, is_allowed, pod_takes}
use Rattle.fx_k8s.specs.Profiles.{namespace_profile}
use Rattle.fx_kube_laws.proofs.Chain.{HasLabels, verdict_if, direction_of, PoliciesApplyToTheSame, PodsAreKept}
use Rattle.fx_kube_laws.proofs.Collecting.{keys-collected, values-collected, AreApart, AreOthers, any-collected, entries-others, some-others}
use Rattle.fx_kube_laws.proofs.KeptLabels.{namespace_there, labels_are_kept}
use Rattle.fx_kube_laws.proofs.KeptRules.{rules_are_kept}
use Rattle.fx_kube_laws.proofs.KeptSelectors.{policies_select_the_same}
use Rattle.fx_kube_laws.proofs.Lists.{unmoved_and, any-map, any-flat_map, any-same, each, every, tested, to_map}

-- ---- which policies apply

turned : (s n o : Bool) → ((s && n) && o) ≡ (n && (o && s))
turned true true true = refl
turned true true false = refl
turned true false o = refl
turned false true true = refl
turned false true false = refl
turned false false o = refl

pub policies_apply_to_the_same : PoliciesApplyToTheSame
policies_apply_to_the_same K R Ingress pod x has plain =
    ap (λ b. b && x.1.on_ingress) (policies_select_the_same K R pod x.0.ns x.1.pods has plain)
    ∙ turned (selects x.1.pods pod.labels) (bytes_eq pod.ns x.0.ns) x.1.on_ingress
policies_apply_to_the_same K R Egress pod x has plain =
    ap (λ b. b && x.1.on_egress) (policies_select_the_same K R pod x.0.ns x.1.pods has plain)
    ∙ turned (selects x.1.pods pod.labels) (bytes_eq pod.ns x.0.ns) x.1.on_egress

-- ---- rules that allow

abbrev Allows : MetRule → Type 0
Allows r = r.action ≡ action.Allow

-- where rules only allow, one that matches allows, and else the end of the tier denies
answer-verdict : (name : List ℕ) (rest : Decision) (rs : List MetRule) → AllByRecursion Allows rs → (after_policies (first_answer rs) (end_of_tier name) rest).verdict ≡ verdict_if (list_any (λ r. r.matches) rs)
answer-verdict name rest [] h = refl
answer-verdict name rest (r ∷ rs) h =
    elim r.matches as (λ b. (after_policies (elim b [ true ↦ policy.answer_of r.action r.why (first_answer rs) | false ↦ first_answer rs ]) (end_of_tier name) rest).verdict ≡ verdict_if (b || list_any (λ r. r.matches) rs)) [
      | true ↦ ap (λ x. (after_policies (policy.answer_of x r.why (first_answer rs)) (end_of_tier name) rest).verdict) h.0
      | false ↦ answer-verdict name rest rs h.1
    ]

met-any : (R : Resources) (a : Packet) (why : ℕ → Reason) (n : ℕ) (rs : List Rule) → list_any (λ r. r.matches) (met_rules R a why n rs) ≡ list_any (λ r. rule_matches R r a) rs
met-any R a why n [] = refl
met-any R a why n (r ∷ rs) = ap (λ b. rule_matches R r a || b) (met-any R a why (suc n) rs)

abbrev OnlyAllow : List Rule → Type 0
OnlyAllow rs = AllByRecursion (λ (r : Rule). r.action ≡ action.Allow) rs

met-allow : (R : Resources) (a : Packet) (why : ℕ → Reason) (n : ℕ) (rs : List Rule) → OnlyAllow rs → AllByRecursion Allows (met_rules R a why n rs)
met-allow R a why n [] h = tt
met-allow R a why n (r ∷ rs) h = (h.0, met-allow R a why (suc n) rs h.1)

allow-both : (P : MetRule → Type 0) (rs qs : List MetRule) → AllByRecursion P rs → AllByRecursion P qs → AllByRecursion P (rs ++ qs)
allow-both P [] qs h g = g
allow-both P (r ∷ rs) qs h g = (h.0, allow-both P rs qs h.1 g)

-- ---- one tier

-- no cluster defines a tier, so that of its policies denies at its end
abbrev default_tier : TierHead
default_tier = record { name = codes "default"; pass_at_end = false }

abbrev InDefault : PolicyPlace × (PolicyId × Policy) → Type 0
InDefault e = head_of e.0 ≡ default_tier

abbrev values : List (PolicyPlace × (PolicyId × Policy)) → List (PolicyId × Policy)
values [] = []
values (e ∷ es) = e.1 ∷ values es

-- policies of one tier stand in that tier
one-tier : (e : PolicyPlace × (PolicyId × Policy)) (es : List (PolicyPlace × (PolicyId × Policy))) → AllByRecursion InDefault (e ∷ es) → tier_by_tier (e ∷ es) ≡ (default_tier, values (e ∷ es)) ∷ []
one-tier e [] h = ap (λ (t : TierHead). (t, e.1 ∷ []) ∷ []) h.0
one-tier e (g ∷ es) h =
    ap (onto_tiers (head_of e.0) e.1) (one-tier g es h.1)
    ∙ ap (λ (t : TierHead). onto_tiers t e.1 ((default_tier, values (g ∷ es)) ∷ [])) h.0

-- ---- tests of some

any-filter : {A : Type 0} (p g : A → Bool) (xs : List A) → list_any g (filter p xs) ≡ list_any (λ x. p x && g x) xs
any-filter p g [] = refl
any-filter p g (x ∷ xs) = by (p x) (any-filter p g xs)
  where
    by : (b : Bool) → list_any g (filter p xs) ≡ list_any (λ y. p y && g y) xs → list_any g (cond b (x ∷ filter p xs) (filter p xs)) ≡ ((b && g x) || list_any (λ y. p y && g y) xs)
    by true rest = ap (λ b. g x || b) rest
    by false rest = rest

filter-all : {A : Type 0} (P : A → Type 0) (p : A → Bool) (xs : List A) → AllByRecursion P xs → AllByRecursion P (filter p xs)
filter-all P p [] h = tt
filter-all P p (x ∷ xs) h =
    elim (p x) as (λ b. AllByRecursion P (cond b (x ∷ filter p xs) (filter p xs))) [
      | true ↦ (h.0, filter-all P p xs h.1)
      | false ↦ filter-all P p xs h.1
    ]

any-values : (g : PolicyId × Policy → Bool) (es : List (PolicyPlace × (PolicyId × Policy))) → list_any g (values es) ≡ list_any (λ e. g e.1) es
any-values g [] = refl
any-values g (e ∷ es) = ap (λ b. g e.1 || b) (any-values g es)

abbrev is_true : PolicyId × Policy → Bool
is_true x = true

-- ---- rules that are made

made-allow : (t : PolicyType) (ns : List ℕ) (o : Option Peer) (proto : Option Proto) (ports : List PortSpec) → (allow_rule t (asked_side ns o) proto ports).action ≡ action.Allow
made-allow listed.Ingress ns o proto ports = refl
made-allow listed.Egress ns o proto ports = refl

rules-both : (rs qs : List Rule) → OnlyAllow rs → OnlyAllow qs → OnlyAllow (rs ++ qs)
rules-both [] qs h g = g
rules-both (r ∷ rs) qs h g = (h.0, rules-both rs qs h.1 g)

rules-each : {A : Type 0} (f : A → List Rule) → ((x : A) → OnlyAllow (f x)) → (xs : List A) → OnlyAllow (flat_map f xs)
rules-each f h [] = tt
rules-each f h (x ∷ xs) = rules-both (f x) (flat_map f xs) (h x) (rules-each f h xs)

module _ (t : PolicyType) (ns : List ℕ) where
  protocol-allow : (es : List PortEntry) (o : Option Peer) (p : Protocol) → OnlyAllow (protocol_rules t ns es o p)
  protocol-allow es o p = by (list_any (is_of p) es)
    where
      by : (b : Bool) → OnlyAllow (if b then allow_rule t (asked_side ns o) (Some (proto_of p)) (ports_of p es) ∷ [] else [])
      by true = (made-allow t ns o (Some (proto_of p)) (ports_of p es), tt)
      by false = tt

  peer-allow : (es : List PortEntry) (o : Option Peer) → OnlyAllow (peer_rules t ns es o)
  peer-allow [] o = (made-allow t ns o None [], tt)
  peer-allow (e ∷ es) o =
      rules-both (protocol_rules t ns (e ∷ es) o Tcp) (protocol_rules t ns (e ∷ es) o Udp ++ protocol_rules t ns (e ∷ es) o Sctp) (protocol-allow (e ∷ es) o Tcp)
      (rules-both (protocol_rules t ns (e ∷ es) o Udp) (protocol_rules t ns (e ∷ es) o Sctp) (protocol-allow (e ∷ es) o Udp) (protocol-allow (e ∷ es) o Sctp))

  peers-allow : (es : List PortEntry) (ps : List Peer) → OnlyAllow (rules_of_peers t ns es ps)
  peers-allow es [] = peer-allow es None
  peers-allow es (p ∷ ps) = rules-each (λ q. peer_rules t ns es (Some q)) (λ q. peer-allow es (Some q)) (p ∷ ps)

  rules-allow : (rs : List PolicyRule) → OnlyAllow (converted_rules t ns rs)
  rules-allow rs = rules-each (converted_rule t ns) (λ r. peers-allow r.ports r.peers) rs

  kept-allow : (on : Bool) (rs : List PolicyRule) → OnlyAllow (kept on (converted_rules t ns rs))
  kept-allow true rs = rules-allow rs
  kept-allow false rs = tt

converted-allow : (d : Direction) (ns : List ℕ) (p : NetworkPolicy) → OnlyAllow (policy.rules_of d (converted_policy ns p))
converted-allow Ingress ns p = kept-allow listed.Ingress ns p.on_ingress p.ingress
converted-allow Egress ns p = kept-allow listed.Egress ns p.on_egress p.egress

module _ (K : Cluster) (R : Resources) (d : Direction) (pod : Pod) (a : Packet) (converted : IsConverted K R) (plain : IsPlain K) (is : IsPodOf K pod) where
  has : HasLabels K R pod
  has = labels_are_kept K R pod converted is

  abbrev in_place : PolicyId × Policy → PolicyPlace × (PolicyId × Policy)
  in_place x = (place_in R.tiers x, x)

  abbrev those : List (PolicyId × Policy)
  those = applying R d (endpoint_of pod)

  abbrev ordered : List (PolicyPlace × (PolicyId × Policy))
  ordered = in_order (map in_place those)

  -- ---- policies have places of their own, all in one tier

  places-apart : (xs : List (PolicyId × Policy)) → AreOthers policy_cmp.cmp-value.it policy_total xs → AreApart place_cmp.cmp-value.it (map in_place xs)
  places-apart [] h = tt
  places-apart (x ∷ xs) h = (
    to_map (λ (g : PolicyPlace × (PolicyId × Policy)). place_cmp.cmp-value.it g.0 (place_in R.tiers x) ≡ Equal → ⊥) in_place xs
        (each (λ (y : PolicyId × Policy). y.0 ≡ x.0 → ⊥) (λ y. place_cmp.cmp-value.it (place_in R.tiers y) (place_in R.tiers x) ≡ Equal → ⊥) (λ y n tied. n (ap (λ (p : PolicyPlace). p.id) (exact_place (place_in R.tiers y) (place_in R.tiers x) tied))) xs h.0),
    places-apart xs h.1,
  )

  apart : AreApart place_cmp.cmp-value.it (map in_place those)
  apart = places-apart those (some-others policy_cmp.cmp-value.it policy_total (λ x. applies R d x.1 (endpoint_of pod)) (maps.entries R.policies) (entries-others policy_cmp.cmp-value.it policy_total R.policies))

  -- a cluster defines no tier
  no-tier : (name : List ℕ) → maps.get R.tiers name ≡ None
  no-tier name = maps.get-entries R.tiers name ∙ ap (maps.find (slice_cmp nat_cmp) name) converted.tiers

  abbrev OfDefault : PolicyId × Policy → Type 0
  OfDefault x = head_of (place_in R.tiers x) ≡ default_tier

  all-default : AllByRecursion OfDefault (maps.entries R.policies)
  all-default =
      subst (AllByRecursion OfDefault) (sym converted.policies) (to_map OfDefault policy_entry K.policies (every (λ x. OfDefault (policy_entry x)) (λ x i. record { name = codes "default"; pass_at_end = passes_at_end (no-tier (codes "default") i) }) K.policies))

  ordered-default : AllByRecursion InDefault ordered
  ordered-default =
      keys-collected place_cmp.cmp-value.it (λ (p : PolicyPlace). head_of p ≡ default_tier) place_total (map in_place those)
      (to_map InDefault in_place those (filter-all OfDefault (λ x. applies R d x.1 (endpoint_of pod)) (maps.entries R.policies) all-default))

  -- ---- what some policy that applies does

  any-ordered : (g : PolicyId × Policy → Bool) → list_any (λ e. g e.1) ordered ≡ list_any (λ x. applies R d x.1 (endpoint_of pod) && g x) (maps.entries R.policies)
  any-ordered g =
      any-collected place_cmp.cmp-value.it g place_total (map in_place those) apart
      ∙ any-map (λ (e : PolicyPlace × (PolicyId × Policy)). g e.1) in_place those
      ∙ any-filter (λ x. applies R d x.1 (endpoint_of pod)) g (maps.entries R.policies)

  any-policy : (g : PolicyId × Policy → Bool) → list_any (λ e. g e.1) ordered ≡ list_any (λ x. applies R d (policy_entry x).1 (endpoint_of pod) && g (policy_entry x)) K.policies
  any-policy g =
      any-ordered g
      ∙ ap (list_any (λ x. applies R d x.1 (endpoint_of pod) && g x)) converted.policies
      ∙ any-map (λ x. applies R d x.1 (endpoint_of pod) && g x) policy_entry K.policies

  abbrev IsPlainPolicy : NamespacedName × NetworkPolicy → Type 0
  IsPlainPolicy x = is_plain_policy x ≡ true

  plain-policies : AllByRecursion IsPlainPolicy K.policies
  plain-policies = tested is_plain_policy K.policies plain.policies

  applies-same : (x : NamespacedName × NetworkPolicy) → IsPlainPolicy x → applies R d (policy_entry x).1 (endpoint_of pod) ≡ isolates d pod x
  applies-same x h = policies_apply_to_the_same K R d pod x has (both_pass (asks_plainly x.1.pods) (list_all is_plain_rule x.1.ingress && list_all is_plain_rule x.1.egress) h).0

  isolated-same : list_any (λ e. is_true e.1) ordered ≡ is_isolated K d pod
  isolated-same =
      any-policy is_true
      ∙ any-same (λ x. applies R d (policy_entry x).1 (endpoint_of pod) && true) (isolates d pod) K.policies
      (each IsPlainPolicy (λ x. (applies R d (policy_entry x).1 (endpoint_of pod) && true) ≡ isolates d pod x) (λ x h. unmoved_and (applies R d (policy_entry x).1 (endpoint_of pod)) ∙ applies-same x h) K.policies plain-policies)

  -- ---- what its rules allow

  abbrev matching : PolicyId × Policy → Bool
  matching x = list_any (λ r. rule_matches R r a) (policy.rules_of d x.1)

  rules-same : (x : NamespacedName × NetworkPolicy) → IsPlainPolicy x → (isolates d pod x && matching (policy_entry x)) ≡ (isolates d pod x && list_any (rule_allows K x.0.ns d a) (rules_of d x.1))
  rules-same x h = by d
    where
      tests : (list_all is_plain_rule x.1.ingress ≡ true) × (list_all is_plain_rule x.1.egress ≡ true)
      tests = both_pass (list_all is_plain_rule x.1.ingress) (list_all is_plain_rule x.1.egress) (both_pass (asks_plainly x.1.pods) (list_all is_plain_rule x.1.ingress && list_all is_plain_rule x.1.egress) h).1

      each-rule : (t : PolicyType) (rs : List PolicyRule) → list_all is_plain_rule rs ≡ true → list_any (λ r. rule_matches R r a) (converted_rules t x.0.ns rs) ≡ list_any (rule_allows K x.0.ns (direction_of t) a) rs
      each-rule t rs g =
          any-flat_map (λ r. rule_matches R r a) (converted_rule t x.0.ns) rs
          ∙ any-same (λ r. list_any (λ q. rule_matches R q a) (converted_rule t x.0.ns r)) (rule_allows K x.0.ns (direction_of t) a) rs
          (each (λ r. is_plain_rule r ≡ true) (λ r. list_any (λ q. rule_matches R q a) (converted_rule t x.0.ns r) ≡ rule_allows K x.0.ns (direction_of t) a r) (λ r f. rules_are_kept K R x.0.ns t a r converted plain f) rs (tested is_plain_rule rs g))

      -- where the direction is off, nothing is isolated
      off : (n s p q : Bool) → ((n && (false && s)) && p) ≡ ((n && (false && s)) && q)
      off true s p q = refl
      off false s p q = refl

      by_ingress : (on : Bool) → ((bytes_eq pod.ns x.0.ns && (on && selects x.1.pods pod.labels)) && list_any (λ r. rule_matches R r a) (kept on (converted_rules listed.Ingress x.0.ns x.1.ingress))) ≡ ((bytes_eq pod.ns x.0.ns && (on && selects x.1.pods pod.labels)) && list_any (rule_allows K x.0.ns Ingress a) x.1.ingress)
      by_ingress true = ap (λ b. (bytes_eq pod.ns x.0.ns && selects x.1.pods pod.labels) && b) (each-rule listed.Ingress x.1.ingress tests.0)
      by_ingress false = off (bytes_eq pod.ns x.0.ns) (selects x.1.pods pod.labels) _ _

      by_egress : (on : Bool) → ((bytes_eq pod.ns x.0.ns && (on && selects x.1.pods pod.labels)) && list_any (λ r. rule_matches R r a) (kept on (converted_rules listed.Egress x.0.ns x.1.egress))) ≡ ((bytes_eq pod.ns x.0.ns && (on && selects x.1.pods pod.labels)) && list_any (rule_allows K x.0.ns Egress a) x.1.egress)
      by_egress true = ap (λ b. (bytes_eq pod.ns x.0.ns && selects x.1.pods pod.labels) && b) (each-rule listed.Egress x.1.egress tests.1)
      by_egress false = off (bytes_eq pod.ns x.0.ns) (selects x.1.pods pod.labels) _ _

      by : (c : Direction) → (isolates c pod x && list_any (λ r. rule_matches R r a) (policy.rules_of c (policy_entry x).1)) ≡ (isolates c pod x && list_any (rule_allows K x.0.ns c a) (rules_of c x.1))
      by Ingress = by_ingress x.1.on_ingress
      by Egress = by_egress x.1.on_egress

  allowed-same : list_any (λ e. matching e.1) ordered ≡ is_allowed K d pod a
  allowed-same =
      any-policy matching
      ∙ any-same (λ x. applies R d (policy_entry x).1 (endpoint_of pod) && matching (policy_entry x)) (λ x. isolates d pod x && list_any (rule_allows K x.0.ns d a) (rules_of d x.1)) K.policies
      (each IsPlainPolicy (λ x. (applies R d (policy_entry x).1 (endpoint_of pod) && matching (policy_entry x)) ≡ (isolates d pod x && list_any (rule_allows K x.0.ns d a) (rules_of d x.1))) (λ x h. ap (λ b. b && matching (policy_entry x)) (applies-same x h) ∙ rules-same x h) K.policies plain-policies)

  -- ---- rules only allow

  abbrev PolicyAllows : PolicyId × Policy → Type 0
  PolicyAllows x = OnlyAllow (policy.rules_of d x.1)

  met-policies : (xs : List (PolicyId × Policy)) → list_any (λ r. r.matches) (flat_map (met_policy R d a) xs) ≡ list_any matching xs
  met-policies xs =
      any-flat_map (λ (r : MetRule). r.matches) (met_policy R d a) xs
      ∙ any-same (λ x. list_any (λ r. r.matches) (met_policy R d a x)) matching xs (every (λ x. list_any (λ r. r.matches) (met_policy R d a x) ≡ matching x) (λ x. met-any R a (reason.Policy x.0) 1 (policy.rules_of d x.1)) xs)

  all-allow : (xs : List (PolicyId × Policy)) → AllByRecursion PolicyAllows xs → AllByRecursion Allows (flat_map (met_policy R d a) xs)
  all-allow [] h = tt
  all-allow (x ∷ xs) h =
      allow-both Allows (met_policy R d a x) (flat_map (met_policy R d a) xs) (met-allow R a (reason.Policy x.0) 1 (policy.rules_of d x.1) h.0) (all-allow xs h.1)

  -- ---- profiles

  -- a namespace allows all
  profiles-allow : (ps : List (List ℕ)) → pod.profiles ≡ ps → begin_with pod.ns ps ≡ true → (m : LabelMap) → namespace_labels K pod.ns ≡ Some m → (profiles_verdict (map (listed_profile R d a) ps)).verdict ≡ Allow
  profiles-allow [] e h m there = cc
  profiles-allow (p ∷ ps) e h m there =
      ap (λ (o : Option Profile). (profile_verdict (there_or_missing R d a p o) (profiles_verdict (map (listed_profile R d a) ps))).verdict) found ∙ by d
    where
      name : p ≡ kubernetes.namespace_profile pod.ns
      name = same_bytes p (kubernetes.namespace_profile pod.ns) (both_pass _ _ h).0

      found : maps.get R.profiles p ≡ Some (namespace_profile m)
      found = ap (maps.get R.profiles) name ∙ namespace_there K R converted pod.ns m there

      by : (c : Direction) → (profile_verdict (there_or_missing R c a p (Some (namespace_profile m))) (profiles_verdict (map (listed_profile R d a) ps))).verdict ≡ Allow
      by Ingress = refl
      by Egress = refl

  open_pod : (profiles_verdict (map (listed_profile R d a) pod.profiles)).verdict ≡ Allow
  open_pod = by (namespace_labels K pod.ns) refl is.namespace
    where
      by : (o : Option LabelMap) → namespace_labels K pod.ns ≡ o → is_some o ≡ true → (profiles_verdict (map (listed_profile R d a) pod.profiles)).verdict ≡ Allow
      by None e h = cc
      by (Some m) e h = profiles-allow pod.profiles refl is.profiles m e

  -- ---- both

  abbrev rest : Decision
  rest = profiles_verdict (map (listed_profile R d a) pod.profiles)

  -- of policies in order, which only allow
  verdict-of : (es : List (PolicyPlace × (PolicyId × Policy))) → AllByRecursion InDefault es → AllByRecursion (λ (e : PolicyPlace × (PolicyId × Policy)). PolicyAllows e.1) es → (tiers_verdict (map (met_tier R d a) (tier_by_tier es)) rest).verdict ≡ verdict_if (not (list_any (λ e. is_true e.1) es) || list_any (λ e. matching e.1) es)
  verdict-of [] h g = open_pod
  verdict-of (e ∷ es) h g =
      ap (λ (ts : List (TierHead × List (PolicyId × Policy))). (tiers_verdict (map (met_tier R d a) ts) rest).verdict) (one-tier e es h)
      ∙ ap (λ o. (after_policies (first_answer (flat_map (met_policy R d a) (values (e ∷ es)))) (passed_or_denied (passes_at_end o) (codes "default") rest) rest).verdict) (no-tier (codes "default"))
      ∙ answer-verdict (codes "default") rest (flat_map (met_policy R d a) (values (e ∷ es))) (all-allow (values (e ∷ es)) (values-allow (e ∷ es) g))
      ∙ ap verdict_if (met-policies (values (e ∷ es)) ∙ any-values matching (e ∷ es))
    where
      values-allow : (es : List (PolicyPlace × (PolicyId × Policy))) → AllByRecursion (λ (e : PolicyPlace × (PolicyId × Policy)). PolicyAllows e.1) es → AllByRecursion PolicyAllows (values es)
      values-allow [] f = tt
      values-allow (x ∷ xs) f = (f.0, values-allow xs f.1)

  -- the policies that a cluster has only allow
  only-allow : AllByRecursion (λ (e : PolicyPlace × (PolicyId × Policy)). PolicyAllows e.1) ordered
  only-allow =
      values-collected place_cmp.cmp-value.it PolicyAllows place_total (map in_place those)
      (to_map (λ (e : PolicyPlace × (PolicyId × Policy)). PolicyAllows e.1) in_place those
      (filter-all PolicyAllows (λ x. applies R d x.1 (endpoint_of pod)) (maps.entries R.policies)
      (subst (AllByRecursion PolicyAllows) (sym converted.policies) (to_map PolicyAllows policy_entry K.policies (every (λ x. PolicyAllows (policy_entry x)) (λ x. converted-allow d x.0.ns x.1) K.policies)))))

  pub pod_is_kept : (endpoint_verdict R d (endpoint_of pod) a).verdict ≡ verdict_if (pod_takes K d pod a)
  pod_is_kept =
      verdict-of ordered ordered-default only-allow
      ∙ (λ i. verdict_if (not (isolated-same i) || allowed-same i))

pub pods_are_kept : PodsAreKept
pods_are_kept K R d pod a converted plain is = pod_is_kept K R d pod a converted plain is
