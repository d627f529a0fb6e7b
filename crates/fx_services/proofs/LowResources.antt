-- Each resource that is read may be lowered beside the services that its rules name.
use Rattle.std.proofs.Common.{◌≡◌, ℕ, List, [], ◌∷◌, Bool, true, false, ◌&&◌, Option, Some, None, Ok, IfOk, refl, subst}
use Rattle.std.specs.Prelude.{codes}
use Rattle.std.specs.List.{list_all}
use Rattle.serde_json.specs.Data.{Data}
use Rattle.fx_base.specs.Given.{is_given}
use Rattle.fx_model.specs.declared.policy.Policy.{Policy}
use Rattle.fx_model.specs.declared.resources.Profile.{Profile}
use Rattle.fx_model.specs.declared.resources.Update.{Update}
use Rattle.fx_model.specs.declared.rules.Rule.{Rule}
use Rattle.fx_fields.specs.declared.kinds.Kind.{Kind}
use Rattle.fx_fields.specs.declared.kinds.Kind.TheVariants.{Profile as AProfile, WorkloadEndpoint, Tier as ATier, GlobalNetworkPolicy, NetworkPolicy, NetworkSet, GlobalNetworkSet}
use Rattle.fx_fields.specs.declared.kinds.KubernetesKind.{KubernetesKind}
use Rattle.fx_fields.specs.declared.kinds.KubernetesKind.TheVariants as kubernetes
use Rattle.fx_fields.specs.declared.names.NamespacedName.{NamespacedName}
use Rattle.fx_fields.specs.declared.policy_fields.PolicyType.{PolicyType}
use Rattle.fx_fields.specs.declared.policy_fields.PolicyType.TheVariants.{Ingress, Egress}
use Rattle.fx_fields.specs.declared.rule_form.RuleForm.{RuleForm}
use Rattle.fx_fields.specs.declared.rule_form.RulePlace.TheVariants.{OfPolicy, OfNamespace, OfProfile}
use Rattle.fx_fields.specs.declared.rule_form.Services.{Services}
use Rattle.fx_fields.specs.declared.rule_form.Services.TheVariants.{PassedOver}
use Rattle.fx_fields.specs.Fields.{section, items}
use Rattle.fx_fields.specs.Kinds.{kind_of, kubernetes_kind}
use Rattle.fx_fields.specs.Labels.{labels_at}
use Rattle.fx_fields.specs.Metadata.{metadata_in, global_metadata_in}
use Rattle.fx_fields.specs.Names.{name_in, namespaced_name_in}
use Rattle.fx_fields.specs.PolicyFields.{place_of, flags, policy_type, directions_of}
use Rattle.fx_fields.specs.Selectors.{global_selector, namespaced_selector}
use Rattle.fx_fields.proofs.NameTexts.{IsNamespaced, namespaced_name_in-if}
use Rattle.fx_fields.proofs.Readings.{then-if, read-if, weaker-if, both, first_of, second_of}
use Rattle.fx_json.specs.Endpoints.{endpoint_in, endpoint_put}
use Rattle.fx_json.specs.NetSets.{nets_in, net_set_put, global_set_put}
use Rattle.fx_json.specs.Policies.{kept, rules_of, global_policy, namespaced_policy, tier_in, tier_put, global_policy_in, global_policy_put, namespaced_policy_in, namespaced_policy_put}
use Rattle.fx_json.specs.Resources.{profile_of, profile_in, profile_put, put_of, resource_with}
use Rattle.fx_json.specs.Rules.{form_in, rule}
use Rattle.fx_k8s.specs.Conversion.{converted_policy}
use Rattle.fx_k8s.specs.Policies.{policy_in, policy_put}
use Rattle.fx_k8s.specs.Profiles.{namespace_put, account_put}
use Rattle.fx_k8s.specs.Puts.{kubernetes_put, put_with}
use Rattle.fx_k8s.proofs.ReadForms.{IsFormedPolicy, policy_in-formed}
use Rattle.fx_services.specs.declared.lowered.Resource.{Resource}
use Rattle.fx_services.specs.declared.services.RuleServices.{RuleServices}
use Rattle.fx_services.specs.Lowering.{written_rules}
use Rattle.fx_services.specs.Lowerable.{is_lowerable_rule, is_lowerable, are_lowerable, is_lowerable_update}
use Rattle.fx_services.specs.Marks.{unmarked}
use Rattle.fx_services.specs.Reading.{read_resource}
use Rattle.fx_services.specs.Services.{rule_service, services_of, services_in, namespaced_services, no_services, services_of_kind, calico_services, resource_services}
use Rattle.fx_services.proofs.AloneSides.{read_as, IsOwn}
use Rattle.fx_services.proofs.LowKubernetes.{policy-low}
use Rattle.fx_services.proofs.LowRules.{same-read, AreLowered, RulesFit, rules-low}

abbrev IsPolicyOf : RuleServices → Policy → Type 0
IsPolicyOf services p = are_lowerable services p.ingress p.egress ≡ true

abbrev IsProfileOf : RuleServices → Profile → Type 0
IsProfileOf services p = are_lowerable services p.ingress p.egress ≡ true

abbrev IsUpdateOf : RuleServices → Update → Type 0
IsUpdateOf services u = is_lowerable_update services u ≡ true

-- ---- the rules of a policy

kept-low : (direction : PolicyType) (on : Bool) (rules : List Rule) (services : List (Option NamespacedName)) → AreLowered direction services rules → AreLowered direction services (kept on rules)
kept-low direction true rules services e = e
kept-low direction false rules services e = refl

-- the rules of a policy beside the services that they name
abbrev PolicyFits : RuleForm → List ℕ → Data → RuleServices → Type 0
PolicyFits form path d services = IfOk (rules_of form path d) (λ r. are_lowerable services r.ingress r.egress ≡ true)

policy-given : (form : RuleForm) (path : List ℕ) (d : Data) (services : RuleServices) → RulesFit form Ingress path (codes "ingress") d services.ingress → RulesFit form Egress path (codes "egress") d services.egress → PolicyFits form path d services
unfolding rules_of
policy-given form path d services to from =
    then-if (λ r. are_lowerable services r.ingress r.egress ≡ true) (items policy_type path (codes "types") d) _ (λ types _.
    then-if (λ r. are_lowerable services r.ingress r.egress ≡ true) (items (rule form) path (codes "ingress") d) _ (λ ingress ingress_read.
    then-if (λ r. are_lowerable services r.ingress r.egress ≡ true) (items (rule form) path (codes "egress") d) _ (λ egress egress_read.
    let on = directions_of types (is_given ingress) (is_given egress) in
    both (list_all (is_lowerable Ingress) (written_rules (kept on.on_ingress ingress) services.ingress)) (list_all (is_lowerable Egress) (written_rules (kept on.on_egress egress) services.egress))
    (kept-low Ingress on.on_ingress ingress services.ingress (read-if (AreLowered Ingress services.ingress) (items (rule form) path (codes "ingress") d) ingress to ingress_read))
    (kept-low Egress on.on_egress egress services.egress (read-if (AreLowered Egress services.egress) (items (rule form) path (codes "egress") d) egress from egress_read)))))

module _ (own : Option (List ℕ)) (h : IsOwn own) where
  -- what holds of the services that are read of both lists
  services-each : (P : RuleServices → Type 0) (form : RuleForm) (path : List ℕ) (d : Data) → ((services : RuleServices) → RulesFit form Ingress path (codes "ingress") d services.ingress → RulesFit form Egress path (codes "egress") d services.egress → P services) → IfOk (services_of own path d) P
  unfolding services_of
  services-each P form path d gives =
      then-if P (items (rule_service Ingress own) path (codes "ingress") d) _ (λ to to_read.
      then-if P (items (rule_service Egress own) path (codes "egress") d) _ (λ from from_read.
      gives (record { ingress = to; egress = from })
      (read-if (RulesFit form Ingress path (codes "ingress") d) (items (rule_service Ingress own) path (codes "ingress") d) to (rules-low form own h Ingress path (codes "ingress") d) to_read)
      (read-if (RulesFit form Egress path (codes "egress") d) (items (rule_service Egress own) path (codes "egress") d) from (rules-low form own h Egress path (codes "egress") d) from_read)))

  policy-services : (form : RuleForm) (path : List ℕ) (d : Data) → IfOk (services_of own path d) (PolicyFits form path d)
  policy-services form path d = services-each (PolicyFits form path d) form path d (policy-given form path d)

  -- what holds of services by the `spec` that they are read of
  services_in-each : (P : RuleServices → Type 0) (Q : Data → RuleServices → Type 0) (d : Data) → ((spec : Data) → IfOk (services_of own (codes "spec") spec) (Q spec)) → ((spec : Data) → section (codes "spec") (codes "spec") d ≡ Ok spec → (services : RuleServices) → Q spec services → P services) → IfOk (services_in own d) P
  unfolding services_in
  services_in-each P Q d each gives =
      then-if P (section (codes "spec") (codes "spec") d) (services_of own (codes "spec")) (λ spec spec_read.
      weaker-if (Q spec) P (services_of own (codes "spec") spec) (gives spec spec_read) (each spec))

-- ---- policies

module _ (passed : Services) where
  abbrev of_all : RuleForm
  of_all = form_in OfPolicy passed

  global-low : (path : List ℕ) (d : Data) (services : RuleServices) → PolicyFits of_all path d services → IfOk (global_policy passed path d) (IsPolicyOf services)
  unfolding global_policy
  global-low path d services fit =
      then-if (IsPolicyOf services) (place_of path d) _ (λ place _.
      then-if (IsPolicyOf services) (global_selector path d) _ (λ selector _.
      then-if (IsPolicyOf services) (rules_of of_all path d) _ (λ rules rules_read.
      then-if (IsPolicyOf services) (flags path d) _ (λ unset _.
      read_as (rules_of of_all path d) (λ r. are_lowerable services r.ingress r.egress ≡ true) rules fit rules_read))))

  global_in-low : (d spec : Data) → section (codes "spec") (codes "spec") d ≡ Ok spec → (services : RuleServices) → PolicyFits of_all (codes "spec") spec services → IfOk (global_policy_in passed d) (IsPolicyOf services)
  unfolding global_policy_in
  global_in-low d spec spec_read services fit =
      then-if (IsPolicyOf services) (section (codes "spec") (codes "spec") d) (global_policy passed (codes "spec")) (λ other other_read.
      let same : spec ≡ other = same-read (section (codes "spec") (codes "spec") d) spec other spec_read other_read in
      let Q : Data → Type 0 = λ x. IfOk (global_policy passed (codes "spec") x) (IsPolicyOf services) in
      subst Q same (global-low (codes "spec") spec services fit))

  abbrev GlobalFits : Data → RuleServices → Type 0
  GlobalFits d services = IfOk (global_policy_put passed d) (IsUpdateOf services)

  global_put-low : (d spec : Data) → section (codes "spec") (codes "spec") d ≡ Ok spec → (services : RuleServices) → PolicyFits of_all (codes "spec") spec services → GlobalFits d services
  unfolding global_policy_put
  global_put-low d spec spec_read services fit =
      then-if (IsUpdateOf services) (name_in d) _ (λ name _.
      then-if (IsUpdateOf services) (global_policy_in passed d) _ (λ policy policy_read.
      read-if (IsPolicyOf services) (global_policy_in passed d) policy (global_in-low d spec spec_read services fit) policy_read))

  pub global-services : (d : Data) → IfOk (services_in None d) (GlobalFits d)
  global-services d = services_in-each None tt (GlobalFits d) (PolicyFits of_all (codes "spec")) d (policy-services None tt of_all (codes "spec")) (global_put-low d)

  module _ (ns : List ℕ) where
    abbrev of_one : RuleForm
    of_one = form_in (OfNamespace ns) passed

    namespaced-low : (path : List ℕ) (d : Data) (services : RuleServices) → PolicyFits of_one path d services → IfOk (namespaced_policy passed ns path d) (IsPolicyOf services)
    unfolding namespaced_policy
    namespaced-low path d services fit =
        then-if (IsPolicyOf services) (place_of path d) _ (λ place _.
        then-if (IsPolicyOf services) (namespaced_selector ns path d) _ (λ selector _.
        then-if (IsPolicyOf services) (rules_of of_one path d) _ (λ rules rules_read.
        read_as (rules_of of_one path d) (λ r. are_lowerable services r.ingress r.egress ≡ true) rules fit rules_read)))

    namespaced_in-low : (d spec : Data) → section (codes "spec") (codes "spec") d ≡ Ok spec → (services : RuleServices) → PolicyFits of_one (codes "spec") spec services → IfOk (namespaced_policy_in passed ns d) (IsPolicyOf services)
    unfolding namespaced_policy_in
    namespaced_in-low d spec spec_read services fit =
        then-if (IsPolicyOf services) (section (codes "spec") (codes "spec") d) (namespaced_policy passed ns (codes "spec")) (λ other other_read.
        let same : spec ≡ other = same-read (section (codes "spec") (codes "spec") d) spec other spec_read other_read in
        let Q : Data → Type 0 = λ x. IfOk (namespaced_policy passed ns (codes "spec") x) (IsPolicyOf services) in
        subst Q same (namespaced-low (codes "spec") spec services fit))

  abbrev NamespacedFits : Data → RuleServices → Type 0
  NamespacedFits d services = IfOk (namespaced_policy_put passed d) (IsUpdateOf services)

  namespaced_put-low : (d : Data) (named : NamespacedName) → namespaced_name_in d ≡ Ok named → (spec : Data) → section (codes "spec") (codes "spec") d ≡ Ok spec → (services : RuleServices) → PolicyFits (of_one named.ns) (codes "spec") spec services → NamespacedFits d services
  unfolding namespaced_policy_put
  namespaced_put-low d named named_read spec spec_read services fit =
      then-if (IsUpdateOf services) (namespaced_name_in d) _ (λ other other_read.
      let same : named ≡ other = same-read (namespaced_name_in d) named other named_read other_read in
      let Q : NamespacedName → Type 0 = λ x. IfOk (namespaced_policy_in passed x.ns d) (IsPolicyOf services) in
      let low : IfOk (namespaced_policy_in passed other.ns d) (IsPolicyOf services) = subst Q same (namespaced_in-low named.ns d spec spec_read services fit) in
      then-if (IsUpdateOf services) (namespaced_policy_in passed other.ns d) _ (λ policy policy_read.
      read-if (IsPolicyOf services) (namespaced_policy_in passed other.ns d) policy low policy_read))

  pub namespaced-services : (d : Data) → IfOk (namespaced_services d) (NamespacedFits d)
  unfolding namespaced_services
  namespaced-services d =
      then-if (NamespacedFits d) (namespaced_name_in d) _ (λ named named_read.
      let own : IsNamespaced named = read-if IsNamespaced (namespaced_name_in d) named (namespaced_name_in-if d) named_read in
      services_in-each (Some named.ns) own (NamespacedFits d) (PolicyFits (of_one named.ns) (codes "spec")) d (policy-services (Some named.ns) own (of_one named.ns) (codes "spec")) (namespaced_put-low d named named_read))

  -- ---- profiles

  abbrev of_profile : RuleForm
  of_profile = form_in OfProfile passed

  abbrev ProfileFits : List ℕ → Data → RuleServices → Type 0
  ProfileFits path d services = IfOk (profile_of passed path d) (IsProfileOf services)

  profile-given : (path : List ℕ) (d : Data) (services : RuleServices) → RulesFit of_profile Ingress path (codes "ingress") d services.ingress → RulesFit of_profile Egress path (codes "egress") d services.egress → ProfileFits path d services
  unfolding profile_of
  profile-given path d services to from =
      then-if (IsProfileOf services) (items (rule of_profile) path (codes "ingress") d) _ (λ ingress ingress_read.
      then-if (IsProfileOf services) (items (rule of_profile) path (codes "egress") d) _ (λ egress egress_read.
      then-if (IsProfileOf services) (labels_at path (codes "labelsToApply") d) _ (λ labels _.
      both (list_all (is_lowerable Ingress) (written_rules ingress services.ingress)) (list_all (is_lowerable Egress) (written_rules egress services.egress))
      (read-if (AreLowered Ingress services.ingress) (items (rule of_profile) path (codes "ingress") d) ingress to ingress_read)
      (read-if (AreLowered Egress services.egress) (items (rule of_profile) path (codes "egress") d) egress from egress_read))))

  profile_in-low : (d spec : Data) → section (codes "spec") (codes "spec") d ≡ Ok spec → (services : RuleServices) → ProfileFits (codes "spec") spec services → IfOk (profile_in passed d) (IsProfileOf services)
  unfolding profile_in
  profile_in-low d spec spec_read services fit =
      then-if (IsProfileOf services) (section (codes "spec") (codes "spec") d) (profile_of passed (codes "spec")) (λ other other_read.
      let same : spec ≡ other = same-read (section (codes "spec") (codes "spec") d) spec other spec_read other_read in
      let Q : Data → Type 0 = λ x. ProfileFits (codes "spec") x services in
      subst Q same fit)

  abbrev ProfilePutFits : Data → RuleServices → Type 0
  ProfilePutFits d services = IfOk (profile_put passed d) (IsUpdateOf services)

  profile_put-low : (d spec : Data) → section (codes "spec") (codes "spec") d ≡ Ok spec → (services : RuleServices) → ProfileFits (codes "spec") spec services → ProfilePutFits d services
  unfolding profile_put
  profile_put-low d spec spec_read services fit =
      then-if (IsUpdateOf services) (name_in d) _ (λ name _.
      then-if (IsUpdateOf services) (profile_in passed d) _ (λ profile profile_read.
      read-if (IsProfileOf services) (profile_in passed d) profile (profile_in-low d spec spec_read services fit) profile_read))

  pub profile-services : (d : Data) → IfOk (services_in None d) (ProfilePutFits d)
  profile-services d =
      services_in-each None tt (ProfilePutFits d) (ProfileFits (codes "spec")) d (λ spec. services-each None tt (ProfileFits (codes "spec") spec) of_profile (codes "spec") spec (profile-given (codes "spec") spec)) (profile_put-low d)

  -- ---- other kinds

  endpoint-low : (services : RuleServices) (d : Data) → IfOk (endpoint_put d) (IsUpdateOf services)
  unfolding endpoint_put
  endpoint-low services d =
      then-if (IsUpdateOf services) (metadata_in d) _ (λ about _.
      then-if (IsUpdateOf services) (endpoint_in about.labels about.named.ns d) _ (λ endpoint _. refl))

  tier-low : (services : RuleServices) (d : Data) → IfOk (tier_put d) (IsUpdateOf services)
  unfolding tier_put
  tier-low services d =
      then-if (IsUpdateOf services) (name_in d) _ (λ name _.
      then-if (IsUpdateOf services) (tier_in d) _ (λ tier _. refl))

  net_set-low : (services : RuleServices) (d : Data) → IfOk (net_set_put d) (IsUpdateOf services)
  unfolding net_set_put
  net_set-low services d =
      then-if (IsUpdateOf services) (metadata_in d) _ (λ about _.
      then-if (IsUpdateOf services) (nets_in d) _ (λ nets _. refl))

  global_set-low : (services : RuleServices) (d : Data) → IfOk (global_set_put d) (IsUpdateOf services)
  unfolding global_set_put
  global_set-low services d =
      then-if (IsUpdateOf services) (global_metadata_in d) _ (λ about _.
      then-if (IsUpdateOf services) (nets_in d) _ (λ nets _. refl))

  -- ---- resources of Calico

  abbrev KindFits : Kind → Data → RuleServices → Type 0
  KindFits kind d services = IfOk (put_of passed kind d) (IsUpdateOf services)

  kind-low : (kind : Kind) (d : Data) → IfOk (services_of_kind kind d) (KindFits kind d)
  kind-low AProfile d = profile-services d
  kind-low WorkloadEndpoint d = endpoint-low no_services d
  kind-low ATier d = tier-low no_services d
  kind-low GlobalNetworkPolicy d = global-services d
  kind-low NetworkPolicy d = namespaced-services d
  kind-low NetworkSet d = net_set-low no_services d
  kind-low GlobalNetworkSet d = global_set-low no_services d

  abbrev CalicoFits : Data → RuleServices → Type 0
  CalicoFits d services = IfOk (resource_with passed d) (IsUpdateOf services)

  calico-given : (d : Data) (kind : Kind) → kind_of d ≡ Ok kind → (services : RuleServices) → KindFits kind d services → CalicoFits d services
  unfolding resource_with
  calico-given d kind kind_read services fit =
      then-if (IsUpdateOf services) (kind_of d) _ (λ other other_read.
      let same : kind ≡ other = same-read (kind_of d) kind other kind_read other_read in
      let Q : Kind → Type 0 = λ x. KindFits x d services in
      subst Q same fit)

  pub calico-low : (d : Data) → IfOk (calico_services d) (CalicoFits d)
  unfolding calico_services
  calico-low d =
      then-if (CalicoFits d) (kind_of d) _ (λ kind kind_read.
      weaker-if (KindFits kind d) (CalicoFits d) (services_of_kind kind d) (calico-given d kind kind_read) (kind-low kind d))

-- ---- resources of Kubernetes

-- rules that name no services
plain-low : (direction : PolicyType) (rs : List Rule) → list_all is_lowerable_rule rs ≡ true → AreLowered direction [] rs
plain-low direction [] e = refl
plain-low direction (r ∷ rs) e =
    both (is_lowerable_rule r && true) (list_all (is_lowerable direction) (written_rules rs []))
    (both (is_lowerable_rule r) true (first_of (is_lowerable_rule r) (list_all is_lowerable_rule rs) e) refl)
    (plain-low direction rs (second_of (is_lowerable_rule r) (list_all is_lowerable_rule rs) e))

namespace-low : (d : Data) → IfOk (namespace_put d) (IsUpdateOf no_services)
unfolding namespace_put
namespace-low d = then-if (IsUpdateOf no_services) (global_metadata_in d) _ (λ about _. refl)

account-low : (d : Data) → IfOk (account_put d) (IsUpdateOf no_services)
unfolding account_put
account-low d = then-if (IsUpdateOf no_services) (metadata_in d) _ (λ about _. refl)

converted-low : (d : Data) → IfOk (policy_put d) (IsUpdateOf no_services)
unfolding policy_put
converted-low d =
    then-if (IsUpdateOf no_services) (namespaced_name_in d) _ (λ named _.
    then-if (IsUpdateOf no_services) (policy_in d) _ (λ policy policy_read.
    let low = policy-low named.ns policy (read-if IsFormedPolicy (policy_in d) policy (policy_in-formed d) policy_read) in
    let made = converted_policy named.ns policy in
    both (list_all (is_lowerable Ingress) (written_rules made.ingress [])) (list_all (is_lowerable Egress) (written_rules made.egress []))
    (plain-low Ingress made.ingress low.0) (plain-low Egress made.egress low.1)))

kubernetes-low : (kind : KubernetesKind) (d : Data) → IfOk (kubernetes_put kind d) (IsUpdateOf no_services)
kubernetes-low kubernetes.Namespace d = namespace-low d
kubernetes-low kubernetes.ServiceAccount d = account-low d
kubernetes-low kubernetes.NetworkPolicy d = converted-low d

-- ---- all resources

abbrev PutFits : Data → RuleServices → Type 0
PutFits d services = IfOk (put_with PassedOver d) (IsUpdateOf services)

put-low : (d : Data) → IfOk (resource_services d) (PutFits d)
unfolding put_with
put-low d =
    elim (kubernetes_kind d) as (λ o. IfOk (elim o [ Some kind ↦ Ok no_services | None ↦ calico_services d ]) (λ services. IfOk (elim o [ Some kind ↦ kubernetes_put kind d | None ↦ resource_with PassedOver d ]) (IsUpdateOf services))) [
      | Some kind ↦ kubernetes-low kind d
      | None ↦ calico-low PassedOver d
    ]

-- a resource that may be lowered
abbrev pub IsLowerable : Resource → Type 0
IsLowerable r = is_lowerable_update r.services r.plain ≡ true

pub read_resource-low : (d : Data) → IfOk (read_resource d) IsLowerable
unfolding read_resource
read_resource-low d =
    then-if IsLowerable (put_with PassedOver d) _ (λ plain plain_read.
    then-if IsLowerable (resource_services d) _ (λ services services_read.
    then-if IsLowerable (unmarked (kubernetes_kind d) plain) _ (λ x _.
    let fit : PutFits d services = read-if (PutFits d) (resource_services d) services (put-low d) services_read in
    read-if (IsUpdateOf services) (put_with PassedOver d) plain fit plain_read)))
