-- The services that the rules of a resource name, as Calico's resource reference has them (`projectcalico.org/v3`,
-- EntityRule): the source of a rule for packets to endpoints and the destination of one for packets from them may name
-- a service of Kubernetes in place of all else. Members that aren't named here are ignored.
use Rattle.std.specs.Prelude.{ℕ, List, [], Bool, true, false, not, ◌&&◌, if◌then◌else◌, Option, Some, None, Result, Ok, Err, codes}
use Rattle.serde_json.specs.Data.{Data, null, boolean, number, string, array, object, Items, no_items, item}
use Rattle.fx_base.specs.Given.{is_given}
use Rattle.fx_fields.specs.declared.fault.ReadFault.{ReadFault}
use Rattle.fx_fields.specs.declared.fault.ReadFault.TheVariants.{BadField}
use Rattle.fx_fields.specs.declared.kinds.Kind.{Kind}
use Rattle.fx_fields.specs.declared.kinds.Kind.TheVariants.{Profile, WorkloadEndpoint, Tier, GlobalNetworkPolicy, NetworkPolicy, NetworkSet, GlobalNetworkSet}
use Rattle.fx_fields.specs.declared.kinds.KubernetesKind.{KubernetesKind}
use Rattle.fx_fields.specs.declared.names.NamespacedName.{NamespacedName}
use Rattle.fx_fields.specs.declared.policy_fields.PolicyType.{PolicyType}
use Rattle.fx_fields.specs.declared.policy_fields.PolicyType.TheVariants.{Ingress, Egress}
use Rattle.fx_fields.specs.declared.texts.TextForm.TheVariants.{Name, Namespace}
use Rattle.fx_fields.specs.Fields.{◌>>=◌, Reader, field, has_members, required, defaulted, optional, unread, object_at, section, items}
use Rattle.fx_fields.specs.Forms.{text}
use Rattle.fx_fields.specs.Kinds.{kind_of, kubernetes_kind}
use Rattle.fx_fields.specs.Names.{namespaced_name_in}
use Rattle.fx_fields.specs.Paths.{member_path}
use Rattle.fx_services.specs.declared.services.RuleServices.{RuleServices}

-- ---- beside a service

abbrev pub are_none : Items → Bool
are_none no_items = true
are_none (item d ds) = false

-- a value that asks for nothing
abbrev pub is_empty : Data → Bool
is_empty null = true
is_empty (boolean b) = false
is_empty (number n) = false
is_empty (string s) = not (is_given s)
is_empty (array ds) = are_none ds
is_empty (object ms) = has_members 0 (object ms)

abbrev pub is_empty_at : List ℕ → Data → Bool
is_empty_at key side = of_member (field key side)
  where
    of_member : Option Data → Bool
    of_member None = true
    of_member (Some v) = is_empty v

unfoldable pub asks_no_addresses : Data → Bool
asks_no_addresses side =
    is_empty_at (codes "nets") side
    && (is_empty_at (codes "notNets") side && (is_empty_at (codes "ports") side && is_empty_at (codes "notPorts") side))

unfoldable pub asks_no_selector : Data → Bool
asks_no_selector side =
    is_empty_at (codes "selector") side
    && (is_empty_at (codes "notSelector") side
    && (is_empty_at (codes "namespaceSelector") side && is_empty_at (codes "serviceAccounts") side))

-- a side that asks for nothing but a service
abbrev pub stands_alone : Data → Bool
stands_alone side = asks_no_addresses side && asks_no_selector side

abbrev pub alone : List ℕ → Data → Result (Unit {0}) ReadFault
alone path side = if stands_alone side then Ok tt else Err (BadField path)

-- ---- a service

-- the namespace that is given, or the one that the rule's policy is of; a rule of no namespace has to give one
abbrev pub namespace_of : Option (List ℕ) → Reader (List ℕ)
namespace_of None path d = required (text Namespace) path (codes "namespace") d
namespace_of (Some own) path d = defaulted own (text Namespace) path (codes "namespace") d

unfoldable pub service_fields : Option (List ℕ) → Reader NamespacedName
service_fields own path d = do
  name ← required (text Name) path (codes "name") d
  ns ← namespace_of own path d
  Ok (record { ns = ns; name = name })

-- the service that this side names
unfoldable pub asked_service : Option (List ℕ) → Data → Reader NamespacedName
asked_service own side path d = do
  service ← object_at path d
  _ ← alone path side
  service_fields own path service

-- ---- a side

unfoldable pub service_at : Option (List ℕ) → List ℕ → Data → Result (Option NamespacedName) ReadFault
service_at own path side = optional (asked_service own side) path (codes "services") side

unfoldable pub refused_service : List ℕ → Data → Result (Option NamespacedName) ReadFault
refused_service path side = do
  _ ← optional unread path (codes "services") side
  Ok None

-- a side that may name a service, or may not
abbrev pub service_on : Bool → Option (List ℕ) → List ℕ → Data → Result (Option NamespacedName) ReadFault
service_on true own path side = service_at own path side
service_on false own path side = refused_service path side

unfoldable pub side_service : Bool → Option (List ℕ) → List ℕ → List ℕ → Data → Result (Option NamespacedName) ReadFault
side_service may own path key rule =
    section (member_path path key) key rule >>= service_on may own (member_path path key)

-- ---- a rule

abbrev pub is_ingress : PolicyType → Bool
is_ingress Ingress = true
is_ingress Egress = false

abbrev pub named_for : PolicyType → Option NamespacedName → Option NamespacedName → Option NamespacedName
named_for Ingress source destination = source
named_for Egress source destination = destination

-- packets to an endpoint come from a service, and packets from it go to one
unfoldable pub service_of_rule : PolicyType → Option (List ℕ) → Reader (Option NamespacedName)
service_of_rule direction own path rule = do
  source ← side_service (is_ingress direction) own path (codes "source") rule
  destination ← side_service (not (is_ingress direction)) own path (codes "destination") rule
  Ok (named_for direction source destination)

unfoldable pub rule_service : PolicyType → Option (List ℕ) → Reader (Option NamespacedName)
rule_service direction own path d = object_at path d >>= service_of_rule direction own path

-- ---- a resource

unfoldable pub services_of : Option (List ℕ) → Reader RuleServices
services_of own path spec = do
  ingress ← items (rule_service Ingress own) path (codes "ingress") spec
  egress ← items (rule_service Egress own) path (codes "egress") spec
  Ok (record { ingress = ingress; egress = egress })

unfoldable pub services_in : Option (List ℕ) → Data → Result RuleServices ReadFault
services_in own d = do
  spec ← section (codes "spec") (codes "spec") d
  services_of own (codes "spec") spec

unfoldable pub namespaced_services : Data → Result RuleServices ReadFault
namespaced_services d = do
  named ← namespaced_name_in d
  services_in (Some named.ns) d

abbrev pub no_services : RuleServices
no_services = record { ingress = []; egress = [] }

abbrev pub services_of_kind : Kind → Data → Result RuleServices ReadFault
services_of_kind Profile d = services_in None d
services_of_kind WorkloadEndpoint d = Ok no_services
services_of_kind Tier d = Ok no_services
services_of_kind GlobalNetworkPolicy d = services_in None d
services_of_kind NetworkPolicy d = namespaced_services d
services_of_kind NetworkSet d = Ok no_services
services_of_kind GlobalNetworkSet d = Ok no_services

unfoldable pub calico_services : Data → Result RuleServices ReadFault
calico_services d = do
  kind ← kind_of d
  services_of_kind kind d

-- the services that the rules of a resource name, which only those of Calico's policies and profiles do
abbrev pub resource_services : Data → Result RuleServices ReadFault
resource_services d = by_kind (kubernetes_kind d)
  where
    by_kind : Option KubernetesKind → Result RuleServices ReadFault
    by_kind (Some kind) = Ok no_services
    by_kind None = calico_services d
