-- The verdicts of some packets, computed: two pods of one namespace on one node, and policies of this namespace or another.
use Rattle.std.proofs.Common.{◌≡◌, ℕ, List, [], ◌∷◌, Bool, true, false, Option, Some, None, refl, codes, lit≤}
use Rattle.std.specs.FinMap as maps
use Rattle.fx_base.specs.Nets.{around}
use Rattle.fx_base.specs.declared.net.NetText.TheVariants.{V4, V6}
use Rattle.fx_selector.specs.Truth.{LabelMap}
use Rattle.fx_model.specs.declared.packet.Packet.{Packet}
use Rattle.fx_model.specs.declared.packet.State.TheVariants.{New}
use Rattle.fx_model.specs.declared.packet.Verdict.{Verdict}
use Rattle.fx_model.specs.declared.packet.Verdict.TheVariants.{Allow, Deny}
use Rattle.fx_model.specs.declared.resources.EndpointPort.{EndpointPort}
use Rattle.fx_model.specs.declared.rules.PortSpec.{PortSpec}
use Rattle.fx_model.specs.declared.rules.PortSpec.TheVariants.{Number, Named}
use Rattle.fx_fields.specs.declared.names.NamespacedName.{NamespacedName}
use Rattle.fx_fields.specs.Values.{range}
use Rattle.fx_k8s.specs.declared.entries.PortEntry.{PortEntry}
use Rattle.fx_k8s.specs.declared.entries.Protocol.{Protocol}
use Rattle.fx_k8s.specs.declared.entries.Protocol.TheVariants.{Tcp, Udp, Sctp}
use Rattle.fx_k8s.specs.declared.expressions.Expression.{Expression}
use Rattle.fx_k8s.specs.declared.expressions.Expression.TheVariants.{In, NotIn, Exists, DoesNotExist}
use Rattle.fx_k8s.specs.declared.peers.Peer.{Peer}
use Rattle.fx_k8s.specs.declared.peers.Peer.TheVariants.{Block, Pods}
use Rattle.fx_k8s.specs.declared.policies.NetworkPolicy.{NetworkPolicy}
use Rattle.fx_k8s.specs.declared.policy_rules.PolicyRule.{PolicyRule}
use Rattle.fx_k8s.specs.LabelSelectors.{pair, any_labels}
use Rattle.fx_k8s.specs.KubeVerdict.{Pod, Cluster, selects, kubernetes_verdict}

-- ---- two pods

abbrev pod : List ℕ → List ℕ → ℕ → LabelMap → List EndpointPort → Pod
pod name iface address labels ports = record {
  ns = codes "prod";
  name = name;
  node = codes "n1";
  iface = iface;
  labels = labels;
  account = None;
  orchestrator = Some (codes "k8s");
  addresses = record { 0 = address } ∷ [];
  profiles = codes "kns.prod" ∷ [];
  ports = ports;
}

-- a port `pg` of TCP
abbrev pg : ℕ → EndpointPort
pg number = record { name = codes "pg"; proto = record { 0 = 6 }; number = number }

-- `web` at 10.0.0.1, whose port `pg` is 6000, and `db` at 10.0.0.2, whose port `pg` is 5432
abbrev web : LabelMap → Pod
web labels = pod (codes "web") (codes "cali1") 0x0a000001 labels (pg 6000 ∷ [])

abbrev db : LabelMap → Pod
db labels = pod (codes "db") (codes "cali2") 0x0a000002 labels (pg 5432 ∷ [])

abbrev labelled : LabelMap → LabelMap → List (NamespacedName × NetworkPolicy) → Cluster
labelled of_db of_web policies = record {
  node = codes "n1";
  namespaces = (codes "prod", maps.empty) ∷ [];
  accounts = [];
  policies = policies;
  pods = db of_db ∷ web of_web ∷ [];
}

abbrev cluster : List (NamespacedName × NetworkPolicy) → Cluster
cluster policies = labelled maps.empty maps.empty policies

-- ---- packets

abbrev packet : List ℕ → List ℕ → ℕ → ℕ → ℕ → ℕ → Packet
packet from to src dst proto dport = record {
  iface_in = from;
  iface_out = to;
  src = record { 0 = src };
  dst = record { 0 = dst };
  proto = record { 0 = proto };
  sport = 40000;
  dport = dport;
  icmp_kind = 0;
  icmp_code = 0;
  state = New;
}

abbrev web_to_db : ℕ → ℕ → Packet
web_to_db proto dport = packet (codes "cali1") (codes "cali2") 0x0a000001 0x0a000002 proto dport

-- from outside of the node, from this address
abbrev from_outside : ℕ → Packet
from_outside src = packet (codes "eth0") (codes "cali2") src 0x0a000002 6 5432

-- ---- policies

abbrev named : List ℕ → List ℕ → NamespacedName
named ns name = record { ns = ns; name = name }

-- for ingress alone, with these rules, for all pods
abbrev ingress : List PolicyRule → NetworkPolicy
ingress rules = record { pods = any_labels; on_ingress = true; on_egress = false; ingress = rules; egress = [] }

abbrev egress : List PolicyRule → NetworkPolicy
egress rules = record { pods = any_labels; on_ingress = false; on_egress = true; ingress = []; egress = rules }

abbrev in_prod : NetworkPolicy → NamespacedName × NetworkPolicy
in_prod policy = (named (codes "prod") (codes "p"), policy)

abbrev rule : List Peer → List PortEntry → PolicyRule
rule peers ports = record { peers = peers; ports = ports }

abbrev entry : Protocol → Option PortSpec → PortEntry
entry protocol port = record { protocol = protocol; port = port }

abbrev one : NetworkPolicy → Packet → Verdict
one policy a = kubernetes_verdict (cluster (in_prod policy ∷ [])) a

-- ---- without policies, and with one that has no rules

no_policy_allows : kubernetes_verdict (cluster []) (web_to_db 6 5432) ≡ Allow
no_policy_allows = refl

no_rule_denies : one (ingress []) (web_to_db 6 5432) ≡ Deny
no_rule_denies = refl

other_direction_stays_open : one (ingress []) (packet (codes "cali1") (codes "eth0") 0x0a000001 0xc0000201 6 443) ≡ Allow
other_direction_stays_open = refl

other_namespace_isolates_nothing : kubernetes_verdict (cluster ((named (codes "test") (codes "p"), ingress []) ∷ [])) (web_to_db 6 5432) ≡ Allow
other_namespace_isolates_nothing = refl

-- ---- peers and entries

no_peers_and_no_entries_allow : one (ingress (rule [] [] ∷ [])) (web_to_db 1 0) ≡ Allow
no_peers_and_no_entries_allow = refl

all_pods_of_the_namespace : one (ingress (rule (Pods (record { pods = Some any_labels; namespaces = None }) ∷ []) [] ∷ [])) (web_to_db 6 5432) ≡ Allow
all_pods_of_the_namespace = refl

and_nobody_else : one (ingress (rule (Pods (record { pods = Some any_labels; namespaces = None }) ∷ []) [] ∷ [])) (from_outside 0xc0000201) ≡ Deny
and_nobody_else = refl

-- 192.0.2.0/24 without 192.0.2.128/25
abbrev outside : Peer
outside = Block (record { cidr = V4 (around 0xc0000200 24 (lit≤ tt)); except = around 0xc0000280 25 (lit≤ tt) ∷ [] })

block_allows : one (ingress (rule (outside ∷ []) [] ∷ [])) (from_outside 0xc0000201) ≡ Allow
block_allows = refl

but_not_what_it_excepts : one (ingress (rule (outside ∷ []) [] ∷ [])) (from_outside 0xc0000281) ≡ Deny
but_not_what_it_excepts = refl

block_of_ipv6_allows_nothing : one (ingress (rule (Block (record { cidr = V6; except = [] }) ∷ []) [] ∷ [])) (from_outside 0xc0000201) ≡ Deny
block_of_ipv6_allows_nothing = refl

-- ---- ports

named_port_of_where_it_goes : one (ingress (rule [] (entry Tcp (Some (Named (codes "pg"))) ∷ []) ∷ [])) (web_to_db 6 5432) ≡ Allow
named_port_of_where_it_goes = refl

and_of_no_other_pod : one (ingress (rule [] (entry Tcp (Some (Named (codes "pg"))) ∷ []) ∷ [])) (web_to_db 6 6000) ≡ Deny
and_of_no_other_pod = refl

last_port_of_a_range : one (ingress (rule [] (entry Udp (Some (Number (range 1000 1010))) ∷ []) ∷ [])) (web_to_db 17 1010) ≡ Allow
last_port_of_a_range = refl

one_port_beyond : one (ingress (rule [] (entry Udp (Some (Number (range 1000 1010))) ∷ []) ∷ [])) (web_to_db 17 1011) ≡ Deny
one_port_beyond = refl

another_protocol : one (ingress (rule [] (entry Sctp None ∷ []) ∷ [])) (web_to_db 6 5432) ≡ Deny
another_protocol = refl

protocol_without_a_port : one (ingress (rule [] (entry Sctp None ∷ []) ∷ [])) (web_to_db 132 9) ≡ Allow
protocol_without_a_port = refl

-- ---- several policies, and both sides

policies_add_up : kubernetes_verdict (cluster (in_prod (ingress []) ∷ in_prod (ingress (rule [] [] ∷ [])) ∷ [])) (web_to_db 6 5432) ≡ Allow
policies_add_up = refl

both_sides_have_to_take_it : kubernetes_verdict (cluster (in_prod (egress []) ∷ in_prod (ingress (rule [] [] ∷ [])) ∷ [])) (web_to_db 6 5432) ≡ Deny
both_sides_have_to_take_it = refl

-- ---- other interfaces

workload_without_a_pod : kubernetes_verdict (cluster []) (packet (codes "cali9") (codes "eth0") 0x0a000009 0xc0000201 6 443) ≡ Deny
workload_without_a_pod = refl

not_of_workloads : one (ingress []) (packet (codes "eth0") (codes "eth1") 0xc0000201 0xc0000202 6 443) ≡ Allow
not_of_workloads = refl

-- ---- labels

-- `db` has the label `app` with value `db`, and none of key `env`
module _ (of_db : LabelMap) (is_db : maps.get of_db (codes "app") ≡ Some (codes "db")) (no_env : maps.get of_db (codes "env") ≡ None) where
  abbrev asks : Expression → Bool
  asks x = selects (record { labels = []; expressions = x ∷ [] }) of_db

  label_is : selects (record { labels = pair (codes "app") (codes "db") ∷ []; expressions = [] }) of_db ≡ true
  label_is = rw is_db refl

  label_is_not : selects (record { labels = pair (codes "app") (codes "web") ∷ []; expressions = [] }) of_db ≡ false
  label_is_not = rw is_db refl

  listed : asks (In (codes "app") (codes "web" ∷ codes "db" ∷ [])) ≡ true
  listed = rw is_db refl

  absent_is_not_listed : asks (In (codes "env") (codes "test" ∷ [])) ≡ false
  absent_is_not_listed = rw no_env refl

  absent_is_not_in : asks (NotIn (codes "env") (codes "test" ∷ [])) ≡ true
  absent_is_not_in = rw no_env refl

  listed_is_not_not_in : asks (NotIn (codes "app") (codes "db" ∷ [])) ≡ false
  listed_is_not_not_in = rw is_db refl

  there : asks (Exists (codes "app")) ≡ true
  there = rw is_db refl

  not_there : asks (DoesNotExist (codes "env")) ≡ true
  not_there = rw no_env refl

  -- a policy that selects `db` alone isolates `db` and not `web`
  abbrev for_db : NetworkPolicy
  for_db = record { pods = record { labels = pair (codes "app") (codes "db") ∷ []; expressions = [] }; on_ingress = true; on_egress = false; ingress = []; egress = [] }

  isolates_what_it_selects : kubernetes_verdict (labelled of_db maps.empty (in_prod for_db ∷ [])) (web_to_db 6 5432) ≡ Deny
  isolates_what_it_selects = rw is_db refl
