-- The forms that keys and records have by themselves. A rule that lists ports has a protocol with ports, and one that asks for a
-- message of ICMP has protocol ICMP, since iptables-extensions(8) can test these matches for no other; no rule of a profile passes;
-- a name of an interface has at most 15 bytes, as the kernel bounds it (IFNAMSIZ); and a namespace holds no `/`, as Kubernetes has
-- it. In a view a profile's key fits behind a chain's prefix. Apart from these forms, Calico's interfaces of workloads begin with
-- `cali`.
use Rattle.std.specs.Prelude.{ℕ, List, Bool, true, false, not, ◌&&◌, ◌||◌, ◌==◌, nat_le, nat_eq, length, Option, Some, None, is_some}
use Rattle.std.specs.List.{list_all}
use Rattle.std.specs.Str.{bytes_eq}
use Rattle.std.specs.FinMap as maps
use Rattle.fx_base.specs.declared.net.Proto.{Proto}
use Rattle.fx_base.specs.Given.{is_given}
use Rattle.fx_model.specs.declared.rules.Action.{Action}
use Rattle.fx_model.specs.declared.rules.Action.TheVariants.{Allow, Deny, Log, Pass}
use Rattle.fx_model.specs.declared.rules.Rule.{Rule}
use Rattle.fx_model.specs.declared.rules.Side.{Side}
use Rattle.fx_model.specs.declared.rules.PortSpec.{PortSpec}
use Rattle.fx_model.specs.declared.rules.PortSpec.TheVariants.{Number, Named}
use Rattle.fx_selector.specs.Tree.{Tree, height}
use Rattle.fx_selector.specs.Formed.{is_tree}
use Rattle.fx_model.specs.declared.ids.ItemKey.{ItemKey}
use Rattle.fx_model.specs.declared.ids.ItemKey.TheVariants as item_key
use Rattle.fx_model.specs.declared.ids.PolicyId.{PolicyId}
use Rattle.fx_model.specs.declared.ids.PolicyId.TheVariants.{Global, Namespaced, Kube}
use Rattle.fx_model.specs.declared.ids.Key.{Key}
use Rattle.fx_model.specs.declared.ids.Key.TheVariants as key
use Rattle.fx_model.specs.declared.policy.Policy.{Policy}
use Rattle.fx_model.specs.declared.resources.Endpoint.{Endpoint}
use Rattle.fx_model.specs.declared.resources.Profile.{Profile}
use Rattle.fx_model.specs.declared.resources.Item.{Item}
use Rattle.fx_model.specs.declared.resources.Item.TheVariants as item
use Rattle.fx_model.specs.declared.resources.Update.{Update}
use Rattle.fx_model.specs.declared.resources.Update.TheVariants as update
use Rattle.fx_model.specs.declared.resources.Resources.{Resources}
use Rattle.fx_model.specs.declared.view_rule.ViewRule.{ViewRule}
use Rattle.fx_model.specs.declared.view.View.{View}
use Rattle.fx_model.specs.declared.view.ViewEndpoint.{ViewEndpoint}
use Rattle.fx_model.specs.declared.view.ViewProfile.{ViewProfile}
use Rattle.fx_model.specs.Criteria.{has_ports, icmp_number}
use Rattle.fx_model.specs.Policy.{is_workload}

-- ---- rules

abbrev pub implies : Bool → Bool → Bool
implies a b = not a || b

abbrev pub has_port_protocol : Option Proto → Bool
has_port_protocol None = false
has_port_protocol (Some p) = has_ports p.0

abbrev pub has_icmp_protocol : Option Proto → Bool
has_icmp_protocol None = false
has_icmp_protocol (Some p) = nat_eq p.0 icmp_number

abbrev pub lists_ports : Rule → Bool
lists_ports r =
    (is_given r.source.ports || is_given r.source.not_ports) || (is_given r.destination.ports || is_given r.destination.not_ports)

-- a port's name has no comma, and a selector is one that some text spells, with a level to spare below the highest that there are
abbrev pub is_formed_port_name : List ℕ → Bool
is_formed_port_name name = list_all (λ b. not (b == 44)) name

abbrev pub is_formed_port : PortSpec → Bool
is_formed_port (Number range) = true
is_formed_port (Named name) = is_formed_port_name name

abbrev pub is_formed_selector : Option Tree → Bool
is_formed_selector None = true
is_formed_selector (Some t) = is_tree t && nat_le (height t) 139

abbrev pub is_formed_side : Side → Bool
is_formed_side s =
    (is_formed_selector s.selector && is_formed_selector s.not_selector) && (list_all is_formed_port s.ports && list_all is_formed_port s.not_ports)

-- the protocol is one that has what the rule asks for
abbrev pub has_its_protocol : Rule → Bool
has_its_protocol r =
    implies (lists_ports r) (has_port_protocol r.protocol) && implies (is_some r.icmp || is_some r.not_icmp) (has_icmp_protocol r.protocol)

abbrev pub is_formed_rule : Rule → Bool
is_formed_rule r = has_its_protocol r && (is_formed_side r.source && is_formed_side r.destination)

abbrev pub passes : Action → Bool
passes Allow = false
passes Deny = false
passes Log = false
passes Pass = true

abbrev pub is_formed_profile_rule : Rule → Bool
is_formed_profile_rule r = is_formed_rule r && not (passes r.action)

abbrev pub is_formed_profile : Profile → Bool
is_formed_profile p = list_all is_formed_profile_rule p.ingress && list_all is_formed_profile_rule p.egress

abbrev pub is_formed_policy : Policy → Bool
is_formed_policy p = list_all is_formed_rule p.ingress && list_all is_formed_rule p.egress

-- the same of rules as they are rendered
abbrev pub lists_view_ports : ViewRule → Bool
lists_view_ports r =
    (is_given r.source.ports || is_given r.source.not_ports) || (is_given r.destination.ports || is_given r.destination.not_ports)

abbrev pub is_formed_view_rule : ViewRule → Bool
is_formed_view_rule r =
    implies (lists_view_ports r) (has_port_protocol r.protocol) && implies (is_some r.icmp || is_some r.not_icmp) (has_icmp_protocol r.protocol)

abbrev pub is_formed_view_profile_rule : ViewRule → Bool
is_formed_view_profile_rule r = is_formed_view_rule r && not (passes r.action)

-- ---- keys

-- no byte is `/`
abbrev pub is_formed_namespace : List ℕ → Bool
is_formed_namespace ns = list_all (λ b. not (b == 47)) ns

abbrev pub is_formed_item_key : ItemKey → Bool
is_formed_item_key (item_key.Endpoint ns name) = is_formed_namespace ns
is_formed_item_key (item_key.NetSet (Some ns) name) = is_formed_namespace ns
is_formed_item_key (item_key.NetSet None name) = true

abbrev pub is_formed_policy_id : PolicyId → Bool
is_formed_policy_id (Global name) = true
is_formed_policy_id (Namespaced ns name) = is_formed_namespace ns
is_formed_policy_id (Kube ns name) = is_formed_namespace ns

abbrev pub is_formed_key : Key → Bool
is_formed_key (key.Item k) = is_formed_item_key k
is_formed_key (key.Profile name) = true
is_formed_key (key.Tier name) = true
is_formed_key (key.Policy id) = is_formed_policy_id id

-- ---- resources

abbrev pub is_formed_endpoint : Endpoint → Bool
is_formed_endpoint e = nat_le (length e.iface) 15

abbrev pub is_endpoint_key : Key → Bool
is_endpoint_key (key.Item (item_key.Endpoint ns name)) = true
is_endpoint_key (key.Item (item_key.NetSet ns name)) = false
is_endpoint_key (key.Profile name) = false
is_endpoint_key (key.Tier name) = false
is_endpoint_key (key.Policy id) = false

abbrev pub is_net_set_key : Key → Bool
is_net_set_key (key.Item (item_key.Endpoint ns name)) = false
is_net_set_key (key.Item (item_key.NetSet ns name)) = true
is_net_set_key (key.Profile name) = false
is_net_set_key (key.Tier name) = false
is_net_set_key (key.Policy id) = false

abbrev pub is_profile_key : Key → Bool
is_profile_key (key.Item k) = false
is_profile_key (key.Profile name) = true
is_profile_key (key.Tier name) = false
is_profile_key (key.Policy id) = false

abbrev pub is_tier_key : Key → Bool
is_tier_key (key.Item k) = false
is_tier_key (key.Profile name) = false
is_tier_key (key.Tier name) = true
is_tier_key (key.Policy id) = false

abbrev pub is_policy_key : Key → Bool
is_policy_key (key.Item k) = false
is_policy_key (key.Profile name) = false
is_policy_key (key.Tier name) = false
is_policy_key (key.Policy id) = true

-- the item is of its key's kind
abbrev pub is_formed_item : Key → Item → Bool
is_formed_item k (item.Endpoint e) = is_endpoint_key k && is_formed_endpoint e
is_formed_item k (item.Profile p) = is_profile_key k && is_formed_profile p
is_formed_item k (item.Tier t) = is_tier_key k
is_formed_item k (item.Policy p) = is_policy_key k && is_formed_policy p
is_formed_item k (item.NetSet s) = is_net_set_key k

abbrev pub is_formed : Update → Bool
is_formed update.InSync = true
is_formed (update.Put k x) = is_formed_key k && is_formed_item k x
is_formed (update.Delete k) = is_formed_key k

abbrev pub is_formed_endpoint_entry : ItemKey × Endpoint → Bool
is_formed_endpoint_entry x = is_formed_item_key x.0 && is_formed_item (key.Item x.0) (item.Endpoint x.1)

abbrev pub is_formed_policy_entry : PolicyId × Policy → Bool
is_formed_policy_entry x = is_formed_policy_id x.0 && is_formed_policy x.1

abbrev pub are_formed : Resources → Bool
are_formed R =
    list_all is_formed_endpoint_entry (maps.entries R.endpoints)
    && (list_all (λ x. is_formed_profile x.1) (maps.entries R.profiles) && list_all is_formed_policy_entry (maps.entries R.policies))

-- ---- interfaces of workloads

-- a local endpoint's interface is one of workloads
abbrev pub has_workload_interface : List ℕ → Endpoint → Bool
has_workload_interface node e = implies (bytes_eq e.node node) (is_workload e.iface)

-- the update puts no local endpoint on another interface
abbrev pub puts_workload_interface : List ℕ → Update → Bool
puts_workload_interface node update.InSync = true
puts_workload_interface node (update.Put k (item.Endpoint e)) = has_workload_interface node e
puts_workload_interface node (update.Put k (item.Profile p)) = true
puts_workload_interface node (update.Put k (item.Tier t)) = true
puts_workload_interface node (update.Put k (item.Policy p)) = true
puts_workload_interface node (update.Put k (item.NetSet s)) = true
puts_workload_interface node (update.Delete k) = true

abbrev pub have_workload_interfaces : Resources → Bool
have_workload_interfaces R = list_all (λ x. has_workload_interface R.node x.1) (maps.entries R.endpoints)

-- ---- what the view of such resources keeps

abbrev pub is_formed_profile_key : List ℕ → Bool
is_formed_profile_key key = nat_le (length key) 19

abbrev pub is_formed_view_endpoint : List ℕ × ViewEndpoint → Bool
is_formed_view_endpoint x = nat_le (length x.0) 15 && list_all is_formed_profile_key x.1.profiles

abbrev pub is_formed_view_profile : List ℕ × ViewProfile → Bool
is_formed_view_profile x = is_formed_profile_key x.0

abbrev pub is_formed_view : View → Bool
is_formed_view v = list_all is_formed_view_endpoint (maps.entries v.endpoints) && list_all is_formed_view_profile (maps.entries v.profiles)

abbrev pub has_workload_interfaces : View → Bool
has_workload_interfaces v = list_all (λ x. is_workload x.0) (maps.entries v.endpoints)
