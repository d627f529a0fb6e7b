-- The sets that rules use, and their members. From Calico's resource reference (`projectcalico.org/v3`), EntityRule, `selector`,
-- `notSelector`, `ports` and `notPorts`, and from ipset(8): a `hash:net` set holds nets, but not the net of all addresses, whose two
-- halves stand for it; a `hash:ip,port` set holds an address with a protocol and a port.
use Rattle.std.specs.Prelude.{◌≡◌, ℕ, ◌==◌, if◌then◌else◌, List, [], ◌∷◌, ◌++◌, Bool, ◌&&◌, nat_eq, filter, map, codes, Option, Some, None}
use Rattle.std.specs.List.{AllByRecursion, flat_map}
use Rattle.std.specs.Str.{bytes_eq}
use Rattle.fx_base.specs.Extended.{collected}
use Rattle.fx_base.specs.Set.{marked}
use Rattle.fx_base.specs.Nets.{host, stored}
use Rattle.fx_base.specs.declared.net.Ipv4.{Ipv4}
use Rattle.fx_base.specs.declared.net.Net.{Net}
use Rattle.fx_base.specs.declared.net.Proto.{Proto}
use Rattle.fx_base.specs.declared.set_name.SetKind.TheVariants.{Nets, Ports}
use Rattle.fx_selector.specs.Tree.{Tree, IsSelector, all}
use Rattle.fx_selector.specs.Canonical.{canonical_text}
use Rattle.fx_selector.specs.Truth.{holds}
use Rattle.fx_names.specs.Digests.{Digest}
use Rattle.fx_names.specs.Names.{set_name_of}
use Rattle.fx_model.specs.declared.ids.ItemKey.{ItemKey}
use Rattle.fx_model.specs.declared.member.Member.{Member}
use Rattle.fx_model.specs.declared.member.Member.TheVariants as member
use Rattle.fx_model.specs.declared.policy.Policy.{Policy}
use Rattle.fx_model.specs.declared.resources.EndpointPort.{EndpointPort}
use Rattle.fx_model.specs.declared.resources.Profile.{Profile}
use Rattle.fx_model.specs.declared.resources.Item.{Item}
use Rattle.fx_model.specs.declared.resources.Item.TheVariants as item
use Rattle.fx_model.specs.declared.resources.Resources.{Resources}
use Rattle.fx_model.specs.declared.rules.PortSpec.{PortSpec}
use Rattle.fx_model.specs.declared.rules.PortSpec.TheVariants.{Number, Named}
use Rattle.fx_model.specs.declared.rules.Rule.{Rule}
use Rattle.fx_model.specs.declared.rules.Side.{Side}
use Rattle.fx_model.specs.declared.set_use.SetUse.{SetUse}
use Rattle.fx_model.specs.Labels.{labels_of}
use Rattle.fx_model.specs.Messages.{Members}
use Rattle.fx_model.specs.Resources.{items_of}

-- ---- uses

-- the nets of what a selector selects; such a set is told by its selector's canonical text
abbrev pub nets_use : Tree → SetUse
nets_use t = record { kind = Nets; text = canonical_text t; selector = t; port = None }

-- a rule that lists ports has one of these protocols
abbrev pub ports_protocol_text : Proto → List ℕ
ports_protocol_text p = if p.0 == 6 then codes "tcp" else (if p.0 == 17 then codes "udp" else codes "sctp")

-- the ports of this name and protocol of what a selector selects; such a set is told by all three
abbrev pub ports_text : Proto → List ℕ → Tree → List ℕ
ports_text p name t = ports_protocol_text p ++ (codes "," ++ (name ++ (codes "," ++ canonical_text t)))

abbrev pub ports_use : Proto → List ℕ → Tree → SetUse
ports_use p name t = record { kind = Ports; text = ports_text p name t; selector = t; port = Some (p, name) }

-- the protocol of a rule that lists ports, which it has where the rule is formed
abbrev pub ports_protocol : Option Proto → Proto
ports_protocol None = record { 0 = 0 }
ports_protocol (Some p) = p

-- without a selector all endpoints are meant
abbrev pub selector_or_all : Option Tree → Tree
selector_or_all None = all
selector_or_all (Some t) = t

abbrev pub selector_uses : Option Tree → List SetUse
selector_uses None = []
selector_uses (Some t) = nets_use t ∷ []

abbrev pub port_uses : Option Proto → Option Tree → PortSpec → List SetUse
port_uses p t (Number range) = []
port_uses p t (Named name) = ports_use (ports_protocol p) name (selector_or_all t) ∷ []

-- the sets that a side of a rule of this protocol uses, in order
abbrev pub side_uses : Option Proto → Side → List SetUse
side_uses p s =
    selector_uses s.selector
    ++ (selector_uses s.not_selector ++ (flat_map (port_uses p s.selector) s.ports ++ flat_map (port_uses p s.selector) s.not_ports))

abbrev pub rule_uses : Rule → List SetUse
rule_uses r = side_uses r.protocol r.source ++ side_uses r.protocol r.destination

abbrev pub rules_uses : List Rule → List SetUse
rules_uses rs = flat_map rule_uses rs

abbrev pub policy_uses : Policy → List SetUse
policy_uses p = rules_uses p.ingress ++ rules_uses p.egress

abbrev pub profile_uses : Profile → List SetUse
profile_uses p = rules_uses p.ingress ++ rules_uses p.egress

-- a set's name in the kernel
abbrev pub use_name : Digest → SetUse → List ℕ
use_name dg u = set_name_of dg u.kind u.text

-- the use of what a selector selects, for its nets or for a port of a protocol and a name
abbrev pub use_of : Option (Proto × List ℕ) → Tree → SetUse
use_of None t = nets_use t
use_of (Some p) t = ports_use p.0 p.1 t

-- kind and text are made from selector and port
abbrev pub IsUse : SetUse → Type 0
IsUse u = u ≡ use_of u.port u.selector

-- the selectors are such as `Selector` keeps
abbrev pub AreSelectors : List SetUse → Type 0
AreSelectors us = AllByRecursion (λ u. IsSelector u.selector) us

-- ---- members

-- an endpoint's nets are its addresses
abbrev pub item_nets : Item → List Net
item_nets (item.Endpoint e) = map host e.addresses
item_nets (item.NetSet s) = s.nets
item_nets (item.Profile p) = []
item_nets (item.Tier t) = []
item_nets (item.Policy p) = []

abbrev pub is_port : Proto → List ℕ → EndpointPort → Bool
is_port p name q = nat_eq q.proto.0 p.0 && bytes_eq q.name name

abbrev pub ports_at : List EndpointPort → Ipv4 → List Member
ports_at ports a = map (λ q. member.PortAt a q.proto q.number) ports

-- only endpoints have ports
abbrev pub item_ports : Proto → List ℕ → Item → List Member
item_ports p name (item.Endpoint e) = flat_map (ports_at (filter (is_port p name) e.ports)) e.addresses
item_ports p name (item.NetSet s) = []
item_ports p name (item.Profile x) = []
item_ports p name (item.Tier t) = []
item_ports p name (item.Policy x) = []

abbrev pub contributed_by : Option (Proto × List ℕ) → Item → List Member
contributed_by None i = map member.Net (flat_map stored (item_nets i))
contributed_by (Some p) i = item_ports p.0 p.1 i

-- the members that an item contributes to a set whose selector holds on it
abbrev pub contributed : SetUse → Item → List Member
contributed u i = contributed_by u.port i

abbrev pub contributions : SetUse → List (ItemKey × Item) → List Member
contributions u xs = flat_map (λ x. contributed u x.1) xs

-- the items on which a selector holds
abbrev pub selected_of : Resources → Tree → List (ItemKey × Item) → List (ItemKey × Item)
selected_of R t xs = filter (λ x. holds t (labels_of R x)) xs

abbrev pub selected : Resources → Tree → List (ItemKey × Item)
selected R t = selected_of R t (items_of R)

abbrev pub set_members : Resources → SetUse → Members
set_members R u = collected (marked (contributions u (selected R u.selector)))
