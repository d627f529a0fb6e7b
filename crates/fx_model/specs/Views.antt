-- What a node needs of the resources. From Felix's documented calculation graph: the endpoints that run on the node, the policies
-- that apply to them, the profiles that they list, whether a profile is there or not, and the sets that the rules of both use.
use Rattle.std.specs.Prelude.{ℕ, Bool, List, [], ◌++◌, map, Option, Some, None, option_map, true, false}
use Rattle.std.specs.List.{flat_map, list_any}
use Rattle.std.specs.Ordering.{nat_cmp, eq_by_cmp}
use Rattle.std.specs.Cmp.Lexicographic.{slice_cmp}
use Rattle.std.specs.FinMap as maps
use Rattle.fx_base.specs.Extended.{collected, filled}
use Rattle.fx_base.specs.declared.net.Proto.{Proto}
use Rattle.fx_selector.specs.Tree.{Tree}
use Rattle.fx_names.specs.Digests.{Digest}
use Rattle.fx_names.specs.Names.{key_of}
use Rattle.fx_names.specs.declared.prefix.Prefix.TheVariants.{PolicyIn, ProfileIn}
use Rattle.fx_model.specs.declared.ids.ItemKey.{ItemKey}
use Rattle.fx_model.specs.declared.ids.ItemKey.TheVariants as key
use Rattle.fx_model.specs.declared.ids.PolicyId.{PolicyId}
use Rattle.fx_model.specs.declared.policy.Policy.{Policy}
use Rattle.fx_model.specs.declared.resources.Endpoint.{Endpoint}
use Rattle.fx_model.specs.declared.resources.Profile.{Profile}
use Rattle.fx_model.specs.declared.rules.Rule.{Rule}
use Rattle.fx_model.specs.declared.rules.Side.{Side}
use Rattle.fx_model.specs.declared.resources.Resources.{Resources}
use Rattle.fx_model.specs.declared.view.View.{View}
use Rattle.fx_model.specs.declared.view_rule.ViewRule.{ViewRule}
use Rattle.fx_model.specs.declared.view_rule.ViewSide.{ViewSide}
use Rattle.fx_model.specs.declared.view_rule.ViewPort.{ViewPort}
use Rattle.fx_model.specs.declared.view_rule.ViewPort.TheVariants.{Range, Named}
use Rattle.fx_model.specs.declared.rules.PortSpec.{PortSpec}
use Rattle.fx_model.specs.declared.rules.PortSpec.TheVariants.{Number, Named as PortName}
use Rattle.fx_model.specs.declared.set_use.SetUse.{SetUse}
use Rattle.fx_model.specs.declared.tier_order.PolicyPlace.{PolicyPlace}
use Rattle.fx_model.specs.declared.view.ViewTier.{ViewTier}
use Rattle.fx_model.specs.declared.view.ViewPolicy.{ViewPolicy}
use Rattle.fx_model.specs.declared.view.ViewProfile.{ViewProfile}
use Rattle.fx_model.specs.declared.view.ViewEndpoint.{ViewEndpoint}
use Rattle.fx_model.specs.Directions.{Direction, Ingress, Egress}
use Rattle.fx_model.specs.Messages.{Members}
use Rattle.fx_model.specs.PolicyIdTexts.{policy_id_text}
use Rattle.fx_model.specs.Sets.{nets_use, ports_use, ports_protocol, selector_or_all, policy_uses, profile_uses, use_name, set_members}
use Rattle.fx_model.specs.Resources.{served_endpoints}
use Rattle.fx_model.specs.Active.{applying, active_policies}
use Rattle.fx_model.specs.TierOrder.{place_in, tiers_of, view_tier}

-- ---- rules, with the names of sets in place of selectors and named ports

abbrev pub set_name : Digest → Tree → List ℕ
set_name dg t = use_name dg (nets_use t)

abbrev pub view_port : Digest → Option Proto → Option Tree → PortSpec → ViewPort
view_port dg p t (Number range) = Range range
view_port dg p t (PortName name) = Named (use_name dg (ports_use (ports_protocol p) name (selector_or_all t)))

-- a side of a rule of this protocol
abbrev pub view_side : Digest → Option Proto → Side → ViewSide
view_side dg p s = record {
  nets = s.nets;
  not_nets = s.not_nets;
  set = option_map (set_name dg) s.selector;
  not_set = option_map (set_name dg) s.not_selector;
  ports = map (view_port dg p s.selector) s.ports;
  not_ports = map (view_port dg p s.selector) s.not_ports;
}

abbrev pub view_rule : Digest → Rule → ViewRule
view_rule dg r = record {
  action = r.action;
  never = r.never;
  protocol = r.protocol;
  not_protocol = r.not_protocol;
  icmp = r.icmp;
  not_icmp = r.not_icmp;
  source = view_side dg r.protocol r.source;
  destination = view_side dg r.protocol r.destination;
}

-- a profile's key: what stands behind the prefix in the names of both its chains
abbrev pub profile_key : Digest → List ℕ → List ℕ
profile_key dg name = key_of dg ProfileIn name

abbrev pub view_profile : Digest → List ℕ → Option Profile → ViewProfile
view_profile dg name None = record { name = name; missing = true; ingress = []; egress = [] }
view_profile dg name (Some p) =
    record { name = name; missing = false; ingress = map (view_rule dg) p.ingress; egress = map (view_rule dg) p.egress }

-- a policy's key: what stands behind the prefix in the names of both its chains
abbrev pub policy_key : Digest → PolicyId → List ℕ
policy_key dg id = key_of dg PolicyIn (policy_id_text id)

abbrev pub view_policy : Digest → PolicyId → Policy → ViewPolicy
view_policy dg id p = record { id = id; ingress = map (view_rule dg) p.ingress; egress = map (view_rule dg) p.egress }

-- the tiers that take part for an endpoint: those of the policies that apply to it, by their keys
abbrev pub key_in_place : Digest → Resources → PolicyId × Policy → PolicyPlace × List ℕ
key_in_place dg R x = (place_in R.tiers x, policy_key dg x.0)

abbrev pub view_tiers : Digest → Resources → Direction → Endpoint → List ViewTier
view_tiers dg R d e = map view_tier (tiers_of (map (key_in_place dg R) (applying R d e)))

abbrev pub namespace_of : ItemKey → List ℕ
namespace_of (key.Endpoint ns name) = ns
namespace_of (key.NetSet (Some ns) name) = ns
namespace_of (key.NetSet None name) = []

abbrev pub item_name : ItemKey → List ℕ
item_name (key.Endpoint ns name) = name
item_name (key.NetSet ns name) = name

-- an endpoint with its tiers and its profiles
abbrev pub view_endpoint : Digest → Resources → ItemKey → Endpoint → ViewEndpoint
view_endpoint dg R k e = record {
  ns = namespace_of k;
  name = item_name k;
  ingress = view_tiers dg R Ingress e;
  egress = view_tiers dg R Egress e;
  profiles = map (profile_key dg) e.profiles;
}

-- the names that served endpoints list
abbrev pub active_profiles : Resources → List (List ℕ)
active_profiles R = flat_map (λ x. x.1.profiles) (served_endpoints R)

-- whether a served endpoint lists the name
abbrev pub is_active_profile : Resources → List ℕ → Bool
is_active_profile R name = list_any (eq_by_cmp (slice_cmp nat_cmp) name) (active_profiles R)

abbrev pub profile_entry : Digest → Resources → List ℕ → List ℕ × ViewProfile
profile_entry dg R name = (profile_key dg name, view_profile dg name (maps.get R.profiles name))

abbrev pub policy_entry : Digest → PolicyId × Policy → List ℕ × ViewPolicy
policy_entry dg x = (policy_key dg x.0, view_policy dg x.0 x.1)

abbrev pub endpoint_entry : Digest → Resources → ItemKey × Endpoint → List ℕ × ViewEndpoint
endpoint_entry dg R x = (x.1.iface, view_endpoint dg R x.0 x.1)

-- ---- sets

-- what the rules of the profile of a name use, where there is one
abbrev pub uses_if_there : Option Profile → List SetUse
uses_if_there None = []
uses_if_there (Some p) = profile_uses p

abbrev pub uses_of_profile : Resources → List ℕ → List SetUse
uses_of_profile R name = uses_if_there (maps.get R.profiles name)

-- the sets that the rules of active policies and of listed profiles use
abbrev pub wanted_uses : Resources → List SetUse
wanted_uses R =
    flat_map (λ x. policy_uses x.1) (active_policies R) ++ flat_map (uses_of_profile R) (active_profiles R)

abbrev pub set_entry : Digest → Resources → SetUse → List ℕ × Members
set_entry dg R u = (use_name dg u, set_members R u)

-- the view of the resources, with names by this digest
abbrev pub view_of : Digest → Resources → View
view_of dg R = record {
  sets = filled maps.empty (map (set_entry dg R) (wanted_uses R));
  policies = collected (map (policy_entry dg) (active_policies R));
  profiles = collected (map (profile_entry dg R) (active_profiles R));
  endpoints = collected (map (endpoint_entry dg R) (served_endpoints R));
}

-- the view before anything was sent
abbrev pub empty_view : View
empty_view = record { sets = maps.empty; policies = maps.empty; profiles = maps.empty; endpoints = maps.empty }
