-- The paths of some packets, computed: over the tables of a node with one endpoint that lists one profile.
use Rattle.std.proofs.Common.{◌≡◌, ℕ, List, [], ◌∷◌, ◌++◌, map, filter, Option, Some, None, true, false, refl, ap, ◌∙◌, codes, lit≤}
use Rattle.std.specs.List.{flat_map}
use Rattle.std.specs.Ordering.{nat_cmp}
use Rattle.std.specs.Cmp.Lexicographic.{slice_cmp, nat_list_cmp_total}
use Rattle.std.specs.FinMap as maps
use Rattle.fx_base.specs.Extended.{collected}
use Rattle.fx_base.proofs.Entries.{entries-empty}
use Rattle.fx_base.proofs.AtKey.{get_insert_same}
use Rattle.fx_model.proofs.Orders.{item_total}
use Rattle.fx_model.specs.contracts.ids.ItemKeyOrd.TheImpl.{cmp-value}
use Rattle.fx_model.specs.contracts.ids.PolicyIdOrd.TheImpl as policy_cmp
use Rattle.fx_model.specs.contracts.tier_order.PolicyPlaceOrd.TheImpl as place_cmp
use Rattle.fx_model.specs.declared.tier_order.PolicyPlace.{PolicyPlace}
use Rattle.fx_model.specs.declared.ids.ItemKey.{ItemKey}
use Rattle.fx_model.specs.declared.ids.ItemKey.TheVariants as key
use Rattle.fx_model.specs.declared.packet.State.{State}
use Rattle.fx_model.specs.declared.packet.State.TheVariants.{New, Established, Invalid}
use Rattle.fx_model.specs.declared.packet.Packet.{Packet}
use Rattle.fx_model.specs.declared.chain.Reason.TheVariants as reason
use Rattle.fx_model.specs.declared.chain.ChainRule.{ChainRule}
use Rattle.fx_base.specs.declared.net.Net.{Net}
use Rattle.fx_model.specs.declared.rules.Action.TheVariants.{Allow, Log}
use Rattle.fx_model.specs.declared.rules.PortSpec.{PortSpec}
use Rattle.fx_model.specs.declared.rules.PortSpec.TheVariants.{Number}
use Rattle.fx_model.specs.declared.rules.Rule.{Rule}
use Rattle.fx_model.specs.declared.rules.Side.{Side}
use Rattle.fx_model.specs.declared.resources.Endpoint.{Endpoint}
use Rattle.fx_model.specs.declared.resources.Profile.{Profile}
use Rattle.fx_model.specs.declared.resources.Resources.{Resources}
use Rattle.fx_model.specs.declared.view.ViewEndpoint.{ViewEndpoint}
use Rattle.fx_model.specs.Directions.{Direction, Ingress, Egress}
use Rattle.fx_model.specs.Resources.{is_served, served_endpoints}
use Rattle.fx_names.specs.Digests.{Digest, plain_digest}
use Rattle.fx_model.specs.Views.{view_of, view_profile, view_endpoint, view_tiers, namespace_of, item_name, profile_key, endpoint_entry, policy_entry, profile_entry, key_in_place}
use Rattle.fx_model.specs.Active.{applies, is_active}
use Rattle.fx_model.specs.TierOrder.{tier_by_tier, tiers_of, view_tier}
use Rattle.fx_model.specs.Tables.{ChainName, forward, forward_rules, root_of, dispatch_rules}
use Rattle.fx_model.specs.Tree.{dispatch_chains_of}
use Rattle.fx_model.specs.ViewTables.{first_chain, dispatch_chains, policy_chains, profile_chains, endpoint_chains, chains_of, tables_of}
use Rattle.fx_model.specs.Machine.{Trace, holds, hops_and_reasons, last_reason}
use Rattle.fx_model.specs.Walk.{Ended, Accepted, Dropped, Through, over_rule, over_rules}
use Rattle.fx_walk.specs.PacketPaths.{first_walk}
use Rattle.fx_walk.proofs.KnownWalks.{over_look, known_walk, walk_known, packet}

-- ---- a node with one endpoint

abbrev endpoint_key : ItemKey
endpoint_key = key.Endpoint (codes "a") (codes "w1")

abbrev endpoint : Endpoint
endpoint = record { node = codes "n1"; iface = codes "cali1"; labels = maps.empty; addresses = []; profiles = codes "open" ∷ []; ports = [] }

abbrev any_side : Side
any_side = record { nets = []; not_nets = []; selector = None; not_selector = None; ports = []; not_ports = [] }

abbrev allow_all : Rule
allow_all = record { action = Allow; never = false; protocol = None; not_protocol = None; icmp = None; not_icmp = None; source = any_side; destination = any_side }

abbrev open_profile : Profile
open_profile = record { labels = maps.empty; ingress = allow_all ∷ []; egress = allow_all ∷ [] }

abbrev node : maps.FinMap (slice_cmp nat_cmp) Profile → Resources
node profiles = record { node = codes "n1"; in_sync = true; endpoints = maps.insert maps.empty endpoint_key endpoint; net_sets = maps.empty; profiles = profiles; tiers = maps.empty; policies = maps.empty }

one_endpoint : maps.entries (maps.insert (maps.empty {X = Endpoint} {R = cmp-value.it}) endpoint_key endpoint) ≡ (endpoint_key, endpoint) ∷ []
one_endpoint = maps.entries-insert item_total maps.empty endpoint_key endpoint ∙ ap (maps.put cmp-value.it endpoint_key endpoint) (entries-empty cmp-value.it)

one_entry : {X : Type 0} (k : List ℕ) (x : X) → maps.entries (maps.insert (maps.empty {X = X} {R = slice_cmp nat_cmp}) k x) ≡ (k, x) ∷ []
one_entry k x = maps.entries-insert nat_list_cmp_total maps.empty k x ∙ ap (maps.put (slice_cmp nat_cmp) k x) (entries-empty (slice_cmp nat_cmp))

module _ (dg : Digest) (profiles : maps.FinMap (slice_cmp nat_cmp) Profile) (o : Option Profile) (at : maps.get profiles (codes "open") ≡ o) where
  abbrev R : Resources
  R = node profiles

  served : served_endpoints R ≡ (endpoint_key, endpoint) ∷ []
  served = ap (filter (λ x. is_served R x.1)) one_endpoint

  policies_are : maps.entries (view_of dg R).policies ≡ []
  policies_are =
      ap (λ es. maps.entries (collected {R = slice_cmp nat_cmp} (map (policy_entry dg) (filter (λ x. is_active R x.1) es)))) (entries-empty policy_cmp.cmp-value.it)
      ∙ entries-empty (slice_cmp nat_cmp)

  no_tiers : (d : Direction) → view_tiers dg R d endpoint ≡ []
  no_tiers d =
      ap (λ es. map view_tier (tiers_of (map (key_in_place dg R) (filter (λ x. applies R d x.1 endpoint) es)))) (entries-empty policy_cmp.cmp-value.it)
      ∙ ap (λ (es : List (PolicyPlace × List ℕ)). map view_tier (tier_by_tier es)) (entries-empty place_cmp.cmp-value.it)

  abbrev shown : ViewEndpoint
  shown = record { ns = namespace_of endpoint_key; name = item_name endpoint_key; ingress = []; egress = []; profiles = map (profile_key dg) endpoint.profiles }

  shown_is : view_endpoint dg R endpoint_key endpoint ≡ shown
  shown_is = λ i. record { ns = namespace_of endpoint_key; name = item_name endpoint_key; ingress = no_tiers Ingress i; egress = no_tiers Egress i; profiles = map (profile_key dg) endpoint.profiles }

  endpoints_are : maps.entries (view_of dg R).endpoints ≡ (codes "cali1", shown) ∷ []
  endpoints_are =
      ap (λ es. maps.entries (collected {R = slice_cmp nat_cmp} (map (endpoint_entry dg R) es))) served
      ∙ one_entry (codes "cali1") (view_endpoint dg R endpoint_key endpoint)
      ∙ ap (λ (e : ViewEndpoint). (codes "cali1", e) ∷ []) shown_is

  profiles_are : maps.entries (view_of dg R).profiles ≡ (codes "open", view_profile dg (codes "open") o) ∷ []
  profiles_are =
      ap (λ es. maps.entries (collected {R = slice_cmp nat_cmp} (map (profile_entry dg R) (flat_map (λ x. x.1.profiles) es)))) served
      ∙ one_entry (codes "open") (view_profile dg (codes "open") (maps.get profiles (codes "open")))
      ∙ ap (λ (p : Option Profile). (codes "open", view_profile dg (codes "open") p) ∷ []) at

  abbrev known : List (ChainName × List ChainRule)
  known =
      profile_chains (codes "open", view_profile dg (codes "open") o) ++ (endpoint_chains (codes "cali1", shown)
      ++ ((root_of Ingress, dispatch_rules Ingress (codes "cali1" ∷ [])) ∷ (root_of Egress, dispatch_rules Egress (codes "cali1" ∷ [])) ∷ (forward, forward_rules) ∷ []))

  known_chains : chains_of (view_of dg R) ≡ known
  known_chains =
      ap (λ ps. flat_map policy_chains ps ++ (flat_map profile_chains (maps.entries (view_of dg R).profiles) ++ (flat_map endpoint_chains (maps.entries (view_of dg R).endpoints) ++ dispatch_chains (view_of dg R)))) policies_are
      ∙ ap (λ fs. flat_map profile_chains fs ++ (flat_map endpoint_chains (maps.entries (view_of dg R).endpoints) ++ dispatch_chains (view_of dg R))) profiles_are
      ∙ ap (λ (es : List (List ℕ × ViewEndpoint)). profile_chains (codes "open", view_profile dg (codes "open") o) ++ (flat_map endpoint_chains es
      ++ (dispatch_chains_of (map (λ e. e.0) es) ++ first_chain))) endpoints_are

  abbrev trace_of : Packet → Ended Trace
  trace_of a = first_walk (tables_of (view_of dg R)) a []

  trace_known : (a : Packet) → trace_of a ≡ known_walk (view_of dg R) known a
  trace_known a = walk_known (view_of dg R) known known_chains a

abbrev from_endpoint : State → Packet
from_endpoint state = packet (codes "cali1") (codes "eth0") state

-- the profile's rule allows
allowed_by_profile : trace_of plain_digest (maps.insert maps.empty (codes "open") open_profile) (Some open_profile) (get_insert_same maps.empty (codes "open") open_profile) (from_endpoint New) ≡ Through 0x10000 (record {
  hops = (codes "cali-FORWARD", 2) ∷ (codes "cali-from-wl-dispatch", 1) ∷ (codes "cali-fw-cali1", 4) ∷ (codes "cali-pro-open", 1) ∷ [];
  reasons = record { side = Some Egress; egress = Some (reason.Profile (codes "open") 1); ingress = None };
})
unfolding over_look over_rules over_rule hops_and_reasons last_reason holds
allowed_by_profile = trace_known plain_digest (maps.insert maps.empty (codes "open") open_profile) (Some open_profile) (get_insert_same maps.empty (codes "open") open_profile) (from_endpoint New) ∙ refl

-- a profile that isn't there denies
denied_by_missing_profile : trace_of plain_digest maps.empty None (maps.get-empty (slice_cmp nat_cmp) (codes "open")) (from_endpoint New) ≡ Dropped (record {
  hops = (codes "cali-FORWARD", 2) ∷ (codes "cali-from-wl-dispatch", 1) ∷ (codes "cali-fw-cali1", 4) ∷ (codes "cali-pro-open", 1) ∷ [];
  reasons = record { side = Some Egress; egress = Some (reason.MissingProfile (codes "open")); ingress = None };
})
unfolding over_look over_rules over_rule hops_and_reasons last_reason holds
denied_by_missing_profile = trace_known plain_digest maps.empty None (maps.get-empty (slice_cmp nat_cmp) (codes "open")) (from_endpoint New) ∙ refl

-- ---- a profile whose rules have criteria

abbrev inner : Net
inner = record { addr = record { 0 = 0x0a000000 }; len = 8; short = lit≤ tt; no_host_bits = refl }

abbrev middle : Net
middle = record { addr = record { 0 = 0xac100000 }; len = 12; short = lit≤ tt; no_host_bits = refl }

abbrev kept_out : Net
kept_out = record { addr = record { 0 = 0x0a010000 }; len = 16; short = lit≤ tt; no_host_bits = refl }

abbrev web : List PortSpec
web = Number (record { low = 80; high = 90; ascending = lit≤ tt }) ∷ Number (record { low = 443; high = 443; ascending = lit≤ tt }) ∷ []

-- to log TCP, and to allow what comes from two nets, though not from a third one, to the ports of the web
abbrev web_profile : Profile
web_profile = record {
  labels = maps.empty;
  ingress = [];
  egress = record { action = Log; never = false; protocol = Some (record { 0 = 6 }); not_protocol = None; icmp = None; not_icmp = None; source = any_side; destination = any_side }
      ∷ record {
        action = Allow;
        never = false;
        protocol = Some (record { 0 = 6 });
        not_protocol = None;
        icmp = None;
        not_icmp = None;
        source = record any_side { nets = inner ∷ middle ∷ []; not_nets = kept_out ∷ [] };
        destination = record any_side { ports = web };
      } ∷ [];
}

abbrev web_trace : Packet → Ended Trace
web_trace a = trace_of plain_digest (maps.insert maps.empty (codes "open") web_profile) (Some web_profile) (get_insert_same maps.empty (codes "open") web_profile) a

-- the block of nets stands before the main rule, which is the seventh of the chain
allowed_by_criteria : web_trace (from_endpoint New) ≡ Through 0xd0000 (record {
  hops = (codes "cali-FORWARD", 2) ∷ (codes "cali-from-wl-dispatch", 1) ∷ (codes "cali-fw-cali1", 4) ∷ (codes "cali-pro-open", 1) ∷ (codes "cali-pro-open", 7) ∷ [];
  reasons = record { side = Some Egress; egress = Some (reason.Profile (codes "open") 2); ingress = None };
})
unfolding over_look over_rules over_rule hops_and_reasons last_reason holds
allowed_by_criteria = trace_known plain_digest (maps.insert maps.empty (codes "open") web_profile) (Some web_profile) (get_insert_same maps.empty (codes "open") web_profile) (from_endpoint New) ∙ refl

-- a packet from the net that is kept out is logged, and denied at the end
denied_by_criteria : web_trace (record (from_endpoint New) { src = record { 0 = 0x0a010001 } }) ≡ Dropped (record {
  hops = (codes "cali-FORWARD", 2) ∷ (codes "cali-from-wl-dispatch", 1) ∷ (codes "cali-fw-cali1", 4) ∷ (codes "cali-pro-open", 1) ∷ (codes "cali-fw-cali1", 6) ∷ [];
  reasons = record { side = Some Egress; egress = Some reason.NoProfileRule; ingress = None };
})
unfolding over_look over_rules over_rule hops_and_reasons last_reason holds
denied_by_criteria = trace_known plain_digest (maps.insert maps.empty (codes "open") web_profile) (Some web_profile) (get_insert_same maps.empty (codes "open") web_profile) (record (from_endpoint New) { src = record { 0 = 0x0a010001 } }) ∙ refl

module _ (dg : Digest) (profiles : maps.FinMap (slice_cmp nat_cmp) Profile) (o : Option Profile) (at : maps.get profiles (codes "open") ≡ o) where
  -- a packet of an established connection is accepted, and an invalid one dropped, at the endpoint's chain
  established : trace_of dg profiles o at (from_endpoint Established) ≡ Accepted (record {
    hops = (codes "cali-FORWARD", 2) ∷ (codes "cali-from-wl-dispatch", 1) ∷ (codes "cali-fw-cali1", 1) ∷ [];
    reasons = record { side = Some Egress; egress = Some reason.Established; ingress = None };
  })
  unfolding over_look over_rules over_rule hops_and_reasons last_reason holds
  established = trace_known dg profiles o at (from_endpoint Established) ∙ refl

  invalid : trace_of dg profiles o at (from_endpoint Invalid) ≡ Dropped (record {
    hops = (codes "cali-FORWARD", 2) ∷ (codes "cali-from-wl-dispatch", 1) ∷ (codes "cali-fw-cali1", 2) ∷ [];
    reasons = record { side = Some Egress; egress = Some reason.Invalid; ingress = None };
  })
  unfolding over_look over_rules over_rule hops_and_reasons last_reason holds
  invalid = trace_known dg profiles o at (from_endpoint Invalid) ∙ refl

  -- a workload's interface that no endpoint has is denied
  unknown_interface : trace_of dg profiles o at (packet (codes "cali9") (codes "eth0") New) ≡ Dropped (record {
    hops = (codes "cali-FORWARD", 2) ∷ (codes "cali-from-wl-dispatch", 2) ∷ [];
    reasons = record { side = Some Egress; egress = Some reason.UnknownInterface; ingress = None };
  })
  unfolding over_look over_rules over_rule hops_and_reasons last_reason holds
  unknown_interface = trace_known dg profiles o at (packet (codes "cali9") (codes "eth0") New) ∙ refl

  -- other interfaces are free
  free : trace_of dg profiles o at (packet (codes "eth0") (codes "eth0") New) ≡ Through 0 (record { hops = []; reasons = record { side = None; egress = None; ingress = None } })
  unfolding over_look over_rules over_rule hops_and_reasons last_reason holds
  free = trace_known dg profiles o at (packet (codes "eth0") (codes "eth0") New) ∙ refl
