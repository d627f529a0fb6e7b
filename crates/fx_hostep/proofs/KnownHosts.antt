-- The host tables of a node with one host endpoint, one policy and one failsafe port, and the runs of some packets over them, computed.
use Rattle.std.proofs.Common.{◌≡◌, ℕ, List, [], ◌∷◌, ◌++◌, map, filter, length, Some, None, false, refl, ap, ◌∙◌, codes, lit≤}
use Rattle.std.specs.List.{flat_map}
use Rattle.std.specs.Ordering.{nat_cmp}
use Rattle.std.specs.Cmp.Lexicographic.{slice_cmp, nat_list_cmp_total}
use Rattle.std.specs.FinMap as maps
use Rattle.fx_base.proofs.Entries.{entries-empty}
use Rattle.fx_model.specs.declared.ids.PolicyId.TheVariants.{Global}
use Rattle.fx_model.specs.declared.chain.Reason.TheVariants as reason
use Rattle.fx_model.specs.declared.packet.Packet.{Packet}
use Rattle.fx_model.specs.declared.packet.State.TheVariants.{New}
use Rattle.fx_model.specs.declared.rules.Action.TheVariants.{Allow}
use Rattle.fx_model.specs.declared.view.View.{View}
use Rattle.fx_model.specs.declared.view.ViewEndpoint.{ViewEndpoint}
use Rattle.fx_model.specs.declared.view.ViewPolicy.{ViewPolicy}
use Rattle.fx_model.specs.declared.view.ViewTier.{ViewTier}
use Rattle.fx_model.specs.declared.view_rule.ViewPort.TheVariants.{Range}
use Rattle.fx_model.specs.declared.view_rule.ViewRule.{ViewRule}
use Rattle.fx_model.specs.declared.view_rule.ViewSide.{ViewSide}
use Rattle.fx_model.specs.Directions.{Direction, Ingress, Egress}
use Rattle.fx_model.specs.Machine.{holds, rules_found, rules_in}
use Rattle.fx_model.specs.Tables.{ChainName, host_hook}
use Rattle.fx_model.specs.ViewTables.{policy_chains, profile_chains}
use Rattle.fx_model.specs.Walk.{Ended, Accepted, Dropped, Through, over_rule, over_rules, over_chain}
use Rattle.fx_laws.proofs.EntryLookups.{last_at, get-collected}
use Rattle.fx_walk.specs.FromChain.{LastSeen, hop_at, last_match, none_met}
use Rattle.fx_walk.proofs.FromRuns.{last_of}
use Rattle.fx_walk.proofs.KnownWalks.{look_in, over_look, same_look}
use Rattle.fx_hostep.specs.declared.failsafe.Failsafe.{Failsafe}
use Rattle.fx_hostep.specs.HostTables.{Written, failsafe_chains, host_chains, host_chains_of, host_tables_of, hook_chains, is_host, roots_for}

one_entry : {X : Type 0} (k : List ℕ) (x : X) → maps.entries (maps.insert (maps.empty {X = X} {R = slice_cmp nat_cmp}) k x) ≡ (k, x) ∷ []
one_entry k x = maps.entries-insert nat_list_cmp_total maps.empty k x ∙ ap (maps.put (slice_cmp nat_cmp) k x) (entries-empty (slice_cmp nat_cmp))

-- ---- a node with one host endpoint

abbrev any_side : ViewSide
any_side = record { nets = []; not_nets = []; set = None; not_set = None; ports = []; not_ports = [] }

-- TCP to port 443
abbrev to_web : ViewRule
to_web = record {
  action = Allow;
  never = false;
  protocol = Some (record { 0 = 6 });
  not_protocol = None;
  icmp = None;
  not_icmp = None;
  source = any_side;
  destination = record any_side { ports = Range (record { low = 443; high = 443; ascending = lit≤ tt }) ∷ [] };
}

abbrev web : ViewPolicy
web = record { id = Global (codes "s"); ingress = to_web ∷ []; egress = [] }

abbrev default_tier : ViewTier
default_tier = record { name = codes "default"; pass_at_end = false; policies = codes "gnp/s" ∷ [] }

abbrev endpoint : ViewEndpoint
endpoint = record { ns = []; name = codes "h1"; ingress = default_tier ∷ []; egress = []; profiles = [] }

abbrev node : View
node = record {
  sets = maps.empty;
  policies = maps.insert maps.empty (codes "gnp/s") web;
  profiles = maps.empty;
  endpoints = maps.insert maps.empty (codes "eth0") endpoint;
}

-- the port of SSH is open to the node
abbrev failsafe : Failsafe
failsafe = record { inbound = record { proto = record { 0 = 6 }; number = 22 } ∷ []; outbound = [] }

abbrev known : List Written
known =
    policy_chains (codes "gnp/s", web) ++ (failsafe_chains failsafe
    ++ (host_chains (codes "eth0", endpoint) ++ (roots_for ((codes "eth0", endpoint) ∷ []) ++ hook_chains)))

known_chains : host_chains_of node failsafe ≡ known
known_chains =
    ap (λ ps. flat_map policy_chains ps ++ (flat_map profile_chains (maps.entries node.profiles)
    ++ (failsafe_chains failsafe ++ (flat_map host_chains (filter is_host (maps.entries node.endpoints)) ++ (roots_for (filter is_host (maps.entries node.endpoints)) ++ hook_chains))))) (one_entry (codes "gnp/s") web)
    ∙ ap (λ fs. policy_chains (codes "gnp/s", web) ++ (flat_map profile_chains fs
    ++ (failsafe_chains failsafe ++ (flat_map host_chains (filter is_host (maps.entries node.endpoints)) ++ (roots_for (filter is_host (maps.entries node.endpoints)) ++ hook_chains))))) (entries-empty (slice_cmp nat_cmp))
    ∙ ap (λ (es : List (List ℕ × ViewEndpoint)). policy_chains (codes "gnp/s", web) ++ (failsafe_chains failsafe
    ++ (flat_map host_chains (filter is_host es) ++ (roots_for (filter is_host es) ++ hook_chains)))) (one_entry (codes "eth0") endpoint)

-- ---- its chains

known_lengths : map {B = ChainName × ℕ} (λ (w : Written). (w.0, length w.1)) known ≡ (codes "cali-pi-gnp/s", 2)
    ∷ (codes "cali-po-gnp/s", 0)
    ∷ (codes "cali-failsafe-in", 1)
    ∷ (codes "cali-failsafe-out", 0)
    ∷ (codes "cali-fh-eth0", 9)
    ∷ (codes "cali-th-eth0", 5)
    ∷ (codes "cali-from-host-endpoint", 1)
    ∷ (codes "cali-to-host-endpoint", 1)
    ∷ (codes "cali-INPUT", 2)
    ∷ (codes "cali-OUTPUT", 2)
    ∷ []
known_lengths = refl

-- ---- runs over them

-- a TCP packet to this port
abbrev packet : List ℕ → List ℕ → ℕ → Packet
packet into out port = record {
  iface_in = into;
  iface_out = out;
  src = record { 0 = 0xc6336401 };
  dst = record { 0 = 0xc0000207 };
  proto = record { 0 = 6 };
  sport = 40000;
  dport = port;
  icmp_kind = 0;
  icmp_code = 0;
  state = New;
}

abbrev walk : Direction → Packet → Ended LastSeen
walk d a = over_chain last_match (holds node.sets a) (host_tables_of node failsafe).chains 5 (host_hook d) 0 (last_of none_met)

walk_known : (d : Direction) (a : Packet) → walk d a ≡ over_look last_match (holds node.sets a) (look_in known) 5 (host_hook d) 0 (last_of none_met)
walk_known d a = same_look last_match (holds node.sets a) (host_tables_of node failsafe).chains (look_in known) looked 5 (host_hook d) 0 (last_of none_met)
  where
    looked : (q : ChainName) → rules_in (host_tables_of node failsafe).chains q ≡ look_in known q
    looked q = ap rules_found (get-collected nat_list_cmp_total (host_chains_of node failsafe) q ∙ ap (λ cs. last_at (slice_cmp nat_cmp) cs q None) known_chains)

-- the failsafe port is open
to_failsafe_port : walk Ingress (packet (codes "eth0") [] 22) ≡ Accepted (record { reason = None; last = Some (hop_at (codes "cali-failsafe-in") 1) })
unfolding over_look over_rules over_rule holds
to_failsafe_port = walk_known Ingress (packet (codes "eth0") [] 22) ∙ refl

-- the policy's rule allows, and the endpoint's chain is left by its seventh rule
to_allowed_port : walk Ingress (packet (codes "eth0") [] 443) ≡ Through 0x10000 (record { reason = Some (reason.Policy (Global (codes "s")) 1); last = Some (hop_at (codes "cali-fh-eth0") 7) })
unfolding over_look over_rules over_rule holds
to_allowed_port = walk_known Ingress (packet (codes "eth0") [] 443) ∙ refl

-- the end of the tier denies
to_denied_port : walk Ingress (packet (codes "eth0") [] 80) ≡ Dropped (record { reason = Some (reason.EndOfTier (codes "default")); last = Some (hop_at (codes "cali-fh-eth0") 8) })
unfolding over_look over_rules over_rule holds
to_denied_port = walk_known Ingress (packet (codes "eth0") [] 80) ∙ refl

-- a failsafe port for packets in opens nothing for packets out
from_failsafe_port : walk Egress (packet [] (codes "eth0") 22) ≡ Dropped (record { reason = Some reason.NoProfileRule; last = Some (hop_at (codes "cali-th-eth0") 5) })
unfolding over_look over_rules over_rule holds
from_failsafe_port = walk_known Egress (packet [] (codes "eth0") 22) ∙ refl

-- an interface without a host endpoint is free
free : walk Ingress (packet (codes "eth1") [] 80) ≡ Through 0 (record { reason = None; last = Some (hop_at (codes "cali-INPUT") 2) })
unfolding over_look over_rules over_rule holds
free = walk_known Ingress (packet (codes "eth1") [] 80) ∙ refl
