-- What the run of a host packet decides, by the packet machine of iptables(8), and what the policy reference says of
-- it.
use Rattle.std.specs.Prelude.{◌≡◌, ℕ, List, [], Bool, true, false, ◌||◌, Option, Some, None}
use Rattle.std.specs.Str.{bytes_eq}
use Rattle.std.specs.FinMap as maps
use Rattle.fx_names.specs.Digests.{Digest}
use Rattle.fx_model.specs.declared.chain.Reason.{Reason}
use Rattle.fx_model.specs.declared.packet.Packet.{Packet}
use Rattle.fx_model.specs.declared.packet.State.TheVariants.{New}
use Rattle.fx_model.specs.declared.packet.Verdict.{Verdict}
use Rattle.fx_model.specs.declared.resources.Resources.{Resources}
use Rattle.fx_model.specs.declared.view.View.{View}
use Rattle.fx_model.specs.declared.view.ViewEndpoint.{ViewEndpoint}
use Rattle.fx_model.specs.Claims.{IsClashFree}
use Rattle.fx_model.specs.Closed.{IsClosedView}
use Rattle.fx_model.specs.Directions.{Direction, Ingress, Egress}
use Rattle.fx_model.specs.Formed.{are_formed}
use Rattle.fx_model.specs.Machine.{iface_at}
use Rattle.fx_model.specs.Tables.{ChainName, Chains, Tables, host_hook}
use Rattle.fx_model.specs.ViewPolicy.{HasFormedRules, view_endpoint_verdict}
use Rattle.fx_model.specs.Views.{view_of}
use Rattle.fx_rules.specs.Rules.{direction_of}
use Rattle.fx_walk.specs.FromChain.{DecidesFrom}
use Rattle.fx_walk.specs.declared.outcome.Hop.{Hop}
use Rattle.fx_hostep.specs.declared.failsafe.Failsafe.{Failsafe}
use Rattle.fx_hostep.specs.declared.outcome.HostReason.{HostReason}
use Rattle.fx_hostep.specs.declared.outcome.HostReason.TheVariants as reason
use Rattle.fx_hostep.specs.declared.packet.HostPacket.{HostPacket}
use Rattle.fx_hostep.specs.FailsafePorts.{is_failsafe, have_port_protocols}
use Rattle.fx_hostep.specs.HostTables.{failsafe_chain, host_end, host_tables_of}
use Rattle.fx_hostep.specs.HostVerdict.{HostWhy, OpenPort, ByRule, HostAnswer, is_no_namespace, unguarded, by_ports, host_verdict}

-- ---- host packets

-- a packet from or to a process has no interface on that end of its way
abbrev pub IsAt : Bool → List ℕ → Packet → Type 0
IsAt true iface a = (a.iface_in ≡ iface) × (a.iface_out ≡ [])
IsAt false iface a = (a.iface_out ≡ iface) × (a.iface_in ≡ [])

abbrev pub IsHostPacket : HostPacket → Type 0
IsHostPacket p = IsAt p.inbound p.iface p.packet

-- ---- a run

abbrev pub is_failsafe_chain : ChainName → Bool
is_failsafe_chain c = bytes_eq c (failsafe_chain Ingress) || bytes_eq c (failsafe_chain Egress)

-- the last rule that matched is one for a failsafe port
abbrev pub ends_in_failsafe : Option Hop → Bool
ends_in_failsafe None = false
ends_in_failsafe (Some h) = is_failsafe_chain h.chain

abbrev pub why_by : Bool → Option Reason → Option HostWhy
why_by true why = Some OpenPort
why_by false None = None
why_by false (Some w) = Some (ByRule w)

abbrev pub why_of : Option Reason → Option Hop → Option HostWhy
why_of why last = why_by (ends_in_failsafe last) why

-- the run from the hook of this direction ends with this verdict and this reason
pub record HostDecides (tables : Tables) (d : Direction) (a : Packet) (v : Verdict) (why : Option HostWhy) : Type 0 where
  pub reason : Option Reason
  pub last : Option Hop
  pub run : DecidesFrom tables (host_hook d) a v reason last
  pub told : why ≡ why_of reason last

-- what code answers
abbrev pub why_told : HostReason → HostWhy
why_told reason.Failsafe = OpenPort
why_told (reason.Why w) = ByRule w.now

-- both hooks lead somewhere
pub record HasHooks (chains : Chains) : Type 0 where
  pub inbound : maps.contains_key chains (host_hook Ingress) ≡ true
  pub outbound : maps.contains_key chains (host_hook Egress) ≡ true

-- ---- what a view says

-- a workload's endpoint guards none of the node's own interfaces
abbrev pub if_host : Bool → HostAnswer → HostAnswer
if_host true answer = answer
if_host false answer = unguarded

abbrev pub view_host_answer : View → Failsafe → Direction → Packet → Option ViewEndpoint → HostAnswer
view_host_answer v f d a None = unguarded
view_host_answer v f d a (Some e) =
    if_host (is_no_namespace e.ns) (by_ports (is_failsafe f d a) (view_endpoint_verdict v d e a))

abbrev pub view_host_verdict : View → Failsafe → Direction → List ℕ → Packet → HostAnswer
view_host_verdict v f d iface a = view_host_answer v f d a (maps.get v.endpoints iface)

-- the host tables of a closed view give each first packet the view's verdict and reason
abbrev pub HostTablesAgree : Type 0
HostTablesAgree =
    (v : View) (f : Failsafe) (d : Direction) (a : Packet) → IsClosedView v → HasFormedRules v
    → have_port_protocols f ≡ true → a.state ≡ New
    → let answer = view_host_verdict v f d (iface_at (host_end d) a) a in
    HostDecides (host_tables_of v f) d a answer.verdict answer.why

-- ---- what the policy reference says

-- what resources have that are read and whose updates are let through
pub record IsHostServable (dg : Digest) (R : Resources) : Type 0 where
  pub formed : are_formed R ≡ true
  pub clash_free : IsClashFree dg R

-- the host tables of servable resources give each first packet the policy reference's verdict and reason
abbrev pub HostPolicyIsKept : Type 0
HostPolicyIsKept =
    (dg : Digest) (R : Resources) (f : Failsafe) (d : Direction) (a : Packet) → IsHostServable dg R
    → have_port_protocols f ≡ true → a.state ≡ New
    → let answer = host_verdict R f d (iface_at (host_end d) a) a in
    HostDecides (host_tables_of (view_of dg R) f) d a answer.verdict answer.why

-- a run from a hook has one end
abbrev pub HostRunHasOneEnd : Type 0
HostRunHasOneEnd =
    (tables : Tables) (d : Direction) (a : Packet) (v w : Verdict) (e f : Option HostWhy)
    → HostDecides tables d a v e → HostDecides tables d a w f
    → (v ≡ w) × (e ≡ f)

-- for all resources of which these are the tables, by whatever digest and failsafe ports, this is the policy
-- reference's answer to a packet in state NEW
abbrev pub IsHostAnswer : Tables → HostPacket → Verdict → Option HostWhy → Type 0
IsHostAnswer tables p v why =
    (dg : Digest) (R : Resources) (f : Failsafe) → tables ≡ host_tables_of (view_of dg R) f → IsHostServable dg R
    → have_port_protocols f ≡ true → p.packet.state ≡ New
    → let answer = host_verdict R f (direction_of p.inbound) p.iface p.packet in
    (v ≡ answer.verdict) × (why ≡ answer.why)
