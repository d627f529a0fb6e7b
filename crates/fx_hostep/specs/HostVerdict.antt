-- What resources say of the first packet of a connection to the node's own processes, or from them. From Calico's
-- resource reference (`projectcalico.org/v3`), HostEndpoint: policies apply to a host endpoint as to a workload's, an
-- interface without a host endpoint is free, and no policy closes a failsafe port.
use Rattle.std.specs.Prelude.{ℕ, List, [], ◌∷◌, Bool, true, false, filter, Option, Some, None}
use Rattle.fx_model.specs.declared.ids.ItemKey.{ItemKey}
use Rattle.fx_model.specs.declared.packet.Packet.{Packet}
use Rattle.fx_model.specs.declared.packet.Verdict.{Verdict}
use Rattle.fx_model.specs.declared.packet.Verdict.TheVariants.{Allow}
use Rattle.fx_model.specs.declared.chain.Reason.{Reason}
use Rattle.fx_model.specs.declared.resources.Endpoint.{Endpoint}
use Rattle.fx_model.specs.declared.resources.Resources.{Resources}
use Rattle.fx_model.specs.Directions.{Direction}
use Rattle.fx_model.specs.Policy.{Decision, endpoint_verdict, with_iface}
use Rattle.fx_model.specs.Resources.{served_endpoints}
use Rattle.fx_model.specs.Views.{namespace_of}
use Rattle.fx_hostep.specs.declared.failsafe.Failsafe.{Failsafe}
use Rattle.fx_hostep.specs.FailsafePorts.{is_failsafe}

-- a failsafe port, or a rule's reason
pub data HostWhy : Type 0 where
  OpenPort : HostWhy
  ByRule : Reason → HostWhy

pub record HostAnswer : Type 0 where
  pub verdict : Verdict
  pub why : Option HostWhy

-- ---- host endpoints

-- host endpoints stand in no namespace
abbrev pub is_no_namespace : List ℕ → Bool
is_no_namespace [] = true
is_no_namespace (b ∷ bs) = false

abbrev pub is_host_key : ItemKey → Bool
is_host_key k = is_no_namespace (namespace_of k)

-- the served host endpoint on an interface
abbrev pub host_endpoint_at : Resources → List ℕ → Option Endpoint
host_endpoint_at R iface = with_iface (filter (λ x. is_host_key x.0) (served_endpoints R)) iface

-- ---- a packet in state NEW

-- an interface without a host endpoint is free
abbrev pub unguarded : HostAnswer
unguarded = record { verdict = Allow; why = None }

-- a failsafe port comes before what is decided otherwise
abbrev pub by_ports : Bool → Decision → HostAnswer
by_ports true x = record { verdict = Allow; why = Some OpenPort }
by_ports false x = record { verdict = x.verdict; why = Some (ByRule x.why) }

abbrev pub host_answer : Resources → Failsafe → Direction → Packet → Option Endpoint → HostAnswer
host_answer R f d a None = unguarded
host_answer R f d a (Some e) = by_ports (is_failsafe f d a) (endpoint_verdict R d e a)

-- of a packet on this interface
abbrev pub host_verdict : Resources → Failsafe → Direction → List ℕ → Packet → HostAnswer
host_verdict R f d iface a = host_answer R f d a (host_endpoint_at R iface)
