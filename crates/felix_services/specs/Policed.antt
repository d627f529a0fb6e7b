-- What is asked of a packet line. Its path and verdict are those of the packet machine, step by step as iptables(8)
-- tells it, over the tables of what was sent, and its reasons are that run's, by the places of rules as they are
-- written; and where all was sent, verdict and reasons are those that Calico's resource reference
-- (`projectcalico.org/v3`) gives to the resources as they are written, services by Kubernetes' EndpointSlices
-- (`discovery.k8s.io/v1`).
use Rattle.std.specs.Prelude.{◌≡◌, ℕ, List, [], Option, Ok, option_map}
use Rattle.std.specs.List.{concat}
use Rattle.fx_model.specs.declared.chain.Reason.{Reason}
use Rattle.fx_model.specs.declared.packet.Packet.{Packet}
use Rattle.fx_model.specs.declared.packet.State.TheVariants.{New}
use Rattle.fx_model.specs.declared.packet.Verdict.{Verdict}
use Rattle.fx_model.specs.Machine.{Traces}
use Rattle.fx_model.specs.PacketTexts.{packet_lines}
use Rattle.fx_model.specs.Tables.{ChainName}
use Rattle.fx_model.specs.ViewTables.{tables_of}
use Rattle.fx_names.specs.Digests.{Digest}
use Rattle.fx_fields.specs.declared.policy_fields.PolicyType.TheVariants.{Ingress, Egress}
use Rattle.fx_run.specs.Run.{state_after}
use Rattle.fx_services.specs.Places.{PlacesByKey, reason_as_written}
use Rattle.fx_services.specs.Written.{Written}
use Rattle.fx_services.specs.WrittenVerdict.{written_verdict}
use Rattle.fx_service_lines.specs.declared.command.ServicesCommand.TheVariants as command
use Rattle.felix_services.specs.Flushing.{IsFlushed}
use Rattle.felix_services.specs.Output.{State, start, next, answer_of, text}
use Rattle.felix_services.specs.WrittenRuns.{written_behind}

-- ---- any packet

-- the lines of a run, with its reasons by these lists of places
abbrev pub told_lines : PlacesByKey → Packet → List (ChainName × ℕ) → Verdict → (egress ingress : Option Reason)
    → List (List ℕ)
told_lines P a path verdict egress ingress =
    packet_lines path a.iface_in a.iface_out
    (option_map (reason_as_written P Egress) egress) (option_map (reason_as_written P Ingress) ingress) verdict

-- the machine's run over the tables of the sent view, and the lines that it gives
pub record TellsRun (s : State) (line : List ℕ) (a : Packet) : Type 0 where
  pub path : List (ChainName × ℕ)
  pub verdict : Verdict
  pub egress : Option Reason
  pub ingress : Option Reason
  pub run : Traces (tables_of s.replay.sent) a [] path verdict egress ingress
  pub output : text s line ≡ concat (told_lines s.flushed a path verdict egress ingress)

-- after any lines, a packet's line is answered so
abbrev pub PathsAreRuns : Digest → List ℕ → Type 0
PathsAreRuns dg node =
    (lines : List (List ℕ)) (line : List ℕ) (a : Packet) → let s = state_after next (start dg node) lines in
    answer_of s line ≡ Ok (command.Packet a) → TellsRun s line a

-- ---- a first packet, where all was sent

-- a path, and what the resources as they are written say of each side and of the whole
abbrev pub written_lines : List (ChainName × ℕ) → Written → Packet → List (List ℕ)
written_lines path W a =
    let answer = written_verdict W a in
    packet_lines path a.iface_in a.iface_out answer.egress answer.ingress answer.verdict

-- the run comes to their verdict, and the lines tell its path, and their reasons and verdict
pub record TellsServices (W : Written) (s : State) (line : List ℕ) (a : Packet) : Type 0 where
  pub path : List (ChainName × ℕ)
  pub egress : Option Reason
  pub ingress : Option Reason
  pub run : Traces (tables_of s.replay.sent) a [] path (written_verdict W a).verdict egress ingress
  pub output : text s line ≡ concat (written_lines path W a)

-- after any lines, a line with a first packet is answered so, where all was sent: a flush leads there, and all lines
-- behind it but accepted changes leave it so (`FlushesSendAll`)
abbrev pub KeepsServices : Digest → List ℕ → Type 0
KeepsServices dg node =
    (lines : List (List ℕ)) (line : List ℕ) (a : Packet) → let s = state_after next (start dg node) lines in
    answer_of s line ≡ Ok (command.Packet a) → a.state ≡ New → IsFlushed s
    → TellsServices (written_behind dg node lines) s line a
