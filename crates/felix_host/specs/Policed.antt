-- What is asked of a packet of a process. Its verdict and reason are those of the packet machine's run from the hook,
-- step by step as iptables(8) tells it, over the tables of the last flush; and where nothing changed since, they are
-- the policy reference's answer, by Calico's resource reference (`projectcalico.org/v3`) and the failsafe ports, read
-- from the resources alone.
use Rattle.std.specs.Prelude.{◌≡◌, ℕ, List, Ok}
use Rattle.std.specs.List.{concat}
use Rattle.fx_names.specs.Digests.{Digest}
use Rattle.fx_model.specs.declared.packet.State.TheVariants.{New}
use Rattle.fx_rules.specs.Rules.{direction_of}
use Rattle.fx_run.specs.Run.{state_after}
use Rattle.fx_hostep.specs.declared.packet.HostPacket.{HostPacket}
use Rattle.fx_hostep.specs.HostRuns.{HostDecides}
use Rattle.fx_hostep.specs.HostVerdict.{HostAnswer, host_verdict}
use Rattle.fx_host_lines.specs.declared.command.HostCommand.TheVariants as command
use Rattle.felix_host.specs.Flushing.{IsFlushed}
use Rattle.felix_host.specs.Output.{State, start, next, answer_of, text}
use Rattle.felix_host.specs.PacketLines.{answer_lines}

-- the machine's run over the tables, and the lines that it gives
pub record TellsRun (s : State) (line : List ℕ) (p : HostPacket) : Type 0 where
  pub answer : HostAnswer
  pub run : HostDecides s.tables (direction_of p.inbound) p.packet answer.verdict answer.why
  pub output : text s line ≡ concat (answer_lines p.iface answer)

-- after any lines, a packet's line is answered so
abbrev pub PacketsAreRuns : Digest → List ℕ → Type 0
PacketsAreRuns dg node =
    (lines : List (List ℕ)) (line : List ℕ) (p : HostPacket) → let s = state_after next (start dg node) lines in
    answer_of s line ≡ Ok (command.Packet p) → TellsRun s line p

-- what the policy reference says of it
abbrev pub reference : State → HostPacket → HostAnswer
reference s p = host_verdict s.resources s.failsafe (direction_of p.inbound) p.iface p.packet

-- the run comes to the reference's verdict and reason, and the lines tell them
pub record TellsPolicy (s : State) (line : List ℕ) (p : HostPacket) : Type 0 where
  pub run : HostDecides s.tables (direction_of p.inbound) p.packet (reference s p).verdict (reference s p).why
  pub output : text s line ≡ concat (answer_lines p.iface (reference s p))

-- after any lines, a line with a first packet is answered so, where the tables are those of the resources and the
-- failsafe ports: a flush leads there, and all lines behind it but changes leave it so (`TablesStay`)
abbrev pub KeepsPolicy : Digest → List ℕ → Type 0
KeepsPolicy dg node =
    (lines : List (List ℕ)) (line : List ℕ) (p : HostPacket) → let s = state_after next (start dg node) lines in
    answer_of s line ≡ Ok (command.Packet p) → p.packet.state ≡ New → IsFlushed s → TellsPolicy s line p
