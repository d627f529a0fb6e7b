-- What is asked of a packet line. Its path, reasons and verdict are those of the packet machine, step by step as iptables(8) tells
-- it, over the tables of what was sent; and where each accepted update and batch was flushed, they are the policy reference's answer, by
-- Calico's resource reference (`projectcalico.org/v3`), read from the resources alone.
use Rattle.std.specs.Prelude.{◌≡◌, ℕ, List, [], Option, Ok}
use Rattle.std.specs.List.{concat}
use Rattle.fx_model.specs.declared.packet.Packet.{Packet}
use Rattle.fx_model.specs.declared.packet.State.TheVariants.{New}
use Rattle.fx_model.specs.declared.packet.Verdict.{Verdict}
use Rattle.fx_model.specs.declared.chain.Reason.{Reason}
use Rattle.fx_model.specs.declared.resources.Resources.{Resources}
use Rattle.fx_model.specs.Machine.{Traces}
use Rattle.fx_model.specs.Policy.{packet_verdict}
use Rattle.fx_model.specs.Tables.{ChainName}
use Rattle.fx_model.specs.ViewTables.{tables_of}
use Rattle.fx_names.specs.Digests.{Digest}
use Rattle.fx_model.specs.Views.{view_of}
use Rattle.fx_lines.specs.declared.commands.Command.TheVariants as command
use Rattle.fx_model.specs.PacketTexts.{packet_lines}
use Rattle.fx_replay.specs.Output.{State, start, next, answer_of, text}
use Rattle.fx_run.specs.Run.{state_after}

-- the machine's run over the tables of the sent view, and the lines that it gives
pub record TellsRun (s : State) (line : List ℕ) (a : Packet) : Type 0 where
  pub path : List (ChainName × ℕ)
  pub verdict : Verdict
  pub egress : Option Reason
  pub ingress : Option Reason
  pub run : Traces (tables_of s.sent) a [] path verdict egress ingress
  pub output : text s line ≡ concat (packet_lines path a.iface_in a.iface_out egress ingress verdict)

-- after any lines, a packet's line is answered so
abbrev pub PathsAreRuns : Digest → List ℕ → Type 0
PathsAreRuns dg node =
    (lines : List (List ℕ)) (line : List ℕ) (a : Packet) → let s = state_after next (start dg node) lines in
    answer_of s line ≡ Ok (command.Packet a) → TellsRun s line a

-- a path, and what the policy reference says of each side and of the whole
abbrev pub policy_lines : List (ChainName × ℕ) → Resources → Packet → List (List ℕ)
policy_lines path R a =
    let answer = packet_verdict R a in packet_lines path a.iface_in a.iface_out answer.egress answer.ingress answer.verdict

-- the run comes to the reference's verdict and reasons, and the lines tell its path and those
pub record TellsPolicy (s : State) (line : List ℕ) (a : Packet) : Type 0 where
  pub path : List (ChainName × ℕ)
  pub run : let answer = packet_verdict s.resources a in Traces (tables_of s.sent) a [] path answer.verdict answer.egress answer.ingress
  pub output : text s line ≡ concat (policy_lines path s.resources a)

-- after any lines, a line with a first packet is answered so, where the sent view is that of the resources: a flush that leaves no
-- message leads there, and all lines behind it but accepted updates and batches leave it so (`FlushesSendAll`)
abbrev pub KeepsPolicy : Digest → List ℕ → Type 0
KeepsPolicy dg node =
    (lines : List (List ℕ)) (line : List ℕ) (a : Packet) → let s = state_after next (start dg node) lines in
    answer_of s line ≡ Ok (command.Packet a) → a.state ≡ New → s.sent ≡ view_of s.digest s.resources → TellsPolicy s line a
