-- The output of a run over resources whose rules may name services: what each line writes, and what stands between two
-- lines. It is the output of a replay over the updates that stand for those of the lines, but that a packet's reasons
-- name rules by their places as they are written. The rules that it follows stand in docs/INPUT.md and docs/OUTPUT.md
-- of this repository.
use Rattle.std.specs.Prelude.{ℕ, List, [], Option, Some, None, Result, Ok, Err}
use Rattle.std.specs.FinMap as maps
use Rattle.fx_names.specs.Digests.{Digest}
use Rattle.fx_names.specs.Claims.{Clash}
use Rattle.fx_model.specs.declared.resources.Resources.{Resources}
use Rattle.fx_model.specs.Claims.{clash}
use Rattle.fx_model.specs.ViewTables.{tables_of}
use Rattle.fx_fields.specs.declared.refusal.Refusal.{Refusal}
use Rattle.fx_fields.specs.declared.refusal.Refusal.TheVariants.{Taken}
use Rattle.fx_lines.specs.declared.commands.Command.TheVariants as replay_command
use Rattle.fx_print.specs.Texts.{refusal_line}
use Rattle.fx_program.specs.Answers.{accepted_text, by_answers, settled}
use Rattle.fx_program.specs.Meanings.{Meaning}
use Rattle.fx_replay.specs.Output as replays
use Rattle.fx_services.specs.declared.lowered.Lowered.{Lowered}
use Rattle.fx_services.specs.Places.{PlacesByKey}
use Rattle.fx_service_lines.specs.declared.command.ServicesCommand.{ServicesCommand}
use Rattle.fx_service_lines.specs.declared.command.ServicesCommand.TheVariants as command
use Rattle.fx_service_lines.specs.Commands.{command_of}
use Rattle.felix_services.specs.Noting.{noted_change}
use Rattle.felix_services.specs.PacketLines.{packet_text}
use Rattle.felix_services.specs.Words.{usage_line}

-- what stands between two lines: the replay of the updates that stand for those of the lines, and the lists of places,
-- now and as they were at the last flush
pub record State : Type 0 where
  pub replay : replays.State
  pub places : PlacesByKey
  pub flushed : PlacesByKey

-- before the first line of the node of this name
abbrev pub start : Digest → List ℕ → State
start dg node = record { replay = replays.start dg node; places = maps.empty; flushed = maps.empty }

-- ---- what a line says of the resources

-- an update whose claims clash is refused, with the first clash
abbrev pub unless_taken : Option Clash → ServicesCommand → Result ServicesCommand Refusal
unless_taken None asked = Ok asked
unless_taken (Some c) asked = Err (Taken c.name c.holder)

abbrev pub change_answer : Digest → Resources → Lowered → Result ServicesCommand Refusal
change_answer dg R l = unless_taken (clash dg R l.update) (command.Change l)

abbrev pub checked : Digest → Resources → Result ServicesCommand Refusal → Result ServicesCommand Refusal
checked dg R (Ok command.Blank) = Ok command.Blank
checked dg R (Ok command.Tables) = Ok command.Tables
checked dg R (Ok command.Flush) = Ok command.Flush
checked dg R (Ok (command.Change l)) = change_answer dg R l
checked dg R (Ok (command.Packet a)) = Ok (command.Packet a)
checked dg R (Err r) = Err r

-- the command or the refusal of a line
abbrev pub answer_of : State → List ℕ → Result ServicesCommand Refusal
answer_of s line = checked s.replay.digest s.replay.resources (command_of line)

-- ---- what a line does

abbrev pub accepted : State → ServicesCommand → State
accepted s command.Blank = s
accepted s command.Tables = s
accepted s command.Flush =
    record s { replay = replays.accepted s.replay (replay_command.Flush None); flushed = s.places }
accepted s (command.Change l) =
    record s { replay = replays.accepted s.replay (replay_command.Update l.update); places = noted_change s.places l }
accepted s (command.Packet a) = s

-- a refused line changes nothing
abbrev pub next : State → List ℕ → State
next s line = settled accepted s (answer_of s line)

-- ---- what a line writes

abbrev pub command_text : State → ServicesCommand → List ℕ
command_text s command.Blank = []
command_text s command.Tables = replays.command_text s.replay replay_command.Tables
command_text s command.Flush = replays.command_text s.replay (replay_command.Flush None)
command_text s (command.Change l) = []
command_text s (command.Packet a) = packet_text (tables_of s.replay.sent) s.flushed a

-- what a line writes that is accepted
abbrev pub text : State → List ℕ → List ℕ
text s line = accepted_text command_text s (answer_of s line)

-- ---- the whole

-- of the node that the words name
abbrev pub meaning : Digest → Meaning (List ℕ) State Refusal
meaning dg = by_answers usage_line (start dg) answer_of accepted command_text refusal_line
