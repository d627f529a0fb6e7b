-- The output of a run over host endpoints: what each line writes, and what stands between two lines. The rules that it
-- follows stand in docs/INPUT.md and docs/OUTPUT.md of this repository.
use Rattle.std.specs.Prelude.{ℕ, List, [], ◌++◌, length, Option, Some, None, Result, Ok, Err, codes}
use Rattle.std.specs.List.{concat}
use Rattle.fx_names.specs.Digests.{Digest}
use Rattle.fx_names.specs.Claims.{Clash}
use Rattle.fx_model.specs.declared.resources.Resources.{Resources}
use Rattle.fx_model.specs.declared.resources.Update.{Update}
use Rattle.fx_model.specs.Claims.{clash}
use Rattle.fx_model.specs.Resources.{after, empty_resources}
use Rattle.fx_model.specs.Tables.{Tables}
use Rattle.fx_model.specs.TableTexts.{table_lines}
use Rattle.fx_model.specs.Views.{empty_view, view_of}
use Rattle.fx_fields.specs.declared.refusal.Refusal.{Refusal}
use Rattle.fx_fields.specs.declared.refusal.Refusal.TheVariants.{Taken}
use Rattle.fx_print.specs.Texts.{refusal_line}
use Rattle.fx_program.specs.Answers.{accepted_text, by_answers, settled}
use Rattle.fx_program.specs.Meanings.{Meaning}
use Rattle.fx_reconcile.specs.Operations.{operations}
use Rattle.fx_leading.specs.Lines.{count_line, op_lines}
use Rattle.fx_hostep.specs.declared.failsafe.Failsafe.{Failsafe}
use Rattle.fx_hostep.specs.FailsafePorts.{no_failsafe}
use Rattle.fx_hostep.specs.HostTables.{host_tables_of}
use Rattle.fx_host_lines.specs.declared.command.HostCommand.{HostCommand}
use Rattle.fx_host_lines.specs.declared.command.HostCommand.TheVariants as command
use Rattle.fx_host_lines.specs.Commands.{command_of}
use Rattle.felix_host.specs.PacketLines.{packet_text}
use Rattle.felix_host.specs.Words.{usage_line}

-- what stands between two lines: the digest by which names are made, which stays, the resources and the failsafe ports,
-- and the tables of the last flush
pub record State : Type 0 where
  pub digest : Digest
  pub resources : Resources
  pub failsafe : Failsafe
  pub tables : Tables

-- before the first line of the node of this name
abbrev pub start : Digest → List ℕ → State
start dg node = record {
  digest = dg;
  resources = empty_resources node;
  failsafe = no_failsafe;
  tables = host_tables_of empty_view no_failsafe;
}

-- the tables that a flush leads to
abbrev pub goal_of : State → Tables
goal_of s = host_tables_of (view_of s.digest s.resources) s.failsafe

-- ---- what a line says of the resources

-- an update whose claims clash is refused, with the first clash
abbrev pub unless_taken : Option Clash → HostCommand → Result HostCommand Refusal
unless_taken None c = Ok c
unless_taken (Some clash) c = Err (Taken clash.name clash.holder)

abbrev pub update_answer : Digest → Resources → Update → Result HostCommand Refusal
update_answer dg R u = unless_taken (clash dg R u) (command.Update u)

abbrev pub checked : Digest → Resources → Result HostCommand Refusal → Result HostCommand Refusal
checked dg R (Ok command.Blank) = Ok command.Blank
checked dg R (Ok command.Flush) = Ok command.Flush
checked dg R (Ok command.Tables) = Ok command.Tables
checked dg R (Ok (command.Update u)) = update_answer dg R u
checked dg R (Ok (command.Failsafe f)) = Ok (command.Failsafe f)
checked dg R (Ok (command.Packet p)) = Ok (command.Packet p)
checked dg R (Err r) = Err r

-- the command or the refusal of a line
abbrev pub answer_of : State → List ℕ → Result HostCommand Refusal
answer_of s line = checked s.digest s.resources (command_of line)

-- ---- what a line does

-- a flush leads the tables to their goal, tags and all
abbrev pub accepted : State → HostCommand → State
accepted s command.Blank = s
accepted s command.Flush = record s { tables = goal_of s }
accepted s command.Tables = s
accepted s (command.Update u) = record s { resources = after s.resources u }
accepted s (command.Failsafe f) = record s { failsafe = f }
accepted s (command.Packet p) = s

-- a refused line changes nothing
abbrev pub next : State → List ℕ → State
next s line = settled accepted s (answer_of s line)

-- ---- what a line writes

-- the number of operations; a chain that changes in its tags alone takes none
abbrev pub applied_line : ℕ → List ℕ
applied_line n = count_line (codes "applied") n

-- the operations from these tables to a goal, and their number
abbrev pub flush_text : Tables → Tables → List ℕ
flush_text now goal = op_lines goal (operations now goal) ++ applied_line (length (operations now goal))

abbrev pub command_text : State → HostCommand → List ℕ
command_text s command.Blank = []
command_text s command.Flush = flush_text s.tables (goal_of s)
command_text s command.Tables = concat (table_lines s.tables)
command_text s (command.Update u) = []
command_text s (command.Failsafe f) = []
command_text s (command.Packet p) = packet_text s.tables p

-- what a line writes that is accepted
abbrev pub text : State → List ℕ → List ℕ
text s line = accepted_text command_text s (answer_of s line)

-- ---- the whole

-- of the node that the words name
abbrev pub meaning : Digest → Meaning (List ℕ) State Refusal
meaning dg = by_answers usage_line (start dg) answer_of accepted command_text refusal_line
