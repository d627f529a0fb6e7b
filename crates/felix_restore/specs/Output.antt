-- The output of a restart: what stands between two lines, what a line makes of it, and what is written behind the last.
-- The rules that it follows stand in docs/INPUT.md and docs/OUTPUT.md of this repository.
use Rattle.std.specs.Prelude.{ℕ, List, ◌++◌, length, Option, Some, None, Result, Ok, Err, codes}
use Rattle.fx_names.specs.Digests.{Digest}
use Rattle.fx_names.specs.Claims.{Clash}
use Rattle.fx_model.specs.declared.resources.Update.{Update}
use Rattle.fx_model.specs.declared.resources.Resources.{Resources}
use Rattle.fx_model.specs.Resources.{after, empty_resources}
use Rattle.fx_model.specs.Batches.{after_all, clash_all}
use Rattle.fx_model.specs.Claims.{clash}
use Rattle.fx_model.specs.Tables.{Tables}
use Rattle.fx_model.specs.Views.{view_of}
use Rattle.fx_model.specs.ViewTables.{tables_of}
use Rattle.fx_fields.specs.declared.refusal.Refusal.TheVariants.{Taken}
use Rattle.fx_lines.specs.Commands.{value_in}
use Rattle.fx_found.specs.declared.found.Found.{Found}
use Rattle.fx_reconcile.specs.Operations.{operations}
use Rattle.fx_leading.specs.Lines.{count_line, op_lines}
use Rattle.fx_restart_lines.specs.declared.command.RestoreCommand.{RestoreCommand}
use Rattle.fx_restart_lines.specs.declared.command.RestoreCommand.TheVariants as command
use Rattle.fx_restart_lines.specs.declared.refusal.RestoreRefusal.{RestoreRefusal}
use Rattle.fx_restart_lines.specs.declared.refusal.RestoreRefusal.TheVariants.{Line}
use Rattle.fx_restart_lines.specs.declared.finding.Finding.{Finding}
use Rattle.fx_restart_lines.specs.declared.finding.Finding.TheVariants.{Awaited, Read}
use Rattle.fx_restart_lines.specs.Finding.{passed, found_in_sync}
use Rattle.fx_restart_lines.specs.Reading.{said_of}

-- what stands between two lines: the digest by which names are made, which stays, the resources and what was found
pub record State : Type 0 where
  pub digest : Digest
  pub resources : Resources
  pub finding : Finding

-- before the first line of the node of this name
abbrev pub start : Digest → List ℕ → State
start dg node = record {
  digest = dg;
  resources = empty_resources node;
  finding = Awaited;
}

-- ---- what a line says of the resources

-- updates whose claims clash are refused, with the first clash
abbrev pub unless_taken : Option Clash → RestoreCommand → Result RestoreCommand RestoreRefusal
unless_taken None c = Ok c
unless_taken (Some clash) c = Err (Line (Taken clash.name clash.holder))

abbrev pub update_answer : Digest → Resources → Update → Result RestoreCommand RestoreRefusal
update_answer dg R u = unless_taken (clash dg R u) (command.Update u)

abbrev pub batch_answer : Digest → Resources → List Update → Result RestoreCommand RestoreRefusal
batch_answer dg R us = unless_taken (clash_all dg R us) (command.Batch us)

abbrev pub checked : Digest → Resources → Result RestoreCommand RestoreRefusal → Result RestoreCommand RestoreRefusal
checked dg R (Ok command.Blank) = Ok command.Blank
checked dg R (Ok (command.Found found)) = Ok (command.Found found)
checked dg R (Ok (command.Update u)) = update_answer dg R u
checked dg R (Ok (command.Batch us)) = batch_answer dg R us
checked dg R (Err r) = Err r

-- the command or the refusal of a line
abbrev pub answer_of : State → List ℕ → Result RestoreCommand RestoreRefusal
answer_of s line = checked s.digest s.resources (said_of s.finding (value_in line))

-- ---- what a line does

abbrev pub accepted : State → RestoreCommand → State
accepted s command.Blank = s
accepted s (command.Found found) = record s { finding = Read found }
accepted s (command.Update u) = record s { resources = after s.resources u }
accepted s (command.Batch us) = record s { resources = after_all s.resources us }

-- a refused line changes nothing, but that the first one that isn't blank is past
abbrev pub settled : State → Result RestoreCommand RestoreRefusal → State
settled s (Ok c) = accepted s c
settled s (Err r) = record s { finding = passed s.finding }

abbrev pub next : State → List ℕ → State
next s line = settled s (answer_of s line)

-- ---- what is written behind the last line

-- the tables that the node's kernel is to have
abbrev pub goal_of : State → Tables
goal_of s = tables_of (view_of s.digest s.resources)

-- what was found, where the resources are in sync
abbrev pub led_from : State → Option Found
led_from s = found_in_sync s.resources.in_sync s.finding

-- the number of operations
abbrev pub restored_line : ℕ → List ℕ
restored_line n = count_line (codes "restored") n

abbrev pub waiting_line : List ℕ
waiting_line = codes "restored 0 waiting\n"

-- the operations from these tables to a goal, and their number
abbrev pub led_text : Tables → Tables → List ℕ
led_text now goal = op_lines goal (operations now goal) ++ restored_line (length (operations now goal))

-- those from what was found
abbrev pub restored_text : Option Found → Tables → List ℕ
restored_text None goal = waiting_line
restored_text (Some found) goal = led_text found.tables goal

unfoldable pub closing : State → List ℕ
closing s = restored_text (led_from s) (goal_of s)
