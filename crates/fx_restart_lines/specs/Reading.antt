-- What a line of a restart says. docs/INPUT.md of this repository lists the lines. The first line that isn't blank
-- holds the rows of the tables that were found, and each line behind it puts or deletes resources, or says that they
-- are in sync.
use Rattle.std.specs.Prelude.{ℕ, List, [], ◌∷◌, ◌++◌, Bool, true, false, if◌then◌else◌, Option, Some, None, option_and_then, Result, Ok, Err, codes}
use Rattle.serde_json.specs.Data.{Data, Items, no_items, item}
use Rattle.serde_json.specs.Find.{as_str, as_array}
use Rattle.fx_model.specs.declared.resources.Update.{Update}
use Rattle.fx_fields.specs.Fields.{field}
use Rattle.fx_fields.specs.declared.refusal.Refusal.{Refusal}
use Rattle.fx_fields.specs.declared.refusal.Refusal.TheVariants.{Read, LineTooLong, BadJson, BadLine, Taken}
use Rattle.fx_lines.specs.Commands.{update_in, batch_in, by_value}
use Rattle.fx_found.specs.Found.{found_of}
use Rattle.fx_found.specs.declared.found.Found.{Found}
use Rattle.fx_found.specs.declared.found.FoundFault.{FoundFault}
use Rattle.fx_restart_lines.specs.declared.command.RestoreCommand.{RestoreCommand}
use Rattle.fx_restart_lines.specs.declared.command.RestoreCommand.TheVariants as command
use Rattle.fx_restart_lines.specs.declared.refusal.RestoreRefusal.{RestoreRefusal}
use Rattle.fx_restart_lines.specs.declared.refusal.RestoreRefusal.TheVariants.{Line, FoundMissing, Rows}
use Rattle.fx_restart_lines.specs.declared.finding.Finding.{Finding}
use Rattle.fx_restart_lines.specs.Finding.{is_awaited}

-- ---- the first line that isn't blank

-- these items as texts, behind those that are there
abbrev pub texts_from : Items → List (List ℕ) → Option (List (List ℕ))
texts_from no_items rows = Some rows
texts_from (item d ds) rows = option_and_then (λ text. texts_from ds (rows ++ text ∷ [])) (as_str d)

-- the rows, where the value is a list of texts
abbrev pub rows_of : Data → Option (List (List ℕ))
rows_of d = option_and_then (λ ds. texts_from ds []) (as_array d)

-- the tables of the rows, or their first fault
abbrev pub tables_answer : Result Found FoundFault → Result RestoreCommand RestoreRefusal
tables_answer (Ok found) = Ok (command.Found found)
tables_answer (Err fault) = Err (Rows fault)

abbrev pub rows_answer : Option (List (List ℕ)) → Result RestoreCommand RestoreRefusal
rows_answer None = Err (Line BadLine)
rows_answer (Some rows) = tables_answer (found_of rows)

-- the value of the member `found`, where it is the one
abbrev pub found_answer : Option Data → Result RestoreCommand RestoreRefusal
found_answer None = Err FoundMissing
found_answer (Some d) = rows_answer (rows_of d)

-- a line of another shape isn't read further
abbrev pub is_bad_line : Refusal → Bool
is_bad_line (Read fault) = false
is_bad_line LineTooLong = false
is_bad_line BadJson = false
is_bad_line BadLine = true
is_bad_line (Taken name holder) = false

abbrev pub missing_or : Refusal → RestoreRefusal
missing_or r = if is_bad_line r then FoundMissing else Line r

abbrev pub first_value : Option Data → Result RestoreCommand RestoreRefusal
first_value None = Ok command.Blank
first_value (Some d) = found_answer (field (codes "found") d)

abbrev pub first_of : Result (Option Data) Refusal → Result RestoreCommand RestoreRefusal
first_of (Ok value) = first_value value
first_of (Err r) = Err (missing_or r)

-- ---- the lines behind it

abbrev pub batch_said : Result (Option (List Update)) Refusal → Result RestoreCommand Refusal
batch_said (Ok None) = Err BadLine
batch_said (Ok (Some us)) = Ok (command.Batch us)
batch_said (Err r) = Err r

abbrev pub update_or : Result RestoreCommand Refusal → Result (Option Update) Refusal → Result RestoreCommand Refusal
update_or others (Ok None) = others
update_or others (Ok (Some u)) = Ok (command.Update u)
update_or others (Err r) = Err r

-- any member that isn't one for updates is of another program, whatever it holds
abbrev pub change_answer : Data → Result RestoreCommand Refusal
change_answer d = update_or (batch_said (batch_in d)) (update_in d)

abbrev pub later_of : Result (Option Data) Refusal → Result RestoreCommand Refusal
later_of value = by_value command.Blank change_answer value

abbrev pub lined : Result RestoreCommand Refusal → Result RestoreCommand RestoreRefusal
lined (Ok c) = Ok c
lined (Err r) = Err (Line r)

-- ---- a line, by its value or its refusal

unfoldable pub said_of : Finding → Result (Option Data) Refusal → Result RestoreCommand RestoreRefusal
said_of finding value = if is_awaited finding then first_of value else lined (later_of value)
