-- What is known of the tables that a node's kernel has, as an input goes on.
use Rattle.std.specs.Prelude.{Bool, true, false, if◌then◌else◌, Option, Some, None}
use Rattle.fx_found.specs.declared.found.Found.{Found}
use Rattle.fx_restart_lines.specs.declared.finding.Finding.{Finding}
use Rattle.fx_restart_lines.specs.declared.finding.Finding.TheVariants.{Awaited, Missing, Read}

-- no line but blank ones was there yet
abbrev pub is_awaited : Finding → Bool
is_awaited Awaited = true
is_awaited Missing = false
is_awaited (Read found) = false

-- behind a line that is refused, no tables are found any more, unless they were
abbrev pub passed : Finding → Finding
passed finding = if is_awaited finding then Missing else finding

abbrev pub read_in : Finding → Option Found
read_in Awaited = None
read_in Missing = None
read_in (Read found) = Some found

-- what was found, where the resources are in sync
abbrev pub found_in_sync : Bool → Finding → Option Found
found_in_sync in_sync finding = if in_sync then read_in finding else None
