-- What the updates of a line keep: their forms, and that they put local endpoints on interfaces of workloads alone.
use Rattle.fx_lines.specs.Formed.{IsReadUpdate, IsReadBatch}
use Rattle.fx_restart_lines.specs.declared.command.RestoreCommand.{RestoreCommand}
use Rattle.fx_restart_lines.specs.declared.command.RestoreCommand.TheVariants as command

abbrev pub IsReadRestore : RestoreCommand → Type 0
IsReadRestore command.Blank = Unit {0}
IsReadRestore (command.Found found) = Unit {0}
IsReadRestore (command.Update u) = IsReadUpdate u
IsReadRestore (command.Batch us) = IsReadBatch us
