-- A program's exit status for each end of a run, as docs/OUTPUT.md of this repository lists them.
use Rattle.std.specs.Prelude.{ℕ}
use Rattle.fx_run.specs.declared.status.Status.{Status}
use Rattle.fx_run.specs.declared.status.Status.TheVariants.{Done, Refused, Usage, ReadFault, WriteFault, Memory, InputTooLong}

abbrev pub exit_status : Status → ℕ
exit_status Done = 0
exit_status Refused = 1
exit_status Usage = 2
exit_status ReadFault = 3
exit_status WriteFault = 4
exit_status Memory = 5
exit_status InputTooLong = 6
