-- What a change among the commands keeps: its update's form, and that no endpoint is put on an interface that isn't one
-- of workloads, at a node that has a name. The record of a slice is of no node.
use Rattle.std.specs.Prelude.{◌≡◌, ◌≢◌, ℕ, List, [], true}
use Rattle.fx_model.specs.Formed.{is_formed, puts_workload_interface}
use Rattle.fx_services.specs.declared.lowered.Lowered.{Lowered}
use Rattle.fx_service_lines.specs.declared.command.ServicesCommand.{ServicesCommand}
use Rattle.fx_service_lines.specs.declared.command.ServicesCommand.TheVariants as command

pub record IsReadChange (l : Lowered) : Type 0 where
  pub formed : is_formed l.update ≡ true
  pub on_workloads : (node : List ℕ) → node ≢ [] → puts_workload_interface node l.update ≡ true

abbrev pub IsReadServices : ServicesCommand → Type 0
IsReadServices command.Blank = Unit {0}
IsReadServices command.Tables = Unit {0}
IsReadServices command.Flush = Unit {0}
IsReadServices (command.Change l) = IsReadChange l
IsReadServices (command.Packet a) = Unit {0}
