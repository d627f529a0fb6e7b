-- What an update among the commands keeps, and each in a batch: its forms, and that it puts local endpoints on interfaces of workloads
-- alone, whatever the node is. Besides, a batch holds puts and deletes alone.
use Rattle.std.specs.Prelude.{◌≡◌, ℕ, List, Bool, true}
use Rattle.std.specs.List.{list_all}
use Rattle.fx_model.specs.declared.resources.Update.{Update}
use Rattle.fx_model.specs.Formed.{is_formed, puts_workload_interface}
use Rattle.fx_model.specs.Steps.{is_change}
use Rattle.fx_lines.specs.declared.commands.Command.{Command}
use Rattle.fx_lines.specs.declared.commands.Command.TheVariants as command

abbrev pub is_formed_command : Command → Bool
is_formed_command command.Blank = true
is_formed_command command.Tables = true
is_formed_command (command.Flush limit) = true
is_formed_command (command.Update u) = is_formed u
is_formed_command (command.Batch us) = list_all is_formed us
is_formed_command (command.Packet a) = true

abbrev pub puts_on_workloads : List ℕ → Command → Bool
puts_on_workloads node command.Blank = true
puts_on_workloads node command.Tables = true
puts_on_workloads node (command.Flush limit) = true
puts_on_workloads node (command.Update u) = puts_workload_interface node u
puts_on_workloads node (command.Batch us) = list_all (puts_workload_interface node) us
puts_on_workloads node (command.Packet a) = true

abbrev pub batches_changes : Command → Bool
batches_changes command.Blank = true
batches_changes command.Tables = true
batches_changes (command.Flush limit) = true
batches_changes (command.Update u) = true
batches_changes (command.Batch us) = list_all is_change us
batches_changes (command.Packet a) = true

-- the same of an update, and of those of a batch
pub record IsReadUpdate (u : Update) : Type 0 where
  pub formed : is_formed u ≡ true
  pub on_workloads : (node : List ℕ) → puts_workload_interface node u ≡ true

pub record IsReadBatch (us : List Update) : Type 0 where
  pub formed : list_all is_formed us ≡ true
  pub changes : list_all is_change us ≡ true
  pub on_workloads : (node : List ℕ) → list_all (puts_workload_interface node) us ≡ true

pub record IsReadCommand (c : Command) : Type 0 where
  pub formed : is_formed_command c ≡ true
  pub changes : batches_changes c ≡ true
  pub on_workloads : (node : List ℕ) → puts_on_workloads node c ≡ true
