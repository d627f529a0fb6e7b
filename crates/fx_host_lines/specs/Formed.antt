-- What is read keeps its form: updates, the protocols of failsafe ports, and the interfaces of a packet.
use Rattle.std.specs.Prelude.{◌≡◌, true}
use Rattle.fx_model.specs.Formed.{is_formed}
use Rattle.fx_hostep.specs.FailsafePorts.{have_port_protocols}
use Rattle.fx_hostep.specs.HostRuns.{IsHostPacket}
use Rattle.fx_host_lines.specs.declared.command.HostCommand.{HostCommand}
use Rattle.fx_host_lines.specs.declared.command.HostCommand.TheVariants as command

abbrev pub IsReadHost : HostCommand → Type 0
IsReadHost command.Blank = Unit {0}
IsReadHost command.Flush = Unit {0}
IsReadHost command.Tables = Unit {0}
IsReadHost (command.Update u) = is_formed u ≡ true
IsReadHost (command.Failsafe f) = have_port_protocols f ≡ true
IsReadHost (command.Packet p) = IsHostPacket p
