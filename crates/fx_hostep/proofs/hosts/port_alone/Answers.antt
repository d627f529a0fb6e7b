use Rattle.std.proofs.Common.{refl}
use Rattle.fx_base.specs.SameNet.{same_ports}
use Rattle.fx_hostep.specs.HostTables.{port_alone}
use Rattle.fx_hostep.proofs.hosts.port_alone.Goals as goal

pub returns : goal.returns
returns c = same_ports _ (port_alone c.args.number) refl refl
