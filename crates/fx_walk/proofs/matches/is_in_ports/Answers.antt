use Rattle.std.proofs.Common.{◌∙◌}
use Rattle.fx_walk.proofs.SetLookups.{port_found}
use Rattle.fx_walk.proofs.matches.is_in_ports.Goals as goal

pub returns : goal.returns
returns c = c.contains.ensures ∙ port_found c.args.members.now c.args.end c.args.packet.now c.address_of.result c.port_of.result c.address_of.ensures c.port_of.ensures c.requires
