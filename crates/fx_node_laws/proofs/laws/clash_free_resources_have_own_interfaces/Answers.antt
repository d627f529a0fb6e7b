use Rattle.fx_node_laws.proofs.OwnInterfaces.{own_interfaces}
use Rattle.fx_node_laws.proofs.laws.clash_free_resources_have_own_interfaces.Goals as goal

pub returns : goal.returns
returns c = λ dg R n a r m formed free tied. own_interfaces dg R r formed free tied.locals
