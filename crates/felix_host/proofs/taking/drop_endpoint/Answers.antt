use Rattle.felix_host.proofs.TakingLemmas.{endpoint_dropped}
use Rattle.felix_host.proofs.taking.drop_endpoint.Goals as goal

pub returns : goal.returns
returns c = endpoint_dropped c.args.view.now c.remove.new.self c.args.iface.now c.remove.ensures.removed
