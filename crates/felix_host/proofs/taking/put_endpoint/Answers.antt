use Rattle.felix_host.proofs.TakingLemmas.{endpoint_put}
use Rattle.felix_host.proofs.taking.put_endpoint.Goals as goal

pub returns : goal.returns
returns c = endpoint_put c.args.view.now c.put_text.new.held c.args.iface.now c.args.endpoint.now c.in_ok-put_text.ensures
