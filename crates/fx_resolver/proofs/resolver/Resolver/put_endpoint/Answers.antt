use Rattle.fx_resolver.proofs.Resolving.{sink_is_told, sink_is_resolved}
use Rattle.fx_resolver.proofs.resolver.Resolver.put_endpoint.Goals as goal

pub put_endpoint-requires-clause-sink : goal.put_endpoint-requires-clause-sink
put_endpoint-requires-clause-sink g c = sink_is_told c.self.view_is c.self.invariant c.requires.resolved c.replace-state.ensures.value

pub returns-clause-resolved : goal.returns-clause-resolved
returns-clause-resolved g c = sink_is_resolved c.put_endpoint.new.self c.in_ok-put_endpoint.ensures.kept c.in_ok-put_endpoint.ensures.endpoints
