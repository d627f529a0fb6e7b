use Rattle.fx_resolver.proofs.Resolving.{sink_is_told, sink_is_resolved}
use Rattle.fx_resolver.proofs.resolver.Resolver.put_tier.Goals as goal

pub put_tier-requires-clause-sink : goal.put_tier-requires-clause-sink
put_tier-requires-clause-sink g c = sink_is_told c.self.view_is c.self.invariant c.requires c.replace-state.ensures.value

pub returns-clause-resolved : goal.returns-clause-resolved
returns-clause-resolved g c = sink_is_resolved c.put_tier.new.self c.in_ok-put_tier.ensures.kept c.in_ok-put_tier.ensures.endpoints
