use Rattle.fx_resolver.proofs.Resolving.{sink_is_told, sink_is_resolved}
use Rattle.fx_resolver.proofs.resolver.Resolver.remove_tier.Goals as goal

pub remove_tier-requires-clause-sink : goal.remove_tier-requires-clause-sink
remove_tier-requires-clause-sink g c = sink_is_told c.self.view_is c.self.invariant c.requires c.replace-state.ensures.value

pub returns-clause-resolved : goal.returns-clause-resolved
returns-clause-resolved g c = sink_is_resolved c.remove_tier.new.self c.in_ok-remove_tier.ensures.kept c.in_ok-remove_tier.ensures.endpoints
