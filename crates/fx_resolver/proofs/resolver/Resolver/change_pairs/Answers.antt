use Rattle.fx_resolver.proofs.Resolving.{sink_is_told, sink_is_resolved}
use Rattle.fx_resolver.proofs.resolver.Resolver.change_pairs.Goals as goal

pub change_pairs-requires-clause-sink : goal.change_pairs-requires-clause-sink
change_pairs-requires-clause-sink g c = sink_is_told c.self.view_is c.self.invariant c.requires.resolved c.replace-state.ensures.value

pub returns-clause-resolved : goal.returns-clause-resolved
returns-clause-resolved g c = sink_is_resolved c.change_pairs.new.self c.in_ok-change_pairs.ensures.kept c.in_ok-change_pairs.ensures.endpoints
