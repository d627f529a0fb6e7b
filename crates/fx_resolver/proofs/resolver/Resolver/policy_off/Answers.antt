use Rattle.fx_resolver.proofs.Resolving.{sink_is_told, sink_is_resolved}
use Rattle.fx_resolver.proofs.resolver.Resolver.policy_off.Goals as goal

pub remove_policy-requires-clause-sink : goal.remove_policy-requires-clause-sink
remove_policy-requires-clause-sink g c = sink_is_told c.self.view_is c.self.invariant c.requires c.replace-state.ensures.value

pub returns-clause-resolved : goal.returns-clause-resolved
returns-clause-resolved g c = sink_is_resolved c.remove_policy.new.self c.in_ok-remove_policy.ensures.kept c.in_ok-remove_policy.ensures.endpoints
