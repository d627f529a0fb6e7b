use Rattle.fx_resolver.proofs.Resolving.{nothing_wanted}
use Rattle.fx_resolver.proofs.resolver.Resolver.new.Goals as goal

pub returns-clause-resolved : goal.returns-clause-resolved
returns-clause-resolved c = nothing_wanted c.new.result.inputs c.new.ensures.inputs
