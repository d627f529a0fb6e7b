use Rattle.fx_walk.proofs.Servable.{served_apart, on_workloads}
use Rattle.fx_walk.proofs.laws.served_endpoints_are_apart.Goals as goal

pub returns-clause-apart : goal.returns-clause-apart
returns-clause-apart c = served_apart

pub returns-clause-on_workloads : goal.returns-clause-on_workloads
returns-clause-on_workloads c = on_workloads
