use Rattle.fx_laws.proofs.FormedLemmas.{have_workload_interfaces-after, has_workload_interfaces-view_of}
use Rattle.fx_laws.proofs.laws.workload_interfaces_stay.Goals as goal

pub returns-clause-after : goal.returns-clause-after
returns-clause-after c = have_workload_interfaces-after

pub returns-clause-view : goal.returns-clause-view
returns-clause-view c = has_workload_interfaces-view_of
