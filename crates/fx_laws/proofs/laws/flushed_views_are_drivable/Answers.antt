use Rattle.fx_laws.proofs.Flushes.{flush-formed, flush-on-workloads, flush-of-kinds}
use Rattle.fx_laws.proofs.laws.flushed_views_are_drivable.Goals as goal

pub returns-clause-formed : goal.returns-clause-formed
returns-clause-formed c = flush-formed

pub returns-clause-interfaces : goal.returns-clause-interfaces
returns-clause-interfaces c = flush-on-workloads

pub returns-clause-kinds : goal.returns-clause-kinds
returns-clause-kinds c = flush-of-kinds
