use Rattle.fx_laws.proofs.StepFormed.{step-formed, step-on-workloads, step-of-kinds}
use Rattle.fx_laws.proofs.laws.stepped_views_are_drivable.Goals as goal

pub returns-clause-formed : goal.returns-clause-formed
returns-clause-formed c = λ sent wanted change was aim. step-formed sent wanted change was aim

pub returns-clause-interfaces : goal.returns-clause-interfaces
returns-clause-interfaces c = λ sent wanted change was aim. step-on-workloads sent wanted change was aim

pub returns-clause-kinds : goal.returns-clause-kinds
returns-clause-kinds c = λ sent wanted change was aim. step-of-kinds sent wanted change was aim
