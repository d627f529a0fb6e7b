use Rattle.fx_laws.proofs.BatchSteps.{steps-formed, steps-end}
use Rattle.fx_laws.proofs.laws.steps_lead_to_the_same_end.Goals as goal

pub returns-clause-formed : goal.returns-clause-formed
returns-clause-formed c = steps-formed

pub returns-clause-leads : goal.returns-clause-leads
returns-clause-leads c = steps-end
