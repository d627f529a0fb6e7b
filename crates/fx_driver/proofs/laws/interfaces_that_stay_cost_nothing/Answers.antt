use Rattle.fx_model.specs.Messages.{EndpointPut, step}
use Rattle.fx_driver.proofs.OneNumber.{own_alone, there_again}
use Rattle.fx_driver.proofs.laws.interfaces_that_stay_cost_nothing.Goals as goal

pub returns-clause-any : goal.returns-clause-any
returns-clause-any c = own_alone

pub returns-clause-endpoint : goal.returns-clause-endpoint
returns-clause-endpoint c = λ s w k e n is there. own_alone (EndpointPut k e) s (step s w) n (there_again s w k e is there)
