use Rattle.std.proofs.Common.{subst}
use Rattle.fx_model.specs.declared.message.Message.{Message}
use Rattle.fx_model.specs.Lent.{change_of}
use Rattle.felix_host.specs.Taking.{IsTold}
use Rattle.felix_host.proofs.taking.take_message.Goals as goal

pub alter_set-requires : goal.alter_set-requires
alter_set-requires c = subst (λ (m : Message). IsTold c.args.view.now (change_of m)) c.in-SetDelta.is c.requires

pub returns-in-SetAdd : goal.returns-in-SetAdd
returns-in-SetAdd c = rw c.in-SetAdd.is c.put_set.ensures

pub returns-in-SetDelta : goal.returns-in-SetDelta
returns-in-SetDelta c = rw c.in-SetDelta.is c.alter_set.ensures

pub returns-in-PolicyPut : goal.returns-in-PolicyPut
returns-in-PolicyPut c = rw c.in-PolicyPut.is c.put_policy.ensures

pub returns-in-ProfilePut : goal.returns-in-ProfilePut
returns-in-ProfilePut c = rw c.in-ProfilePut.is c.put_profile.ensures

pub returns-in-EndpointPut : goal.returns-in-EndpointPut
returns-in-EndpointPut c = rw c.in-EndpointPut.is c.put_endpoint.ensures

pub returns-in-EndpointGone : goal.returns-in-EndpointGone
returns-in-EndpointGone c = rw c.in-EndpointGone.is c.drop_endpoint.ensures

pub returns-in-ProfileGone : goal.returns-in-ProfileGone
returns-in-ProfileGone c = rw c.in-ProfileGone.is c.drop_profile.ensures

pub returns-in-PolicyGone : goal.returns-in-PolicyGone
returns-in-PolicyGone c = rw c.in-PolicyGone.is c.drop_policy.ensures

pub returns-in-SetGone : goal.returns-in-SetGone
returns-in-SetGone c = rw c.in-SetGone.is c.drop_set.ensures
