use Rattle.std.proofs.Common.{subst}
use Rattle.fx_model.specs.declared.message.Message.{Message}
use Rattle.fx_model.specs.Lent.{change_of}
use Rattle.fx_driver.specs.Drives.{IsNext}
use Rattle.fx_driver.proofs.driver.Driver.apply.Goals as goal

pub add_set-requires : goal.add_set-requires
add_set-requires g c = subst (λ (m : Message). IsNext c.args.self.now (change_of m)) c.in-SetAdd.is c.requires

pub change_set-requires : goal.change_set-requires
change_set-requires g c = subst (λ (m : Message). IsNext c.args.self.now (change_of m)) c.in-SetDelta.is c.requires

pub put_policy-requires : goal.put_policy-requires
put_policy-requires g c = subst (λ (m : Message). IsNext c.args.self.now (change_of m)) c.in-PolicyPut.is c.requires

pub put_profile-requires : goal.put_profile-requires
put_profile-requires g c = subst (λ (m : Message). IsNext c.args.self.now (change_of m)) c.in-ProfilePut.is c.requires

pub put_endpoint-requires : goal.put_endpoint-requires
put_endpoint-requires g c = subst (λ (m : Message). IsNext c.args.self.now (change_of m)) c.in-EndpointPut.is c.requires

pub drop_endpoint-requires : goal.drop_endpoint-requires
drop_endpoint-requires g c = subst (λ (m : Message). IsNext c.args.self.now (change_of m)) c.in-EndpointGone.is c.requires

pub drop_profile-requires : goal.drop_profile-requires
drop_profile-requires g c = subst (λ (m : Message). IsNext c.args.self.now (change_of m)) c.in-ProfileGone.is c.requires

pub drop_policy-requires : goal.drop_policy-requires
drop_policy-requires g c = subst (λ (m : Message). IsNext c.args.self.now (change_of m)) c.in-PolicyGone.is c.requires

pub drop_set-requires : goal.drop_set-requires
drop_set-requires g c = subst (λ (m : Message). IsNext c.args.self.now (change_of m)) c.in-SetGone.is c.requires

pub returns-in-SetAdd : goal.returns-in-SetAdd
returns-in-SetAdd g c = rw c.in-SetAdd.is c.add_set.ensures

pub returns-in-SetDelta : goal.returns-in-SetDelta
returns-in-SetDelta g c = rw c.in-SetDelta.is c.change_set.ensures

pub returns-in-PolicyPut : goal.returns-in-PolicyPut
returns-in-PolicyPut g c = rw c.in-PolicyPut.is c.put_policy.ensures

pub returns-in-ProfilePut : goal.returns-in-ProfilePut
returns-in-ProfilePut g c = rw c.in-ProfilePut.is c.put_profile.ensures

pub returns-in-EndpointPut : goal.returns-in-EndpointPut
returns-in-EndpointPut g c = rw c.in-EndpointPut.is c.put_endpoint.ensures

pub returns-in-EndpointGone : goal.returns-in-EndpointGone
returns-in-EndpointGone g c = rw c.in-EndpointGone.is c.drop_endpoint.ensures

pub returns-in-ProfileGone : goal.returns-in-ProfileGone
returns-in-ProfileGone g c = rw c.in-ProfileGone.is c.drop_profile.ensures

pub returns-in-PolicyGone : goal.returns-in-PolicyGone
returns-in-PolicyGone g c = rw c.in-PolicyGone.is c.drop_policy.ensures

pub returns-in-SetGone : goal.returns-in-SetGone
returns-in-SetGone g c = rw c.in-SetGone.is c.drop_set.ensures
