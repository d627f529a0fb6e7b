use Rattle.std.proofs.Common.{refl}
use Rattle.fx_model.specs.Directions.{Ingress, Egress}
use Rattle.fx_model.specs.Tables.{Tables, policy_chain}
use Rattle.fx_tables.specs.Leads.{NoneLeadsTo}
use Rattle.fx_driver.proofs.Steps.{policy_unused, first_no_policy}
use Rattle.fx_model.specs.Messages.{PolicyGone}
use Rattle.fx_driver.proofs.MessageCosts.{own_costs}
use Rattle.fx_driver.proofs.Following.{of_driven, follows_policy_gone}
use Rattle.fx_driver.proofs.driver.Driver.drop_policy.Goals as goal

pub delete_both-requires-clause-unused_to : goal.delete_both-requires-clause-unused_to
delete_both-requires-clause-unused_to g c =
    let n = c.requires in
    rw c.policy_chain_name.ensures (of_driven (λ (t : Tables). NoneLeadsTo t.chains (policy_chain Ingress c.args.key.now)) c.args.self.now n.0 n.1.1.0 (policy_unused n.0 n.1.0 c.args.key.now n.1.1.1 Ingress))

pub delete_both-requires-clause-unused_from : goal.delete_both-requires-clause-unused_from
delete_both-requires-clause-unused_from g c =
    let n = c.requires in
    rw c.policy_chain_name-2.ensures (of_driven (λ (t : Tables). NoneLeadsTo t.chains (policy_chain Egress c.args.key.now)) c.args.self.now n.0 n.1.1.0 (policy_unused n.0 n.1.0 c.args.key.now n.1.1.1 Egress))

pub delete_both-requires-clause-other_to : goal.delete_both-requires-clause-other_to
delete_both-requires-clause-other_to g c = rw c.policy_chain_name.ensures (first_no_policy Ingress c.args.key.now)

pub delete_both-requires-clause-other_from : goal.delete_both-requires-clause-other_from
delete_both-requires-clause-other_from g c = rw c.policy_chain_name-2.ensures (first_no_policy Egress c.args.key.now)

pub returns-clause-driven : goal.returns-clause-driven
returns-clause-driven g c =
    follows_policy_gone c.args.self.now c.delete_both.new.tables c.args.key.now
    (rw (c.policy_chain_name.ensures, c.policy_chain_name-2.ensures) at c.delete_both.ensures.gone)

pub returns-clause-counted : goal.returns-clause-counted
returns-clause-counted g c = own_costs c.args.self.now (PolicyGone c.args.key.now) (λ s w. refl) _ _ c.delete_both.ensures.counted
