use Rattle.std.proofs.Common.{refl}
use Rattle.fx_model.specs.Directions.{Ingress, Egress}
use Rattle.fx_model.specs.Tables.{Tables, profile_chain}
use Rattle.fx_tables.specs.Leads.{NoneLeadsTo}
use Rattle.fx_driver.proofs.Steps.{profile_unused, first_no_profile, profile_gone_short}
use Rattle.fx_model.specs.Messages.{ProfileGone}
use Rattle.fx_driver.proofs.MessageCosts.{own_costs}
use Rattle.fx_driver.proofs.Following.{of_driven, follows_profile_gone}
use Rattle.fx_driver.proofs.driver.Driver.drop_profile.Goals as goal

pub delete_both-requires-clause-unused_to : goal.delete_both-requires-clause-unused_to
delete_both-requires-clause-unused_to g c =
    let n = c.requires in
    rw c.profile_chain_name.ensures (of_driven (λ (t : Tables). NoneLeadsTo t.chains (profile_chain Ingress c.args.key.now)) c.args.self.now n.0 n.1.1.0 (profile_unused n.0 n.1.0 c.args.key.now n.1.1.1 Ingress))

pub delete_both-requires-clause-unused_from : goal.delete_both-requires-clause-unused_from
delete_both-requires-clause-unused_from g c =
    let n = c.requires in
    rw c.profile_chain_name-2.ensures (of_driven (λ (t : Tables). NoneLeadsTo t.chains (profile_chain Egress c.args.key.now)) c.args.self.now n.0 n.1.1.0 (profile_unused n.0 n.1.0 c.args.key.now n.1.1.1 Egress))

pub delete_both-requires-clause-other_to : goal.delete_both-requires-clause-other_to
delete_both-requires-clause-other_to g c = rw c.profile_chain_name.ensures (first_no_profile Ingress c.args.key.now)

pub delete_both-requires-clause-other_from : goal.delete_both-requires-clause-other_from
delete_both-requires-clause-other_from g c = rw c.profile_chain_name-2.ensures (first_no_profile Egress c.args.key.now)

pub returns-clause-driven : goal.returns-clause-driven
returns-clause-driven g c =
    follows_profile_gone c.args.self.now c.delete_both.new.tables c.args.key.now
    (rw (c.profile_chain_name.ensures, c.profile_chain_name-2.ensures) at c.delete_both.ensures.gone)

pub profile_chain_name-requires : goal.profile_chain_name-requires
profile_chain_name-requires g c = let n = c.requires in profile_gone_short n.0 n.1.0 c.args.key.now n.1.1.1

pub profile_chain_name-requires-2 : goal.profile_chain_name-requires-2
profile_chain_name-requires-2 g c = let n = c.requires in profile_gone_short n.0 n.1.0 c.args.key.now n.1.1.1

pub returns-clause-counted : goal.returns-clause-counted
returns-clause-counted g c = own_costs c.args.self.now (ProfileGone c.args.key.now) (λ s w. refl) _ _ c.delete_both.ensures.counted
