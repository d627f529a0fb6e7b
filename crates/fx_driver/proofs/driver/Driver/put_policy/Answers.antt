use Rattle.std.proofs.Common.{refl}
use Rattle.fx_tables.proofs.Exchanged.{on_err}
use Rattle.fx_model.specs.Tables.{Tables}
use Rattle.fx_model.specs.ViewTables.{policy_chains}
use Rattle.fx_model.specs.Writing.{CanBeWritten}
use Rattle.fx_driver.proofs.Steps.{policy_put_writable}
use Rattle.fx_model.specs.Messages.{PolicyPut}
use Rattle.fx_driver.proofs.MessageCosts.{own_costs, own_at_most}
use Rattle.fx_driver.proofs.Following.{of_driven, follows_policy_put}
use Rattle.fx_driver.proofs.driver.Driver.put_policy.Goals as goal

pub write_policy-requires : goal.write_policy-requires
write_policy-requires g c =
    let n = c.requires in
    of_driven (λ (t : Tables). CanBeWritten t.sets t.chains (policy_chains (c.args.key.now, c.args.policy.now))) c.args.self.now n.0 n.1.1.0 (policy_put_writable n.0 n.1.0 c.args.key.now c.args.policy.now n.1.1.1)

pub returns-clause-driven : goal.returns-clause-driven
returns-clause-driven g c = follows_policy_put c.args.self.now c.write_policy.new.tables c.args.key.now c.args.policy.now c.in_ok-write_policy.ensures.ok

pub returns-clause-counted : goal.returns-clause-counted
returns-clause-counted g c = own_costs c.args.self.now (PolicyPut c.args.key.now c.args.policy.now) (λ s w. refl) _ _ c.in_ok-write_policy.ensures.counted

pub returns-in_err-write_policy-clause-at_most : goal.returns-in_err-write_policy-clause-at_most
returns-in_err-write_policy-clause-at_most g c = on_err c.from_residual.result (own_at_most c.args.self.now (PolicyPut c.args.key.now c.args.policy.now) (λ s w. refl) _ _ c.in_err-write_policy.ensures.at_most)
