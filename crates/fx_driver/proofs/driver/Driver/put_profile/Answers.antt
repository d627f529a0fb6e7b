use Rattle.std.proofs.Common.{refl}
use Rattle.fx_tables.proofs.Exchanged.{on_err}
use Rattle.fx_model.specs.Tables.{Tables}
use Rattle.fx_model.specs.ViewTables.{profile_chains}
use Rattle.fx_model.specs.Writing.{CanBeWritten}
use Rattle.fx_driver.proofs.Steps.{profile_put_writable, profile_put_formed}
use Rattle.fx_model.specs.Messages.{ProfilePut}
use Rattle.fx_driver.proofs.MessageCosts.{own_costs, own_at_most}
use Rattle.fx_driver.proofs.Following.{of_driven, follows_profile_put}
use Rattle.fx_driver.proofs.driver.Driver.put_profile.Goals as goal

pub write_profile-requires-clause-writable : goal.write_profile-requires-clause-writable
write_profile-requires-clause-writable g c =
    let n = c.requires in
    of_driven (λ (t : Tables). CanBeWritten t.sets t.chains (profile_chains (c.args.key.now, c.args.profile.now))) c.args.self.now n.0 n.1.1.0 (profile_put_writable n.0 n.1.0 c.args.key.now c.args.profile.now n.1.1.1)

pub returns-clause-driven : goal.returns-clause-driven
returns-clause-driven g c = follows_profile_put c.args.self.now c.write_profile.new.tables c.args.key.now c.args.profile.now c.in_ok-write_profile.ensures.ok

pub write_profile-requires-clause-formed : goal.write_profile-requires-clause-formed
write_profile-requires-clause-formed g c = let n = c.requires in profile_put_formed n.0 n.1.0 c.args.key.now c.args.profile.now n.1.1.1

pub returns-clause-counted : goal.returns-clause-counted
returns-clause-counted g c = own_costs c.args.self.now (ProfilePut c.args.key.now c.args.profile.now) (λ s w. refl) _ _ c.in_ok-write_profile.ensures.counted

pub returns-in_err-write_profile-clause-at_most : goal.returns-in_err-write_profile-clause-at_most
returns-in_err-write_profile-clause-at_most g c = on_err c.from_residual.result (own_at_most c.args.self.now (ProfilePut c.args.key.now c.args.profile.now) (λ s w. refl) _ _ c.in_err-write_profile.ensures.at_most)
