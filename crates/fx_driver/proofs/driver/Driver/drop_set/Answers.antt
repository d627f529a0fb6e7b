use Rattle.std.proofs.Common.{refl}
use Rattle.fx_model.specs.Tables.{Tables}
use Rattle.fx_tables.specs.Names.{NoneNames}
use Rattle.fx_driver.proofs.Steps.{set_unused}
use Rattle.fx_model.specs.Messages.{SetGone}
use Rattle.fx_driver.proofs.MessageCosts.{own_costs}
use Rattle.fx_driver.proofs.Following.{of_driven, follows_set_gone}
use Rattle.fx_driver.proofs.driver.Driver.drop_set.Goals as goal

pub destroy_set-requires : goal.destroy_set-requires
destroy_set-requires g c =
    let n = c.requires in
    of_driven (λ (t : Tables). NoneNames t.chains c.args.name) c.args.self.now n.0 n.1.1.0 (set_unused n.0 n.1.0 c.args.name n.1.1.1)

pub returns-clause-driven : goal.returns-clause-driven
returns-clause-driven g c = follows_set_gone c.args.self.now c.destroy_set.new.self c.args.name c.destroy_set.ensures.gone

pub returns-clause-counted : goal.returns-clause-counted
returns-clause-counted g c = own_costs c.args.self.now (SetGone c.args.name) (λ s w. refl) _ _ c.destroy_set.ensures.counted
