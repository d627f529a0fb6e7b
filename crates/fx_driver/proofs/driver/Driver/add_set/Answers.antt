use Rattle.std.proofs.Common.{refl, ◌≡◌, false}
use Rattle.std.specs.FinMap as maps
use Rattle.fx_tables.proofs.Exchanged.{on_err}
use Rattle.fx_model.specs.Tables.{Tables}
use Rattle.fx_driver.proofs.Steps.{set_add_absent, set_add_apart, set_add_fit}
use Rattle.fx_model.specs.Messages.{SetAdd}
use Rattle.fx_driver.proofs.MessageCosts.{own_costs, own_at_most}
use Rattle.fx_driver.proofs.Following.{of_driven, follows_set_add}
use Rattle.fx_driver.proofs.driver.Driver.add_set.Goals as goal

pub add_set-requires-clause-absent : goal.add_set-requires-clause-absent
add_set-requires-clause-absent g c =
    let n = c.requires in
    of_driven (λ (t : Tables). maps.contains_key t.sets c.args.name ≡ false) c.args.self.now n.0 n.1.1.0 (set_add_absent n.0 n.1.0 c.args.name c.args.members.now n.1.1.1)

pub add_set-requires-clause-apart : goal.add_set-requires-clause-apart
add_set-requires-clause-apart g c = let n = c.requires in set_add_apart n.0 n.1.0 c.args.name c.args.members.now n.1.1.1

pub add_set-requires-clause-fit : goal.add_set-requires-clause-fit
add_set-requires-clause-fit g c = let n = c.requires in set_add_fit n.0 n.1.0 c.args.name c.args.members.now n.1.1.1

pub returns-clause-driven : goal.returns-clause-driven
returns-clause-driven g c = follows_set_add c.args.self.now c.add_set.new.tables c.args.name c.args.members.now c.in_ok-add_set.ensures.ok

pub returns-clause-counted : goal.returns-clause-counted
returns-clause-counted g c = own_costs c.args.self.now (SetAdd c.args.name c.args.members.now) (λ s w. refl) _ _ c.in_ok-add_set.ensures.counted

pub returns-in_err-add_set-clause-at_most : goal.returns-in_err-add_set-clause-at_most
returns-in_err-add_set-clause-at_most g c = on_err c.from_residual.result (own_at_most c.args.self.now (SetAdd c.args.name c.args.members.now) (λ s w. refl) _ _ c.in_err-add_set.ensures.at_most)
