use Rattle.std.proofs.Common.{refl, ◌≡◌, true}
use Rattle.std.specs.FinMap as maps
use Rattle.fx_model.specs.Messages.{members_of, SetDelta}
use Rattle.fx_tables.proofs.Exchanged.{on_err}
use Rattle.fx_model.specs.Tables.{Tables}
use Rattle.fx_driver.specs.Members.{AreNew, AreHeld, with_members}
use Rattle.fx_driver.proofs.Steps.{set_delta_there, set_delta_absent, set_delta_fit, set_delta_within}
use Rattle.fx_driver.proofs.MessageCosts.{own_costs, own_at_most}
use Rattle.fx_driver.proofs.Following.{of_driven, follows_set_delta}
use Rattle.fx_driver.proofs.driver.Driver.change_set.Goals as goal

pub change_set-requires-clause-there : goal.change_set-requires-clause-there
change_set-requires-clause-there g c =
    let n = c.requires in
    of_driven (λ (t : Tables). maps.contains_key t.sets c.args.name ≡ true) c.args.self.now n.0 n.1.1.0 (set_delta_there n.0 n.1.0 c.args.name c.args.adds.now c.args.removes.now n.1.1.1)

pub change_set-requires-clause-absent : goal.change_set-requires-clause-absent
change_set-requires-clause-absent g c =
    let n = c.requires in
    of_driven (λ (t : Tables). AreNew (members_of (maps.get t.sets c.args.name)) c.args.adds.now) c.args.self.now n.0 n.1.1.0 (set_delta_absent n.0 n.1.0 c.args.name c.args.adds.now c.args.removes.now n.1.1.1)

pub change_set-requires-clause-fit : goal.change_set-requires-clause-fit
change_set-requires-clause-fit g c = let n = c.requires in set_delta_fit n.0 n.1.0 c.args.name c.args.adds.now c.args.removes.now n.1.1.1

pub change_set-requires-clause-within : goal.change_set-requires-clause-within
change_set-requires-clause-within g c =
    let n = c.requires in
    of_driven (λ (t : Tables). AreHeld (with_members (members_of (maps.get t.sets c.args.name)) c.args.adds.now) c.args.removes.now) c.args.self.now n.0 n.1.1.0 (set_delta_within n.0 n.1.0 c.args.name c.args.adds.now c.args.removes.now n.1.1.1)

pub returns-clause-driven : goal.returns-clause-driven
returns-clause-driven g c = follows_set_delta c.args.self.now c.change_set.new.tables c.args.name c.args.adds.now c.args.removes.now c.in_ok-change_set.ensures.ok

pub returns-clause-counted : goal.returns-clause-counted
returns-clause-counted g c = own_costs c.args.self.now (SetDelta c.args.name c.args.adds.now c.args.removes.now) (λ s w. refl) _ _ c.in_ok-change_set.ensures.counted

pub returns-in_err-change_set-clause-at_most : goal.returns-in_err-change_set-clause-at_most
returns-in_err-change_set-clause-at_most g c = on_err c.from_residual.result (own_at_most c.args.self.now (SetDelta c.args.name c.args.adds.now c.args.removes.now) (λ s w. refl) _ _ c.in_err-change_set.ensures.at_most)
