use Rattle.std.proofs.Common.{ap, sym, ◌∙◌, subst}
use Rattle.fx_model.specs.Messages.{Members}
use Rattle.fx_driver.specs.Members.{AreHeld, without_members}
use Rattle.fx_driver.proofs.SetSteps.{set_to, held_are, set_there, two_sets}
use Rattle.fx_driver.proofs.sets.change_set.Goals as goal

pub remove_members-requires-clause-there : goal.remove_members-requires-clause-there
remove_members-requires-clause-there g c = set_there c.args.tables.now c.add_members.new.tables c.args.name _ c.in_ok-add_members.ensures.ok

pub remove_members-requires-clause-within : goal.remove_members-requires-clause-within
remove_members-requires-clause-within g c =
    let more = held_are c.args.tables.now c.add_members.new.tables c.args.name _ c.in_ok-add_members.ensures.ok in
    subst (λ (s : Members). AreHeld s c.args.removes.now) (sym more) c.requires.within

pub returns-clause-ok : goal.returns-clause-ok
returns-clause-ok g c =
    let more = held_are c.args.tables.now c.add_members.new.tables c.args.name _ c.in_ok-add_members.ensures.ok in
    two_sets c.args.tables.now c.add_members.new.tables c.remove_members.new.tables c.args.name _ _ c.in_ok-add_members.ensures.ok
    (c.remove_members.ensures.gone ∙ ap (λ (s : Members). set_to c.add_members.new.tables c.args.name (without_members s c.args.removes.now)) more)
