use Rattle.std.proofs.Common.{ap, sym, ◌∙◌, subst}
use Rattle.fx_base.specs.Set as set
use Rattle.fx_model.specs.Messages.{Members}
use Rattle.fx_driver.specs.Members.{AreNew, with_members}
use Rattle.fx_driver.proofs.SetSteps.{set_to, held_are, set_there, two_sets}
use Rattle.fx_driver.proofs.sets.add_set.Goals as goal

pub add_members-requires-clause-there : goal.add_members-requires-clause-there
add_members-requires-clause-there g c = set_there c.args.tables.now c.create_set.new.self c.args.name set.empty c.in_ok-create_set.ensures.ok

pub add_members-requires-clause-absent : goal.add_members-requires-clause-absent
add_members-requires-clause-absent g c =
    let none = held_are c.args.tables.now c.create_set.new.self c.args.name set.empty c.in_ok-create_set.ensures.ok in
    subst (λ (s : Members). AreNew s c.args.members.now) (sym none) c.requires.apart

pub returns-clause-ok : goal.returns-clause-ok
returns-clause-ok g c =
    let none = held_are c.args.tables.now c.create_set.new.self c.args.name set.empty c.in_ok-create_set.ensures.ok in
    two_sets c.args.tables.now c.create_set.new.self c.add_members.new.tables c.args.name _ _ c.in_ok-create_set.ensures.ok
    (c.in_ok-add_members.ensures.ok ∙ ap (λ (s : Members). set_to c.create_set.new.self c.args.name (with_members s c.args.members.now)) none)
