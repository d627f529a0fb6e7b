use Rattle.std.proofs.Common.{ap, ◌∙◌}
use Rattle.std.specs.FinMap as map
use Rattle.fx_driver.specs.Members.{with_members, without_members}
use Rattle.fx_model.specs.Messages.{Members}
use Rattle.fx_tables.proofs.Exchanged.{taken_is, twice}
use Rattle.felix_host.proofs.members.change_set.Goals as goal

pub returns : goal.returns
returns c =
    twice c.args.sets.now c.swap.new.self c.swap-2.new.self c.args.name.now _ c.remove_members.new.held c.swap.ensures.swapped c.swap-2.ensures.swapped
    ∙ ap (map.insert c.args.sets.now c.args.name.now)
    (c.remove_members.ensures ∙ ap (λ (s : Members). without_members s c.args.removes.now)
    (c.in_ok-add_members.ensures ∙ ap (λ (s : Members). with_members s c.args.adds.now) (taken_is c.args.sets.now c.args.name.now c.swap.new.value c.swap.ensures.old)))
