use Rattle.std.proofs.Common.{ap, ◌∙◌}
use Rattle.std.specs.FinMap as map
use Rattle.fx_base.specs.Set as set
use Rattle.fx_model.specs.Messages.{Members}
use Rattle.fx_tables.proofs.Exchanged.{taken_is, twice}
use Rattle.fx_tables.proofs.tables.remove_from.Goals as goal

pub returns : goal.returns
returns c =
    twice c.args.sets.now c.swap.new.self c.swap-2.new.self c.args.name _ c.remove.new.self c.swap.ensures.swapped c.swap-2.ensures.swapped
    ∙ ap (λ (ms : Members). map.insert c.args.sets.now c.args.name ms)
    (c.remove.ensures.removed ∙ ap (λ (ms : Members). set.remove ms c.args.member) (taken_is c.args.sets.now c.args.name c.swap.new.value c.swap.ensures.old))
