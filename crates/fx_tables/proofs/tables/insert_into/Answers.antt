use Rattle.std.proofs.Common.{ap, ◌∙◌}
use Rattle.std.specs.FinMap as map
use Rattle.fx_base.specs.Set as set
use Rattle.fx_model.specs.Messages.{Members}
use Rattle.fx_tables.proofs.Exchanged.{taken_is, twice, put_back, on_err}
use Rattle.fx_tables.proofs.tables.insert_into.Goals as goal

pub returns-in_err-added-clause-err : goal.returns-in_err-added-clause-err
returns-in_err-added-clause-err c =
    on_err c.from_residual.result
    (put_back c.args.sets.now c.swap.new.self c.swap-2.new.self c.args.name _ c.swap.new.value c.swap.ensures.old c.swap.ensures.swapped
    (c.swap-2.ensures.swapped ∙ ap (λ (ms : Members). map.insert c.swap.new.self c.args.name ms) c.in_err-added.ensures.err))

pub returns-clause-ok : goal.returns-clause-ok
returns-clause-ok c =
    twice c.args.sets.now c.swap.new.self c.swap-2.new.self c.args.name _ c.insert-added.new.self c.swap.ensures.swapped c.swap-2.ensures.swapped
    ∙ ap (λ (ms : Members). map.insert c.args.sets.now c.args.name ms)
    (c.in_ok-added.ensures.ok ∙ ap (λ (ms : Members). set.insert ms c.args.member) (taken_is c.args.sets.now c.args.name c.swap.new.value c.swap.ensures.old))
