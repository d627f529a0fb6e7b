use Rattle.std.proofs.Common.{refl}
use Rattle.fx_reconcile.specs.Operations.{operations}
use Rattle.fx_reconcile.proofs.Kept.{allowed_in_turn}
use Rattle.fx_reconcile.proofs.planning.plan.Goals as goal

pub returns-clause-allowed : goal.returns-clause-allowed
returns-clause-allowed c =
    let now = c.args.now.now in
    let wanted = c.args.goal.now in
    let held = c.chains-held_chains.ensures in
    let end = c.chains-goal_chains.ensures in
    allowed_in_turn wanted
    (record { ranked = end.ranked; closed = end.closed; shaped = end.shaped; kinds = c.sets-goal_sets.ensures.kinds })
    (operations now wanted) now
    (record { ranked = held.ranked; closed = held.closed; shaped = held.shaped; kinds = c.sets-held_sets.ensures.kinds })
    refl
