use Rattle.std.proofs.Common.{sym, ap, ◌∙◌}
use Rattle.std.specs.FinMap as maps
use Rattle.fx_base.specs.Set as set
use Rattle.fx_laws.proofs.Gathering.{gathered, gathered_branches}
use Rattle.fx_dispatch.proofs.branches.branches_of.Goals as goal

pub returns : goal.returns
returns c =
    let shared = c.args.shared.now in
    let made = c.loop-name.branches in
    ap maps.entries (ap (gathered shared made) (sym c.in-None.ensures.steps.0) ∙ c.loop-name.invariant) ∙ gathered_branches shared (set.items c.args.names.now)
