use Rattle.std.proofs.Common.{◌≡◌}
use Rattle.std.specs.FinMap as maps
use Rattle.fx_base.specs.Set as set
use Rattle.fx_laws.proofs.Gathering.{gathered}
use Rattle.fx_dispatch.proofs.branches.branches_of.Given as goal

abbrev pub invariant-loop-name : goal.invariant-loop-name
invariant-loop-name l = gathered l.shared l.branches l.name-iterator ≡ gathered l.shared maps.empty (set.items l.names)
