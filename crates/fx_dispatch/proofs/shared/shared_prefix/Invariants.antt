use Rattle.std.proofs.Common.{◌≡◌}
use Rattle.fx_base.specs.Set as set
use Rattle.fx_model.specs.Tree.{shared_prefix}
use Rattle.fx_dispatch.proofs.SharedLemmas.{shared_on}
use Rattle.fx_dispatch.proofs.shared.shared_prefix.Given as goal

abbrev pub invariant-loop-name : goal.invariant-loop-name
invariant-loop-name l = shared_on l.shared l.name-iterator ≡ shared_prefix (set.items l.names)
