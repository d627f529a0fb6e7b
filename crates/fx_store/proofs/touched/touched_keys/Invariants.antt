use Rattle.std.proofs.Common.{drop}
use Rattle.fx_store.proofs.Touching.{AreTouched}
use Rattle.fx_store.proofs.touched.touched_keys.Given as goal

-- with those that are left and were not seen, the keys are whole
abbrev pub invariant-loop-update : goal.invariant-loop-update
invariant-loop-update l = AreTouched l.keys.items l.seen (drop l.update-index l.updates) l.updates
