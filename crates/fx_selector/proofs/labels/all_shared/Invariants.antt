use Rattle.std.proofs.Common.{◌≡◌, ◌++◌, drop}
use Rattle.fx_selector.proofs.labels.all_shared.Given as goal

abbrev pub invariant-loop-key : goal.invariant-loop-key
invariant-loop-key l = l.labels ≡ l.same.items ++ drop l.key-index l.labels
