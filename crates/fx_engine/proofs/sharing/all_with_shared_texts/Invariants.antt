use Rattle.std.proofs.Common.{◌≡◌, ◌++◌}
use Rattle.fx_engine.proofs.sharing.all_with_shared_texts.Given as goal

abbrev pub invariant-loop-update : goal.invariant-loop-update
invariant-loop-update l = l.fn.updates.items ≡ l.same.items ++ l.update-iterator.rest.items
