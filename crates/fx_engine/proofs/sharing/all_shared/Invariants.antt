use Rattle.std.proofs.Common.{◌≡◌, ◌++◌, drop}
use Rattle.fx_engine.proofs.sharing.all_shared.Given as goal

abbrev pub invariant-loop-text : goal.invariant-loop-text
invariant-loop-text l = l.list ≡ l.same.items ++ drop l.text-index l.list
