use Rattle.std.proofs.Common.{◌≡◌, ◌++◌, drop}
use Rattle.fx_model.specs.Steps.{deletes_of}
use Rattle.fx_store.proofs.store.Store.push_deletes.Given as goal

-- with those at the keys that are left behind them, the steps are whole
abbrev pub invariant-loop-key : goal.invariant-loop-key
invariant-loop-key l = l.steps.items ++ deletes_of l.self.resources (drop l.key-index l.keys) ≡ l.fn.steps.items ++ deletes_of l.self.resources l.keys
