use Rattle.std.proofs.Common.{◌≡◌, ◌++◌, drop}
use Rattle.std.specs.List.{flat_map}
use Rattle.std.specs.FinMap as map
use Rattle.fx_model.specs.Steps.{put_of}
use Rattle.fx_store.proofs.stepping.push_puts.Given as goal

-- with those of the keys that are left behind them, the steps are whole
abbrev pub invariant-loop-key : goal.invariant-loop-key
invariant-loop-key l = l.steps.items ++ flat_map (λ k. put_of k (map.get l.records k)) (drop l.key-index l.keys) ≡ l.fn.steps.items ++ flat_map (λ k. put_of k (map.get l.records k)) l.keys
