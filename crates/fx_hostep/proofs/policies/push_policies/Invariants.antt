use Rattle.std.proofs.Common.{◌≡◌, ◌++◌}
use Rattle.std.specs.List.{flat_map}
use Rattle.std.specs.FinMap as maps
use Rattle.fx_model.specs.ViewTables.{policy_chains}
use Rattle.fx_hostep.proofs.policies.push_policies.Given as goal

-- with those of the policies that are left behind them, the chains are whole
abbrev pub invariant-loop-key : goal.invariant-loop-key
invariant-loop-key l = l.chains ++ flat_map policy_chains l.key-iterator ≡ l.fn.chains ++ flat_map policy_chains (maps.entries l.policies)
