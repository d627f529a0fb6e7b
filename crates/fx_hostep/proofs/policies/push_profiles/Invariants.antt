use Rattle.std.proofs.Common.{◌≡◌, ◌++◌, true}
use Rattle.std.specs.List.{AllByRecursion, flat_map}
use Rattle.std.specs.FinMap as maps
use Rattle.fx_model.specs.Formed.{is_formed_view_profile}
use Rattle.fx_model.specs.ViewTables.{profile_chains}
use Rattle.fx_hostep.proofs.policies.push_profiles.Given as goal

-- with those of the profiles that are left behind them, the chains are whole
abbrev pub invariant-loop-key : goal.invariant-loop-key
invariant-loop-key l = record {
  formed : AllByRecursion (λ e. is_formed_view_profile e ≡ true) l.key-iterator;
  whole : l.chains ++ flat_map profile_chains l.key-iterator ≡ l.fn.chains ++ flat_map profile_chains (maps.entries l.profiles);
}
