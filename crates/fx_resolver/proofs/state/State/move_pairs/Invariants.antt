use Rattle.std.proofs.Common.{◌≡◌, drop}
use Rattle.fx_base.specs.Set as set
use Rattle.fx_model.specs.PairRuns.{IsPairRun, pairs_after}
use Rattle.fx_resolver.specs.Kept.{IsKeptStateBut}
use Rattle.fx_resolver.proofs.state.State.move_pairs.Given as goal

-- the changes that are left lead to the same pairs
abbrev pub invariant-loop-change : goal.invariant-loop-change
invariant-loop-change l = record {
  run : IsPairRun (drop l.change-index l.changes) l.self.inputs.pairs (pairs_after l.changes l.fn.self.inputs.pairs);
  tiers : l.self.inputs.tiers ≡ l.fn.self.inputs.tiers;
  known : l.self.inputs.policies ≡ l.fn.self.inputs.policies;
  endpoints : l.self.inputs.endpoints ≡ l.fn.self.inputs.endpoints;
  told : l.self.rows.told ≡ l.fn.self.rows.told;
  kept : IsKeptStateBut (set.contains l.touched) l.self;
}
