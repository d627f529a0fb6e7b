use Rattle.std.proofs.Common.{[], ◌∷◌}
use Rattle.fx_selector.specs.Canonical.{quoted}
use Rattle.fx_selector.proofs.Between.{written_more}
use Rattle.fx_selector.proofs.canonical.write_listed.Goals as goal

pub loop-place-preserved : goal.loop-place-preserved
loop-place-preserved c = written_more quoted (44 ∷ 32 ∷ []) c.args.values.now c.loop-place.place c.index-values-place.result c.loop-place-test.true c.index-values-place.is _ _ _ _ c.loop-place.invariant c.in_ok-write_between.ensures c.in_ok-write_quoted.ensures
