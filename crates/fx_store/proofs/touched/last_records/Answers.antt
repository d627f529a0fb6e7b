use Rattle.std.proofs.Common.{◌≡◌, ◌+◌, drop, sym, ap, ◌∙◌, subst}
use Rattle.std.proofs.lemmas.List.{drop_all}
use Rattle.std.specs.FinMap as map
use Rattle.fx_store.specs.Touched.{recorded_all}
use Rattle.fx_store.proofs.Touching.{next_left, recorded-next}
use Rattle.fx_store.proofs.touched.last_records.Goals as goal

pub loop-update-preserved : goal.loop-update-preserved
loop-update-preserved c =
    let us = c.args.updates.now in
    let i = c.loop-update.update-index in
    recorded-next c.loop-update.records c.keep.new.records c.update-item.result (drop (i + 1) us) us
    (subst (λ left. recorded_all c.loop-update.records left ≡ recorded_all map.empty us) (next_left us i c.update-item.result c.loop-update-test.true c.update-item.is) c.loop-update.invariant)
    c.in_ok-keep.ensures

pub returns : goal.returns
returns c =
    sym (ap (recorded_all c.loop-update.records) (drop_all c.loop-update.update-index c.args.updates.now c.loop-update-test.false)) ∙ c.loop-update.invariant
