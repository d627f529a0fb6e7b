use Rattle.std.proofs.Common.{◌+◌, drop, subst}
use Rattle.std.proofs.lemmas.List.{drop_all}
use Rattle.fx_store.proofs.Touching.{AreTouched, next_left, touched-start, touched-next, touched-end}
use Rattle.fx_store.proofs.touched.touched_keys.Goals as goal

pub loop-update-init : goal.loop-update-init
loop-update-init c = touched-start _ _ c.args.updates.now c.new-keys.ensures.items c.new-seen.ensures

pub loop-update-preserved : goal.loop-update-preserved
loop-update-preserved c =
    let us = c.args.updates.now in
    let i = c.loop-update.update-index in
    touched-next c.loop-update.keys.items c.push_touched.new.keys.items c.loop-update.seen c.push_touched.new.seen c.update-item.result (drop (i + 1) us) us
    (subst (λ left. AreTouched c.loop-update.keys.items c.loop-update.seen left us) (next_left us i c.update-item.result c.loop-update-test.true c.update-item.is) c.loop-update.invariant)
    c.in_ok-push_touched.ensures.seen c.in_ok-push_touched.ensures.keys

pub returns : goal.returns
returns c =
    touched-end c.loop-update.keys.items c.loop-update.seen (drop c.loop-update.update-index c.args.updates.now) c.args.updates.now
    (drop_all c.loop-update.update-index c.args.updates.now c.loop-update-test.false) c.loop-update.invariant
