use Rattle.std.proofs.Common.{◌≡◌, length, refl, subst, arith}
use Rattle.fx_base.specs.Forms.{GoesTo, IsNumber}
use Rattle.fx_base.proofs.NumberLemmas.{IsReadPrefix, prefix_none, prefix_stops, goes_through, found, unfound}
use Rattle.fx_base.proofs.number.number.Goals as goal

pub loop-at-init : goal.loop-at-init
loop-at-init c = prefix_none c.args.low c.args.high c.args.text.now c.requires.range.0

stopped : (c : goal.After-ended) → GoesTo (IsNumber c.args.low c.args.high) c.args.text.now c.loop-at.at
stopped c =
    prefix_stops c.args.low c.args.high c.args.text.now c.loop-at.read c.loop-at.at c.loop-at-test.true c.in-None.ensures.none c.loop-at.invariant

pub returns-in-None-clause-ok : goal.returns-in-None-clause-ok
returns-in-None-clause-ok c = found c.args.low c.args.high c.args.text.now c.loop-at.read c.loop-at.at c.ended.result c.loop-at.invariant (stopped c) c.ended.ensures.ok

pub returns-in-None-clause-err : goal.returns-in-None-clause-err
returns-in-None-clause-err c = unfound c.args.low c.args.high c.args.text.now c.loop-at.read c.loop-at.at c.ended.result c.requires.range.1 c.loop-at.invariant (stopped c) c.ended.ensures.err

pub returns-clause-err : goal.returns-clause-err
returns-clause-err c =
    let text = c.args.text.now in
    let all : c.loop-at.at ≡ length text = omega arith in
    let prefix : IsReadPrefix c.args.low c.args.high text c.loop-at.read (length text) = subst (IsReadPrefix c.args.low c.args.high text c.loop-at.read) all c.loop-at.invariant in
    unfound c.args.low c.args.high text c.loop-at.read (length text) c.ended-2.result c.requires.range.1 prefix (goes_through (IsNumber c.args.low c.args.high) text (length text) refl prefix.begins) c.ended-2.ensures.err
