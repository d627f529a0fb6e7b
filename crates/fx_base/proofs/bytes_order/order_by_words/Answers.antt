use Rattle.std.proofs.Common.{◌-◌, length, ◌∙◌, arith}
use Rattle.fx_base.proofs.WordLemmas.{word_decides, word_alike, last_word, fewer}
use Rattle.fx_base.proofs.bytes_order.order_by_words.Goals as goal

pub returns-then-x-y : goal.returns-then-x-y
returns-then-x-y c =
    c.cmp.ensures ∙ word_decides c.args.a.now c.args.b.now c.type_inv.a c.type_inv.b c.loop-at.at _ _ c.word-x.ensures c.word-y.ensures
    c.loop-at.invariant.alike (omega arith) (omega arith) c.if-x-y.true

pub loop-at-preserved : goal.loop-at-preserved
loop-at-preserved c =
    let more = word_alike c.args.a.now c.args.b.now c.type_inv.a c.type_inv.b c.loop-at.at _ _ c.word-x.ensures c.word-y.ensures
    c.loop-at.invariant.alike (omega arith) (omega arith) c.if-x-y.false in
    record { within = omega arith; alike = more }

pub returns : goal.returns
returns c =
    let xs = c.args.a.now in
    let ys = c.args.b.now in
    let last = length xs - 8 in
    last_word xs ys c.type_inv.a c.type_inv.b last _ _ c.word-end_a.ensures c.word-end_b.ensures
    (fewer last c.loop-at.at xs ys (omega arith) c.loop-at.invariant.alike) (omega arith) (omega arith) _ (omega arith) (omega arith) c.cmp-2.ensures
