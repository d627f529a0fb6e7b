use Rattle.std.proofs.Common.{◌∙◌, arith}
use Rattle.std.proofs.cmp.SliceLoops.{ended}
use Rattle.std.specs.Ordering.{nat_cmp}
use Rattle.fx_base.proofs.bytes_order.order.Goals as goal

pub returns : goal.returns
returns c =
    let inv = c.loop-i.invariant in
    let m = inv.0 in
    let p = inv.1 in
    let q = c.loop-i-test.false in
    let r = c.cmp.result in
    ended c.args.a.now c.args.b.now c.loop-i.i r (omega arith) c.cmp.ensures nat_cmp ∙ inv.2
