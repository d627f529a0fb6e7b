use Rattle.std.proofs.Common.{List, inr, sym, ap, ◌∙◌, subst}
use Rattle.fx_base.specs.declared.net.PortRange.{PortRange}
use Rattle.fx_found.specs.Values.{range_in}
use Rattle.fx_found.proofs.NamedRows.{some_bytes}
use Rattle.fx_found.proofs.Ranges.{IsHalfRead, half_further, half_stopped}
use Rattle.fx_found.proofs.values.ranges_in.Goals as goal

pub returns-in_default : goal.returns-in_default
returns-in_default c =
    inr (half_stopped c.pieces.ranges.items c.pieces.later.now c.args.text.now
    (some_bytes c.pieces.later.now c.is_empty.result c.is_empty.ensures c.pieces-test.true)
    (ap range_in (sym c.cut.ensures.first) ∙ sym c.range_in.ensures ∙ c.in_default.is)
    c.pieces.invariant)

pub pieces-preserved : goal.pieces-preserved
pieces-preserved c =
    subst (λ (rs : List PortRange). IsHalfRead rs c.cut.result.1.now c.args.text.now) (sym c.in_ok-push.ensures.items)
    (half_further c.pieces.ranges.items c.pieces.later.now c.args.text.now c.cut.result.1.now c.in-Some.range
    (some_bytes c.pieces.later.now c.is_empty.result c.is_empty.ensures c.pieces-test.true)
    (ap range_in (sym c.cut.ensures.first) ∙ sym c.range_in.ensures ∙ c.in-Some.is)
    c.cut.ensures.later
    c.pieces.invariant)
