use Rattle.std.proofs.Common.{sym, ap, ◌∙◌, arith, drop, length-drop}
use Rattle.fx_selector.specs.Nodes.{tree}
use Rattle.fx_selector.proofs.Rows.{same-And, same-Or}
use Rattle.fx_selector.proofs.Others.{no_And, no_Or, never, ended}
use Rattle.fx_selector.proofs.equality.+equality.Goals as goal

pub same_node-returns-in-And-And : goal.same_node-returns-in-And-And
same_node-returns-in-And-And t c = rw (c.in-And-And.is-0, c.in-And-And.is-1) (same-And _ _ _ (rw (← c.deref-in-And-And.ensures.value, ← c.deref-in-And-And-2.ensures.value) c.same_nodes.ensures))

pub same_node-returns-in-Or-Or : goal.same_node-returns-in-Or-Or
same_node-returns-in-Or-Or t c = rw (c.in-Or-Or.is-0, c.in-Or-Or.is-1) (same-Or _ _ _ (rw (← c.deref-in-Or-Or.ensures.value, ← c.deref-in-Or-Or-2.ensures.value) c.same_nodes-in-Or-Or.ensures))

pub same_node-returns-in_default-5 : goal.same_node-returns-in_default-5
same_node-returns-in_default-5 t c = never _ (λ e. no_And c.in_default.field-0-0 c.args.b.now c.in_default.not-And-1 (sym (ap tree c.in_default.is-0) ∙ e))

pub same_node-returns-in_default-6 : goal.same_node-returns-in_default-6
same_node-returns-in_default-6 t c = never _ (λ e. no_Or c.in_default.field-0-0 c.args.b.now c.in_default.not-Or-1 (sym (ap tree c.in_default.is-0) ∙ e))

pub same_nodes-returns : goal.same_nodes-returns
same_nodes-returns t c =
    let f = ended (drop c.loop-x.x-index c.args.a.now) c.loop-x.rest.now c.is_empty.result (omega (arith, c.loop-x-test.false, length-drop c.loop-x.x-index c.args.a.now)) c.is_empty.ensures in
    (λ t. c.loop-x.invariant.onward (f.0 t), λ p. f.1 (c.loop-x.invariant.back p))
