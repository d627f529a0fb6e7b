use Rattle.std.proofs.Common.{◌+◌, ◌-◌, length, arith, sym, ap, subst, ◌∙◌}
use Rattle.fx_selector.specs.Nodes.{tree}
use Rattle.fx_selector.specs.Reader.{parsed}
use Rattle.fx_selector.specs.Gives.{Fails, cause}
use Rattle.fx_selector.specs.Parsing.{fault_at}
use Rattle.fx_selector.specs.Places.{IsSelectorFault}
use Rattle.fx_selector.specs.declared.fault.ParseError.TheVariants.{At}
use Rattle.fx_selector.proofs.Parsing.{means, is_fault, left_short}
use Rattle.fx_selector.proofs.whole.parse.Goals as goal

pub overflow_sub-text : goal.overflow_sub-text
overflow_sub-text c =
    let w : Fails (At c.in-Err-At.fault c.in-Err-At.left) (parsed 512 (length c.args.text.now + 1) 64 c.args.text.now) = rw c.in-Err-At.field-0-is at (c.in-Err-At.ensures (length c.args.text.now + 1) (omega arith)) in
    omega (arith, w.2, left_short c.args.text.now c.requires (cause c.in-Err-At.fault) w.0 w.1)

pub returns-in-Ok : goal.returns-in-Ok
returns-in-Ok c = means c.args.text.now c.requires (tree c.in-Ok.node) (c.in-Ok.ensures (length c.args.text.now + 1) (omega arith))

pub returns-in-Err-At : goal.returns-in-Err-At
returns-in-Err-At c =
    let w : Fails (At c.in-Err-At.fault c.in-Err-At.left) (parsed 512 (length c.args.text.now + 1) 64 c.args.text.now) = rw c.in-Err-At.field-0-is at (c.in-Err-At.ensures (length c.args.text.now + 1) (omega arith)) in
    subst (IsSelectorFault c.args.text.now)
    (sym (c.placed.ensures ∙ ap (λ n. fault_at c.in-Err-At.fault (length c.args.text.now - n)) w.2))
    (is_fault c.args.text.now c.requires c.in-Err-At.fault w.0 w.1)
