use Rattle.std.proofs.Common.{inr, sym, ◌∙◌}
use Rattle.std.proofs.lemmas.Bool.{false≢true}
use Rattle.fx_lines.specs.Commands.{viewed, value_in}
use Rattle.fx_lines.proofs.Asking.{value_in-long, value_in-blank, value_in-value, value_in-none, refuses-same}
use Rattle.fx_lines.proofs.commands.read_line.Goals as goal

pub returns-then-is_too_long : goal.returns-then-is_too_long
returns-then-is_too_long c = inr (value_in-long c.args.line.now c.if-is_too_long.ensures)

pub returns-then-is_blank : goal.returns-then-is_blank
returns-then-is_blank c = value_in-blank c.args.line.now c.if-is_too_long.ensures c.if-is_blank.ensures

pub returns-in-Ok : goal.returns-in-Ok
returns-in-Ok c =
    refuses-same (value_in c.args.line.now) (viewed c.one_member.result)
    (value_in-value c.args.line.now c.if-is_too_long.ensures _ c.if-is_blank.ensures c.in-Ok.ensures.ok ∙ sym c.one_member.ensures)

pub returns-else-is_memory : goal.returns-else-is_memory
returns-else-is_memory c = inr (value_in-none c.args.line.now c.if-is_too_long.ensures c.if-is_blank.ensures (c.in-Err.ensures.err (λ memory. false≢true (c.if-is_memory.ensures.1 memory))))
