use Rattle.std.proofs.Common.{◌≡◌, ◌++◌}
use Rattle.fx_model.specs.MessageTexts.{each_member}
use Rattle.fx_print.proofs.messages.push_listed.Given as goal

-- with the members that are left behind them, the bytes are whole
abbrev pub invariant-loop-member : goal.invariant-loop-member
invariant-loop-member l = l.line.items ++ each_member l.lead l.member-iterator ≡ l.fn.line.items ++ each_member l.lead l.members
