use Rattle.std.proofs.Common.{◌+◌, ◌-◌}
use Rattle.fx_base.proofs.Decimals.{Tried}
use Rattle.fx_base.proofs.number.begins_one.Given as goal

abbrev pub invariant-loop-least : goal.invariant-loop-least
invariant-loop-least l = Tried l.low l.value l.least l.greatest

abbrev pub decreases-loop-least : goal.decreases-loop-least
decreases-loop-least l = l.high + 1 - l.least
