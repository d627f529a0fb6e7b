use Rattle.std.proofs.Common.{◌≡◌, ◌++◌, take}
use Rattle.fx_model.specs.MatchTexts.{later_ranges}
use Rattle.fx_rows.proofs.matches.push_later_ranges.Given as goal

abbrev pub invariant-loop-range : goal.invariant-loop-range
invariant-loop-range l = l.line.items ≡ l.fn.line.items ++ later_ranges (take l.range-index l.list)
