use Rattle.std.proofs.Common.{◌≡◌, ◌+◌, length}
use Rattle.fx_selector.specs.Reading.{run}
use Rattle.fx_selector.proofs.Prefixes.{with_all}
use Rattle.fx_selector.proofs.tokens.word_of.Given as goal

abbrev pub invariant-loop-c : goal.invariant-loop-c
invariant-loop-c l = (with_all l.bytes.items (run l.room l.after) ≡ run l.fn.limit l.fn.rest) × (length l.after + length l.bytes.items ≡ length l.fn.rest)

abbrev pub decreases-loop-c : goal.decreases-loop-c
decreases-loop-c l = length l.after
