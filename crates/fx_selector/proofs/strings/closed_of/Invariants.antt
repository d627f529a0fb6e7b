use Rattle.std.proofs.Common.{◌≡◌, ◌≤◌, length}
use Rattle.fx_selector.specs.Reading.{closed}
use Rattle.fx_selector.proofs.Prefixes.{with_all}
use Rattle.fx_selector.proofs.strings.closed_of.Given as goal

abbrev pub invariant-loop-c : goal.invariant-loop-c
invariant-loop-c l = (with_all l.bytes.items (closed l.fn.quote l.after) ≡ closed l.fn.quote l.fn.rest) × (length l.after ≤ length l.fn.rest)

abbrev pub decreases-loop-c : goal.decreases-loop-c
decreases-loop-c l = length l.after
