-- The parts from `i` on are in the order in which the texts are.
use Rattle.std.proofs.Common.{◌≡◌, ◌≤◌, length}
use Rattle.std.specs.Prelude.{min}
use Rattle.std.specs.Ordering.{nat_cmp}
use Rattle.std.specs.Cmp.Lexicographic.{slice_cmp}
use Rattle.std.proofs.cmp.SliceLoops.{Rest}
use Rattle.fx_base.proofs.bytes_order.order.Given as goal

abbrev pub invariant-loop-i : goal.invariant-loop-i
invariant-loop-i l = (l.both ≡ min (length l.a) (length l.b)) × (l.i ≤ l.both) × Rest (slice_cmp nat_cmp) l.a l.b l.i
