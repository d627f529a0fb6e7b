use Rattle.std.proofs.Common.{◌≡◌, ◌≤◌, ◌++◌, ℕ, List, drop, take}
use Rattle.std.specs.Io.KnownBytes.{Appends}
use Rattle.fx_reconcile.specs.Goal.{after_all}
use Rattle.fx_reconcile.specs.Operations.{operations}
use Rattle.fx_reconcile.proofs.Led.{IsLeft}
use Rattle.fx_leading.specs.Lines.{op_lines}
use Rattle.fx_leading.proofs.leading.lead.Given as goal

-- those that are left are the operations from the tables as they stand, and their lines are what is left to write; the tables are
-- those after the ones before, whose lines were written
abbrev pub invariant-loop-op : goal.invariant-loop-op
invariant-loop-op g l = record {
  left : IsLeft l.now l.goal (drop l.op-index l.op-items);
  output : (piece : List ℕ) × Appends (g.K.Sink.state l.fn.sink).held (g.K.Sink.state l.sink).held piece × (piece ++ op_lines l.goal (drop l.op-index l.op-items) ≡ op_lines l.goal (operations l.fn.now l.goal));
  at : l.now ≡ after_all (take l.op-index l.op-items) l.fn.now l.goal;
  lines : Appends (g.K.Sink.state l.fn.sink).held (g.K.Sink.state l.sink).held (op_lines l.goal (take l.op-index l.op-items));
  later : (g.K.Sink.state l.fn.sink).faults ≤ (g.K.Sink.state l.sink).faults;
}
