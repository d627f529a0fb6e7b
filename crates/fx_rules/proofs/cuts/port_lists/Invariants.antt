use Rattle.std.proofs.Common.{◌≡◌, drop}
use Rattle.fx_model.specs.Rendering.{lists_from}
use Rattle.fx_rules.specs.Cuts.{pending}
use Rattle.fx_rules.proofs.cuts.port_lists.Given as goal

-- with the ranges that are left cut too, the lists are whole
abbrev pub invariant-loop-range : goal.invariant-loop-range
invariant-loop-range l = pending l.cut (drop l.range-index l.range-items) ≡ lists_from 15 l.ranges
