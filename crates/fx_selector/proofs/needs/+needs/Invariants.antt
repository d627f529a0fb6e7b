use Rattle.std.proofs.Common.{◌≡◌, drop, None}
use Rattle.fx_selector.specs.Nodes.{trees_of}
use Rattle.fx_selector.specs.Needs.{need_in, needed_from}
use Rattle.fx_selector.proofs.needs.+needs.Given as goal

abbrev pub invariant-first_requirement-loop-part : goal.invariant-first_requirement-loop-part
invariant-first_requirement-loop-part l = needed_from (need_in l.found) (trees_of (drop l.part-index l.parts)) ≡ needed_from None (trees_of l.parts)
