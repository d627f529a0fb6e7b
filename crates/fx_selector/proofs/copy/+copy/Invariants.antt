use Rattle.std.proofs.Common.{◌≡◌, map, take}
use Rattle.fx_selector.specs.Nodes.{tree}
use Rattle.fx_selector.proofs.copy.+copy.Given as goal

abbrev pub invariant-copies_of-loop-part : goal.invariant-copies_of-loop-part
invariant-copies_of-loop-part l = map tree l.copies.items ≡ map tree (take l.part-index l.parts.items)
