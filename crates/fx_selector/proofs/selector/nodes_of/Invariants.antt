use Rattle.std.proofs.Common.{◌≡◌, map}
use Rattle.fx_selector.specs.Tree.{AreTrees, many}
use Rattle.fx_selector.specs.Nodes.{tree}
use Rattle.fx_selector.proofs.selector.nodes_of.Given as goal

abbrev pub invariant-loop-part : goal.invariant-loop-part
invariant-loop-part l = record { trees : map tree l.nodes.items ≡ l.yielded; sound : AreTrees (many l.yielded) }
