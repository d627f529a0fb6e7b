use Rattle.std.proofs.Common.{◌≡◌, drop}
use Rattle.fx_selector.specs.Nodes.{trees_of}
use Rattle.fx_selector.proofs.equality.+equality.Given as goal

abbrev pub invariant-same_nodes-loop-x : goal.invariant-same_nodes-loop-x
invariant-same_nodes-loop-x l = record {
  onward : trees_of (drop l.x-index l.a) ≡ trees_of l.rest → trees_of l.a ≡ trees_of l.fn.b;
  back : trees_of l.a ≡ trees_of l.fn.b → trees_of (drop l.x-index l.a) ≡ trees_of l.rest;
}
