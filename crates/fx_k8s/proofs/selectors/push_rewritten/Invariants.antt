use Rattle.std.proofs.Common.{◌≡◌, ◌≤◌, ◌++◌, map, take}
use Rattle.std.specs.Prelude.{All}
use Rattle.fx_selector.specs.Tree.{height}
use Rattle.fx_selector.specs.Rewriting.{namespace_tree}
use Rattle.fx_k8s.proofs.selectors.push_rewritten.Given as goal

abbrev pub invariant-loop-part : goal.invariant-loop-part
invariant-loop-part l = record {
  pushed : l.parts.items ≡ l.fn.parts.items ++ map namespace_tree (take l.part-index l.asked);
  shallow : All (λ t. height t ≤ 139) l.parts.items;
}
