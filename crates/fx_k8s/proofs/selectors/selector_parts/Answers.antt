use Rattle.std.proofs.Common.{◌≡◌, ◌≤◌}
use Rattle.std.specs.Prelude.{All}
use Rattle.std.proofs.lemmas.List.Elements.{All-same}
use Rattle.fx_selector.specs.Tree.{height}
use Rattle.fx_k8s.specs.Conversion.{selector_trees}
use Rattle.fx_k8s.proofs.LowTrees.{low_trees, shallow_trees, weaker-ok}
use Rattle.fx_k8s.proofs.selectors.selector_parts.Goals as goal

pub returns-clause-low : goal.returns-clause-low
returns-clause-low c =
    let trees = selector_trees c.args.selector.now in
    weaker-ok c.parts_of.result (λ p. p.items ≡ trees) (λ p. All (λ t. height t ≤ 2) p.items) (λ p e. All-same (λ t. height t ≤ 2) p.items trees e (low_trees c.args.selector.now)) c.parts_of.ensures

pub returns-clause-shallow : goal.returns-clause-shallow
returns-clause-shallow c =
    let trees = selector_trees c.args.selector.now in
    weaker-ok c.parts_of.result (λ p. p.items ≡ trees) (λ p. All (λ t. height t ≤ 139) p.items) (λ p e. All-same (λ t. height t ≤ 139) p.items trees e (shallow_trees trees (low_trees c.args.selector.now))) c.parts_of.ensures
