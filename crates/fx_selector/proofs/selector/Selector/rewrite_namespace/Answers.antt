use Rattle.std.proofs.Common.{◌+◌, ◌≤◌, codes, sym, ap, subst, ◌∙◌}
use Rattle.fx_selector.specs.Tree.{IsSelector, IsTree, height}
use Rattle.fx_selector.specs.Rewriting.{namespace_tree}
use Rattle.fx_selector.proofs.Rewritten.{namespace_selector, height-rewritten}
use Rattle.fx_selector.proofs.selector.Selector.rewrite_namespace.Goals as goal

pub invariant_of-result : goal.invariant_of-result
invariant_of-result c = subst IsSelector (sym c.in_ok-node.ensures) (subst (λ t. IsSelector (namespace_tree t)) (sym c.self.view_is) (namespace_selector c.args.self.now (subst IsTree c.self.view_is c.self.invariant.tree) c.requires))

pub returns-clause-shallow : goal.returns-clause-shallow
returns-clause-shallow c = subst (λ t. height t ≤ height c.args.self.now + 1) (sym (c.in_ok-node.ensures ∙ ap namespace_tree c.self.view_is)) (height-rewritten (codes "pcns.") (codes "projectcalico.org/namespace") c.args.self.now)

pub returns-clause-selector : goal.returns-clause-selector
returns-clause-selector c = invariant_of-result c
