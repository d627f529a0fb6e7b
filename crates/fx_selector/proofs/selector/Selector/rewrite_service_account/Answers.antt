use Rattle.std.proofs.Common.{◌+◌, ◌≤◌, codes, sym, ap, subst, ◌∙◌}
use Rattle.fx_selector.specs.Tree.{IsSelector, IsTree, height}
use Rattle.fx_selector.specs.Rewriting.{service_account_tree}
use Rattle.fx_selector.proofs.Rewritten.{service_account_selector, height-rewritten}
use Rattle.fx_selector.proofs.selector.Selector.rewrite_service_account.Goals as goal

pub invariant_of-result : goal.invariant_of-result
invariant_of-result c = subst IsSelector (sym c.in_ok-node.ensures) (subst (λ t. IsSelector (service_account_tree t)) (sym c.self.view_is) (service_account_selector c.args.self.now (subst IsTree c.self.view_is c.self.invariant.tree) c.requires))

pub returns-clause-shallow : goal.returns-clause-shallow
returns-clause-shallow c = subst (λ t. height t ≤ height c.args.self.now + 1) (sym (c.in_ok-node.ensures ∙ ap service_account_tree c.self.view_is)) (height-rewritten (codes "pcsa.") (codes "projectcalico.org/serviceaccount") c.args.self.now)

pub returns-clause-selector : goal.returns-clause-selector
returns-clause-selector c = invariant_of-result c
