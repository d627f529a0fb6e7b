use Rattle.std.proofs.Common.{◌≡◌, true, subst}
use Rattle.std.specs.Bool.{one_answer}
use Rattle.fx_selector.specs.SameTree.{same_tree, same_tree_equiv, one_tree}
use Rattle.fx_selector.proofs.selector.SelectorPartialEq.eq.Goals as goal

pub returns : goal.returns
returns c = one_answer _ _ (rw (c.self.view_is, c.other.view_is) at c.same_node.ensures) (one_tree c.args.self.now c.args.other.now, λ e. subst (λ t. same_tree c.args.self.now t ≡ true) e (same_tree_equiv.refl c.args.self.now))
