use Rattle.std.proofs.Common.{sym, subst, ◌∙◌}
use Rattle.fx_selector.specs.Nodes.{label_tree}
use Rattle.fx_selector.specs.Gives.{Gives}
use Rattle.fx_selector.proofs.Paths.{test_equal, test_unequal, test_word}
use Rattle.fx_selector.proofs.grammar.test_at.Goals as goal

pub returns-then-begins-clause-reads : goal.returns-then-begins-clause-reads
returns-then-begins-clause-reads c = λ k n h. subst (Gives (λ x. label_tree k x.0) (λ x. x.1.now) c.equal_at.result)
    (sym (test_equal n k c.args.rest.now (sym c.begins.ensures ∙ c.if-begins.true)))
    (c.equal_at.ensures.reads k)

pub returns-then-begins-2-clause-reads : goal.returns-then-begins-2-clause-reads
returns-then-begins-2-clause-reads c = λ k n h. subst (Gives (λ x. label_tree k x.0) (λ x. x.1.now) c.unequal_at.result)
    (sym (test_unequal n k c.args.rest.now (sym c.begins.ensures ∙ c.if-begins.false) (sym c.begins-2.ensures ∙ c.if-begins-2.true)))
    (c.unequal_at.ensures.reads k)

pub returns-clause-reads : goal.returns-clause-reads
returns-clause-reads c = λ k n h. subst (Gives (λ x. label_tree k x.0) (λ x. x.1.now) c.word_test_at.result)
    (sym (test_word n k c.args.rest.now (sym c.begins.ensures ∙ c.if-begins.false) (sym c.begins-2.ensures ∙ c.if-begins-2.false)))
    (c.word_test_at.ensures.reads k n h)
