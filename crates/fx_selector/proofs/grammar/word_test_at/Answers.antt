use Rattle.std.proofs.Common.{sym, subst, ◌∙◌}
use Rattle.fx_selector.specs.Nodes.{label_tree}
use Rattle.fx_selector.specs.Gives.{Gives}
use Rattle.fx_selector.proofs.Paths.{word_within, word_outside, word_contains, word_starts, word_ends}
use Rattle.fx_selector.proofs.grammar.word_test_at.Goals as goal

pub returns-then-begins-clause-reads : goal.returns-then-begins-clause-reads
returns-then-begins-clause-reads c = λ k n h. subst (Gives (λ x. label_tree k x.0) (λ x. x.1.now) c.within_at.result)
    (sym (word_within n k c.args.rest.now (sym c.begins.ensures ∙ c.if-begins.true)))
    (c.within_at.ensures.reads k n h)

pub returns-then-begins-2-clause-reads : goal.returns-then-begins-2-clause-reads
returns-then-begins-2-clause-reads c = λ k n h. subst (Gives (λ x. label_tree k x.0) (λ x. x.1.now) c.outside_at.result)
    (sym (word_outside n k c.args.rest.now (sym c.begins.ensures ∙ c.if-begins.false) (sym c.begins-2.ensures ∙ c.if-begins-2.true)))
    (c.outside_at.ensures.reads k n h)

pub returns-then-begins-3-clause-reads : goal.returns-then-begins-3-clause-reads
returns-then-begins-3-clause-reads c = λ k n h. subst (Gives (λ x. label_tree k x.0) (λ x. x.1.now) c.contains_at.result)
    (sym (word_contains n k c.args.rest.now (sym c.begins.ensures ∙ c.if-begins.false) (sym c.begins-2.ensures ∙ c.if-begins-2.false) (sym c.begins-3.ensures ∙ c.if-begins-3.true)))
    (c.contains_at.ensures.reads k)

pub returns-then-begins-4-clause-reads : goal.returns-then-begins-4-clause-reads
returns-then-begins-4-clause-reads c = λ k n h. subst (Gives (λ x. label_tree k x.0) (λ x. x.1.now) c.starts_at.result)
    (sym (word_starts n k c.args.rest.now (sym c.begins.ensures ∙ c.if-begins.false) (sym c.begins-2.ensures ∙ c.if-begins-2.false) (sym c.begins-3.ensures ∙ c.if-begins-3.false) (sym c.begins-4.ensures ∙ c.if-begins-4.true)))
    (c.starts_at.ensures.reads k)

pub returns-clause-reads : goal.returns-clause-reads
returns-clause-reads c = λ k n h. subst (Gives (λ x. label_tree k x.0) (λ x. x.1.now) c.ends_at.result)
    (sym (word_ends n k c.args.rest.now (sym c.begins.ensures ∙ c.if-begins.false) (sym c.begins-2.ensures ∙ c.if-begins-2.false) (sym c.begins-3.ensures ∙ c.if-begins-3.false) (sym c.begins-4.ensures ∙ c.if-begins-4.false)))
    (c.ends_at.ensures.reads k)
