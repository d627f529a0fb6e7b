use Rattle.std.proofs.Common.{sym, ap, ◌∙◌}
use Rattle.fx_selector.specs.Nodes.{tree, trees_of}
use Rattle.fx_selector.specs.Truth.{holds, hold_all, hold_some}
use Rattle.fx_selector.proofs.Rows.{tree-And, tree-Or}
use Rattle.fx_selector.proofs.truth.+truth.Goals as goal

pub matches-returns-in-And : goal.matches-returns-in-And
matches-returns-in-And t c =
    c.all_match.ensures
    ∙ (ap (λ x. hold_all (trees_of x) c.args.labels.now) c.deref-in-And.ensures.value
    ∙ (sym (ap (λ x. holds x c.args.labels.now) (tree-And c.in-And.parts)) ∙ sym (ap (λ x. holds (tree x) c.args.labels.now) c.in-And.is)))

pub matches-returns-in-Or : goal.matches-returns-in-Or
matches-returns-in-Or t c =
    c.some_match.ensures
    ∙ (ap (λ x. hold_some (trees_of x) c.args.labels.now) c.deref-in-Or.ensures.value
    ∙ (sym (ap (λ x. holds x c.args.labels.now) (tree-Or c.in-Or.parts)) ∙ sym (ap (λ x. holds (tree x) c.args.labels.now) c.in-Or.is)))
