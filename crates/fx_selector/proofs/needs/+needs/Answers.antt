use Rattle.std.proofs.Common.{sym, ap, ◌∙◌, None}
use Rattle.fx_selector.specs.Nodes.{tree, trees_of}
use Rattle.fx_selector.specs.Needs.{needed, needed_from}
use Rattle.fx_selector.proofs.Rows.{tree-And}
use Rattle.fx_selector.proofs.needs.+needs.Goals as goal

pub requirement_of-returns-in-And : goal.requirement_of-returns-in-And
requirement_of-returns-in-And t c =
    c.first_requirement.ensures
    ∙ (ap (λ x. needed_from None (trees_of x)) c.deref.ensures.value
    ∙ (sym (ap needed (tree-And c.in-And.parts)) ∙ sym (ap (λ x. needed (tree x)) c.in-And.is)))
