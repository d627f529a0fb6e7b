use Rattle.std.proofs.Common.{sym, ap, subst, ◌∙◌, ◌++◌}
use Rattle.fx_selector.specs.Canonical.{canonical_text}
use Rattle.fx_selector.specs.Nodes.{tree}
use Rattle.fx_selector.specs.Places.{Spells}
use Rattle.fx_selector.proofs.Spelling.{canonical_spells}
use Rattle.fx_selector.proofs.selector.Selector.canonical.Goals as goal

pub returns-clause-spells : goal.returns-clause-spells
returns-clause-spells c =
    let text = c.in_ok-from_vec.ensures ∙ (c.in_ok-write_node.ensures ∙ ap (λ prefix. prefix ++ canonical_text (tree c.self.inside.node)) c.new-out.ensures.items) in
    subst (λ t. Spells c.in_ok-from_vec.field-0 t) c.self.view_is (subst (λ x. Spells x (tree c.self.inside.node)) (sym text) (canonical_spells (tree c.self.inside.node) c.self.invariant.tree))
