use Rattle.std.proofs.Common.{refl, ◌∙◌}
use Rattle.fx_graph_rules.proofs.Uppers.{upper_gone}
use Rattle.fx_graph_rules.proofs.Composing.{composed}
use Rattle.fx_graph_rules.proofs.nodes.Upper.remove_policy.Goals as goal

pub returns-clause-upper : goal.returns-clause-upper
returns-clause-upper g c = λ used u.
    let a = c.in_ok-remove_policy.ensures in
    upper_gone _ _ _ _ _ u _ _ _ _
    (record { matched = u.joined.matched; same = (λ k. (a.inputs k).matched) ∙ u.joined.same; active = a.active })
    c.args.id.now refl (λ k. (a.inputs k).policies)
    _ (c.in_ok-before.ensures ∙ c.selector_text.ensures)

pub returns-clause-composed : goal.returns-clause-composed
returns-clause-composed g c = composed _ _ _ _ _ (returns-clause-upper g c c.requires.0 c.requires.1)
