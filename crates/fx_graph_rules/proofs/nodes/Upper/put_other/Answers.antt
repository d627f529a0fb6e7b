use Rattle.std.proofs.Common.{◌∙◌}
use Rattle.fx_graph_rules.proofs.Uppers.{upper_stays}
use Rattle.fx_graph_rules.proofs.Composing.{composed}
use Rattle.fx_graph_rules.proofs.nodes.Upper.put_other.Goals as goal

pub returns-clause-upper : goal.returns-clause-upper
returns-clause-upper g c = λ used u.
    let a = c.in_ok-remove_endpoint.ensures in
    let i = c.in_ok-changes.ensures in
    upper_stays _ _ _ _ _ u _ _ _ _ i.joined
    (λ k. (i.index k).selectors)
    ((λ k. (i.active k).policies) ∙ (λ k. (a.inputs k).policies))

pub returns-clause-composed : goal.returns-clause-composed
returns-clause-composed g c = composed _ _ _ _ _ (returns-clause-upper g c c.requires.0 c.requires.1)
