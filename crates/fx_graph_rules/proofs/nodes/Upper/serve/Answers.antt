use Rattle.std.proofs.Common.{refl, ◌∙◌}
use Rattle.fx_graph_rules.proofs.Uppers.{upper_stays}
use Rattle.fx_graph_rules.proofs.Composing.{composed}
use Rattle.fx_graph_rules.proofs.nodes.Upper.serve.Goals as goal

pub returns-clause-upper : goal.returns-clause-upper
returns-clause-upper g c = λ used u.
    let a = c.in_ok-put_endpoint.ensures in
    upper_stays _ _ _ _ _ u _ _ _ _
    (record { matched = u.joined.matched; same = (λ k. (a.inputs k).matched) ∙ u.joined.same; active = a.active })
    refl
    (λ k. (a.inputs k).policies)

pub returns-clause-composed : goal.returns-clause-composed
returns-clause-composed g c = composed _ _ _ _ _ (returns-clause-upper g c c.requires.0 c.requires.1)
