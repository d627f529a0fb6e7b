use Rattle.std.proofs.Common.{ap, ◌∙◌}
use Rattle.std.specs.FinMap as map
use Rattle.fx_graph_rules.proofs.Uppers.{upper_put}
use Rattle.fx_graph_rules.proofs.Composing.{composed}
use Rattle.fx_graph_rules.proofs.Counts.{raised_still}
use Rattle.fx_graph_rules.proofs.nodes.Upper.put_policy.Goals as goal

pub returns-clause-upper : goal.returns-clause-upper
returns-clause-upper g c = λ used u.
    let s = c.in_ok-changes.ensures in
    let a = c.in_ok-put_policy.ensures in
    upper_put _ _ _ _ _ u _ _ _ _
    (record { matched = s.joined.matched; same = (λ k. (a.inputs k).matched) ∙ s.joined.same; active = a.active })
    c.args.id.now c.args.policy.now _ c.in_ok-text.ensures.selector c.in_ok-text.ensures.text
    (λ k. (s.index k).selectors)
    ((λ k. (a.inputs k).policies) ∙ (λ k. map.insert (s.active k).policies c.args.id.now c.args.policy.now))
    _ (c.in_ok-before.ensures ∙ c.selector_text.ensures)

pub returns-clause-composed : goal.returns-clause-composed
returns-clause-composed g c = composed _ _ _ _ _ (returns-clause-upper g c c.requires.0 c.requires.1)

pub returns-clause-counted : goal.returns-clause-counted
returns-clause-counted g c = λ t h.
    let old = c.args.self.now.joined.index.selectors in
    ap (λ n. map.contains_key n.selectors t) c.in_ok-changes.ensures.index ∙ raised_still old c.in_ok-text.text c.args.policy.now.selector t h
