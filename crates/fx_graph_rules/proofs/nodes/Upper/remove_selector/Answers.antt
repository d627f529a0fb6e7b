use Rattle.std.proofs.Common.{sym, subst}
use Rattle.fx_label_index.specs.Tested.{IsTested}
use Rattle.fx_label_index.proofs.Tested.{then_lower}
use Rattle.fx_graph_rules.proofs.Uppers.{upper_less}
use Rattle.fx_graph_rules.proofs.Composing.{composed}
use Rattle.fx_graph_rules.proofs.SameTold.{same_told}
use Rattle.fx_graph_rules.proofs.nodes.Upper.remove_selector.Goals as goal

pub returns-clause-upper : goal.returns-clause-upper
returns-clause-upper g c = λ used u.
    let s = c.in_ok-changes.ensures in
    upper_less _ _ _ _ _ c.args.text.now u _ _ _ _ s.joined
    (λ k. (s.index k).selectors) (λ k. (s.active k).policies)

pub returns-clause-composed : goal.returns-clause-composed
returns-clause-composed g c = composed _ _ _ _ _ (returns-clause-upper g c c.requires.0 c.requires.1)

pub returns-clause-policies : goal.returns-clause-policies
returns-clause-policies g c =
    let s = c.in_ok-changes.ensures in
    (same_told _ _ _ _ _ (composed _ _ _ _ _ c.requires.1) _ _ _ _ _ (returns-clause-composed g c) _ s.index _ s.active).policies

pub returns-clause-profiles : goal.returns-clause-profiles
returns-clause-profiles g c =
    let s = c.in_ok-changes.ensures in
    (same_told _ _ _ _ _ (composed _ _ _ _ _ c.requires.1) _ _ _ _ _ (returns-clause-composed g c) _ s.index _ s.active).profiles

pub returns-clause-pairs : goal.returns-clause-pairs
returns-clause-pairs g c =
    let s = c.in_ok-changes.ensures in
    (same_told _ _ _ _ _ (composed _ _ _ _ _ c.requires.1) _ _ _ _ _ (returns-clause-composed g c) _ s.index _ s.active).pairs

pub returns-clause-tests : goal.returns-clause-tests
returns-clause-tests g c = λ first m there it.
    let s = c.in_ok-changes.ensures in
    let k = g.T.Ticker.number c.args.ticks.now in
    subst (λ n. IsTested first c.remove_selector.new.self.index m n) (sym s.quiet)
    (subst (λ b. IsTested first b m k) (sym s.index) (then_lower first c.args.self.now.joined.index c.args.text.now m k it there))
