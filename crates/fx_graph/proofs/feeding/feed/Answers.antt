use Rattle.std.proofs.Common.{ap, ◌∙◌, sym, subst}
use Rattle.std.specs.FinMap as map
use Rattle.fx_label_index.specs.Tested.{IsTested}
use Rattle.fx_graph_rules.proofs.Composing.{composed}
use Rattle.fx_graph_rules.proofs.SameTold.{same_told}
use Rattle.fx_graph.specs.Fed.{lowered_by}
use Rattle.fx_graph.proofs.Changed.{index_after, index_own, active_after, members_after, beside_after}
use Rattle.fx_graph.proofs.Uppers.{fed_upper}
use Rattle.fx_graph.specs.Testing.{IsRaisedFrom}
use Rattle.fx_graph.proofs.Testing.{noted_lowered}
use Rattle.fx_graph.proofs.feeding.feed.Goals as goal

pub feed_in-requires-clause-joined : goal.feed_in-requires-clause-joined
feed_in-requires-clause-joined g c = c.requires.since.1.upper.joined

pub feed_out-requires-clause-matched : goal.feed_out-requires-clause-matched
feed_out-requires-clause-matched g c = ap (λ m. m.matched) c.in_ok-feed_in.ensures.inputs

pub returns-clause-index : goal.returns-clause-index
returns-clause-index g c = index_own c.args.upper.now.joined.index c.feed_out.new.joined.index _
    (index_after c.args.upper.now.joined.index c.feed_in.new.joined.index c.feed_out.new.joined.index _ _ c.in_ok-feed_in.ensures.index c.in_ok-feed_out.ensures.index)

pub returns-clause-active : goal.returns-clause-active
returns-clause-active g c = active_after c.args.upper.now.joined.active c.feed_in.new.joined.active c.feed_out.new.joined.active _ _ c.in_ok-feed_in.ensures.active c.in_ok-feed_out.ensures.active

pub returns-clause-upper : goal.returns-clause-upper
returns-clause-upper g c = λ before h.
    let i = c.in_ok-feed_in.ensures in
    let o = c.in_ok-feed_out.ensures in
    fed_upper _ _ _ _ _ _ _ h c.requires.formed _ _ _ _ o.joined
    (ap (λ n. n.selectors) o.index ∙ ap (lowered_by (map.entries c.args.notes.now)) (ap (λ n. n.selectors) i.index))
    (ap (λ n. n.policies) o.active ∙ ap (λ n. n.policies) i.active)

pub returns-clause-policies : goal.returns-clause-policies
returns-clause-policies g c = (same_told _ _ _ _ _ (composed _ _ _ _ _ c.requires.since.1.upper) _ _ _ _ _ (composed _ _ _ _ _ (returns-clause-upper g c c.requires.since.0 c.requires.since.1)) _ (returns-clause-index g c) _ (returns-clause-active g c)).policies

pub returns-clause-profiles : goal.returns-clause-profiles
returns-clause-profiles g c = (same_told _ _ _ _ _ (composed _ _ _ _ _ c.requires.since.1.upper) _ _ _ _ _ (composed _ _ _ _ _ (returns-clause-upper g c c.requires.since.0 c.requires.since.1)) _ (returns-clause-index g c) _ (returns-clause-active g c)).profiles

pub returns-clause-pairs : goal.returns-clause-pairs
returns-clause-pairs g c = (same_told _ _ _ _ _ (composed _ _ _ _ _ c.requires.since.1.upper) _ _ _ _ _ (composed _ _ _ _ _ (returns-clause-upper g c c.requires.since.0 c.requires.since.1)) _ (returns-clause-index g c) _ (returns-clause-active g c)).pairs

pub returns-clause-inputs : goal.returns-clause-inputs
returns-clause-inputs g c = members_after c.args.members.now c.feed_in.new.members c.feed_out.new.members _ _ c.in_ok-feed_in.ensures.inputs c.in_ok-feed_out.ensures.inputs

pub returns-clause-beside : goal.returns-clause-beside
returns-clause-beside g c = beside_after _ _ _ c.in_ok-feed_in.ensures.beside c.in_ok-feed_out.ensures.beside

pub returns-clause-tests : goal.returns-clause-tests
returns-clause-tests g c = λ was first m noted sets still it.
    let o = c.in_ok-feed_out.ensures in
    let k = g.T.Ticker.number c.feed_in.new.ticks in
    let came : IsRaisedFrom first m c.feed_in.new.joined.index k =
    c.in_ok-feed_in.ensures.tests first m (record { trees = c.requires.since.1.upper.counted.trees; still = still; tests = it }) in
    subst (λ n. IsTested first c.feed_out.new.joined.index m n) (sym o.quiet)
    (subst (λ b. IsTested first b m k) (sym o.index) (noted_lowered first m k c.args.notes.now was c.args.uses.now noted sets c.feed_in.new.joined.index came.tests))
