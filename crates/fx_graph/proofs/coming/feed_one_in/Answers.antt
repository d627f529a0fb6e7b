use Rattle.std.proofs.Common.{sym, subst}
use Rattle.fx_graph.specs.Testing.{IsRaisedFrom}
use Rattle.fx_label_index.specs.Tested.{IsTested}
use Rattle.fx_graph.proofs.Testing.{then_raised}
use Rattle.fx_graph.proofs.coming.feed_one_in.Goals as goal

pub returns-in_default-clause-tests : goal.returns-in_default-clause-tests
returns-in_default-clause-tests g c = λ first m it. it

pub returns-clause-tests : goal.returns-clause-tests
returns-clause-tests g c = λ first m it.
    let old = c.args.joined.now.index in
    let k = g.T.Ticker.number c.args.ticks.now in
    let n = g.T.Ticker.number c.put_selector.new.ticks in
    let e = c.in_ok-changes.ensures in
    let t = c.in_ok-text.ensures in
    subst (λ b. IsRaisedFrom first m b n) (sym e.index) (then_raised first old m k n it _ _ t.selector t.text (subst (λ b. IsTested old b k n) e.index e.tests))
