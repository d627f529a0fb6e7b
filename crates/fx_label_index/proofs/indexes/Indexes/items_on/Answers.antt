use Rattle.std.proofs.Common.{ap, ◌∙◌}
use Rattle.std.specs.FinMap as map
use Rattle.fx_base.specs.Set as set
use Rattle.fx_base.specs.Ticks.{ticked}
use Rattle.fx_selector.specs.Needs.{need_in}
use Rattle.fx_label_index.proofs.Gaining.{candidates_number, items_few, gained_ticked, no_fewer}
use Rattle.fx_label_index.proofs.Meeting.{meeting_met}
use Rattle.fx_label_index.proofs.indexes.Indexes.items_on.Goals as goal

pub test_items-requires : goal.test_items-requires
test_items-requires g c = λ i.
    c.in_ok-candidates.ensures i ∙ meeting_met c.args.selector.now (need_in c.requirement-needed.result) (map.get c.args.self.now.labels i) c.requirement-needed.ensures

pub returns-clause-ticks : goal.returns-clause-ticks
returns-clause-ticks g c = λ n have.
    c.in_ok-items.ensures.ticks
    ∙ ap (λ k. ticked k (g.T.Ticker.number c.args.ticks.now)) (candidates_number c.args.selector.now n c.args.self.now.labels have c.in_ok-candidates.candidates (λ i.
    c.in_ok-candidates.ensures i ∙ meeting_met c.args.selector.now (need_in c.requirement-needed.result) (map.get c.args.self.now.labels i) c.requirement-needed.ensures))

pub returns-clause-number : goal.returns-clause-number
returns-clause-number g c =
    gained_ticked (set.len c.in_ok-items.items) (set.len c.in_ok-items.items) (set.len c.in_ok-candidates.candidates) (g.T.Ticker.number c.args.ticks.now) (g.T.Ticker.number c.test_items.new.ticks) (no_fewer _)
    (items_few c.args.selector.now c.args.self.now.labels c.in_ok-candidates.candidates c.in_ok-items.items (λ i.
    c.in_ok-candidates.ensures i ∙ meeting_met c.args.selector.now (need_in c.requirement-needed.result) (map.get c.args.self.now.labels i) c.requirement-needed.ensures) c.in_ok-items.ensures.answers)
    c.in_ok-items.ensures.ticks
