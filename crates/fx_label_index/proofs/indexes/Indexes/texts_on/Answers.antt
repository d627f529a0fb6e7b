use Rattle.std.proofs.Common.{ap, ◌∙◌}
use Rattle.fx_base.specs.Ticks.{ticked}
use Rattle.fx_label_index.proofs.Meeting.{found_met, found_number}
use Rattle.fx_label_index.proofs.indexes.Indexes.texts_on.Goals as goal

pub test_texts-requires : goal.test_texts-requires
test_texts-requires g c = λ t.
    c.in_ok-candidates.ensures t ∙ found_met c.args.selectors.now c.args.self.now.by_need c.requires c.args.labels.now t

pub returns-clause-ticks : goal.returns-clause-ticks
returns-clause-ticks g c =
    c.in_ok-test_texts.ensures.ticks
    ∙ ap (λ n. ticked n (g.T.Ticker.number c.args.ticks.now)) (found_number c.args.selectors.now c.args.labels.now c.in_ok-candidates.candidates (λ t.
    c.in_ok-candidates.ensures t ∙ found_met c.args.selectors.now c.args.self.now.by_need c.requires c.args.labels.now t))
