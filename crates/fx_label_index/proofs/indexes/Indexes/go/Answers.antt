use Rattle.std.proofs.Common.{cond, ◌&&◌, false, ap, ◌∙◌}
use Rattle.std.specs.FinMap as map
use Rattle.fx_base.specs.Grouped.{same_text}
use Rattle.fx_selector.specs.Needs.{need_in}
use Rattle.fx_label_rows.specs.Spots.{stands, at}
use Rattle.fx_label_index.proofs.Keeping.{selector_gone}
use Rattle.fx_label_index.proofs.Meeting.{meeting_met}
use Rattle.fx_label_index.proofs.Needing.{lowered_last}
use Rattle.fx_label_index.proofs.indexes.Indexes.go.Goals as goal

pub returns-clause-kept : goal.returns-clause-kept
returns-clause-kept g c = λ selectors last kept. record {
  by_label = kept.by_label;
  by_need = lowered_last selectors c.args.self.now.by_need c.args.text.now kept.by_need c.args.selector.now c.change.new.self last
      (λ s t. c.in_ok-change.ensures s t ∙ ap (λ n. cond (stands n s && same_text t c.args.text.now) false (at c.args.self.now.by_need s t)) c.requirement-needed.ensures);
  texts = selector_gone selectors c.args.self.now.labels c.args.self.now.texts c.args.text.now kept.texts c.args.selector.now c.in_ok-items.items c.tell_items.new.rows last
      c.in_ok-tell_items.ensures.rows
      (λ i. c.in_ok-items.ensures i ∙ meeting_met c.args.selector.now (need_in c.requirement-needed.result) (map.get c.args.self.now.labels i) c.requirement-needed.ensures);
}
