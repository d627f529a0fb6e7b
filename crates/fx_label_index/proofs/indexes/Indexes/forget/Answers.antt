use Rattle.fx_label_index.proofs.Keeping.{item_gone}
use Rattle.fx_label_index.proofs.indexes.Indexes.forget.Goals as goal

pub returns-clause-kept : goal.returns-clause-kept
returns-clause-kept g c = λ selectors kept. record {
  by_label = c.in_ok-drop_item.ensures.by_label;
  by_need = kept.by_need;
  texts = item_gone selectors c.args.self.now.labels c.args.self.now.texts c.args.key.now kept.texts c.drop_item.new.labels c.forget_item.new.rows c.in_ok-drop_item.ensures.labels c.in_ok-forget_item.ensures.rows;
}
