use Rattle.fx_label_index.proofs.Indexing.{none_kept, none_told}
use Rattle.fx_label_index.proofs.indexes.Indexes.new.Goals as goal

pub returns-clause-kept : goal.returns-clause-kept
returns-clause-kept c = none_kept _ c.new.ensures c.new-2.ensures c.new-3.ensures.by_value c.new-3.ensures.by_key c.new-3.ensures.free c.new-4.ensures

pub returns-clause-told : goal.returns-clause-told
returns-clause-told c = none_told c.new-4.result c.new-4.ensures
