use Rattle.std.proofs.Common.{ap}
use Rattle.fx_label_index.specs.declared.held.Inputs.{Inputs}
use Rattle.fx_label_index.proofs.Indexing.{none_matched}
use Rattle.fx_label_index.proofs.index.LabelIndex.new.Goals as goal

pub returns-clause-matched : goal.returns-clause-matched
returns-clause-matched c = none_matched _ (ap (λ (n : Inputs). n.selectors) c.new.ensures.empty)
