use Rattle.fx_model.proofs.Orders.{pairs_total, exact_pair}
use Rattle.fx_base.proofs.Entries.{taken_out}
use Rattle.fx_model.proofs.pairs.PairSet.remove.Goals as goal

pub returns : goal.returns
returns c = taken_out pairs_total exact_pair _ _ _ c.self.view_is _ c.remove.ensures.updates.0
