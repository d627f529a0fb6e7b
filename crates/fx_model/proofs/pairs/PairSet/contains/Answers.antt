use Rattle.fx_model.proofs.Orders.{pairs_total}
use Rattle.fx_base.proofs.Entries.{holds}
use Rattle.fx_model.proofs.pairs.PairSet.contains.Goals as goal

pub returns : goal.returns
returns c = holds pairs_total _ _ c.self.view_is _ _ c.contains.ensures
