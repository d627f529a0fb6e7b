use Rattle.std.proofs.Common.{◌∙◌}
use Rattle.fx_model.proofs.Orders.{pairs_total}
use Rattle.fx_base.proofs.Entries.{listed}
use Rattle.fx_model.proofs.pairs.PairSet.iter.Goals as goal

pub returns : goal.returns
returns c = c.iter.ensures.rest ∙ listed pairs_total _ _ c.self.view_is c.self.invariant
