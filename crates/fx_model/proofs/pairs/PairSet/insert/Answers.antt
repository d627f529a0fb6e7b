use Rattle.fx_model.proofs.Orders.{pairs_total, exact_pair}
use Rattle.fx_base.proofs.Entries.{put_in}
use Rattle.fx_model.proofs.pairs.PairSet.insert.Goals as goal

pub returns-clause-ok : goal.returns-clause-ok
returns-clause-ok c = put_in pairs_total exact_pair _ _ _ c.self.view_is _ c.in_ok-insert.ensures.updates.0
