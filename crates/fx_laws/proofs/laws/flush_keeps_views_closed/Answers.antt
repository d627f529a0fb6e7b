use Rattle.fx_laws.proofs.Flushes.{flush-closed}
use Rattle.fx_laws.proofs.laws.flush_keeps_views_closed.Goals as goal

pub returns : goal.returns
returns c = flush-closed
