use Rattle.fx_laws.proofs.Flushes.{flush-ends}
use Rattle.fx_laws.proofs.laws.flush_ends_at_the_wanted_view.Goals as goal

pub returns : goal.returns
returns c = flush-ends
