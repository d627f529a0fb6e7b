use Rattle.fx_laws.proofs.Writable.{chains_can_be_written}
use Rattle.fx_laws.proofs.laws.closed_view_can_be_written.Goals as goal

pub returns : goal.returns
returns c = chains_can_be_written
