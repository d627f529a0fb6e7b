use Rattle.fx_laws.proofs.ViewClosed.{view_of-closed}
use Rattle.fx_laws.proofs.laws.wanted_view_is_closed.Goals as goal

pub returns : goal.returns
returns c = view_of-closed
