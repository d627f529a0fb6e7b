use Rattle.fx_names.proofs.Holdings.{HoldsClaims-empty}
use Rattle.fx_names.proofs.registry.Registry.new.Goals as goal

pub returns : goal.returns
returns c = HoldsClaims-empty _ c.new.ensures
