use Rattle.fx_scanner.proofs.ApartUses.{fewer}
use Rattle.fx_scanner.proofs.laws.fewer_are_apart.Goals as goal

pub returns : goal.returns
returns c = fewer
