use Rattle.fx_laws.proofs.SetKinds.{wanted_sets-of-kinds}
use Rattle.fx_laws.proofs.laws.wanted_sets_are_of_their_kinds.Goals as goal

pub returns : goal.returns
returns c = wanted_sets-of-kinds
