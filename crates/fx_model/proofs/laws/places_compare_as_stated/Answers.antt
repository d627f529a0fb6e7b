use Rattle.fx_model.proofs.PlaceLemmas.{compared}
use Rattle.fx_model.proofs.laws.places_compare_as_stated.Goals as goal

pub returns : goal.returns
returns c = compared
