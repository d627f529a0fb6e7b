use Rattle.fx_model.proofs.TestBounds.{least_below_most}
use Rattle.fx_laws.proofs.laws.tests_are_bounded.Goals as goal

pub returns : goal.returns
returns c = least_below_most
