use Rattle.fx_model.specs.SameIds.{copies_key}
use Rattle.fx_services.proofs.places.copied.Goals as goal

pub returns : goal.returns
returns c = copies_key _ _ c.in_ok-copy.ensures.cases
