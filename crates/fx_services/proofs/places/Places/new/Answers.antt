use Rattle.std.proofs.Common.{◌∙◌}
use Rattle.std.specs.FinMap as maps
use Rattle.fx_services.specs.Places.{flushed_places}
use Rattle.fx_services.proofs.PlaceLemmas.{flushed_now}
use Rattle.fx_services.proofs.places.Places.new.Goals as goal

pub returns-clause-flushed : goal.returns-clause-flushed
returns-clause-flushed c = (λ i. flushed_places (c.new.ensures i) (c.new-2.ensures i)) ∙ flushed_now maps.empty
