use Rattle.std.proofs.Common.{ap, ◌∙◌}
use Rattle.fx_services.specs.Places.{flushed_places}
use Rattle.fx_services.proofs.PlaceLemmas.{flushed_now}
use Rattle.fx_services.proofs.places.Places.flush.Goals as goal

pub returns-clause-flushed : goal.returns-clause-flushed
returns-clause-flushed c = ap (flushed_places c.args.self.now.lists) c.new.ensures ∙ flushed_now c.args.self.now.lists
