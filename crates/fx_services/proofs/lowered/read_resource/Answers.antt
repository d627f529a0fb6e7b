use Rattle.serde_json.specs.View.{view}
use Rattle.fx_fields.proofs.Readings.{answered-if}
use Rattle.fx_services.specs.Reading.{read_resource}
use Rattle.fx_services.proofs.LowResources.{IsLowerable, read_resource-low}
use Rattle.fx_services.proofs.lowered.read_resource.Goals as goal

pub returns-clause-lowerable : goal.returns-clause-lowerable
returns-clause-lowerable c =
    let d = view c.args.value.now in
    answered-if IsLowerable (read_resource d) c.resource_of.result (read_resource-low d) c.resource_of.ensures
