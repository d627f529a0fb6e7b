use Rattle.std.proofs.Common.{◌≡◌, true}
use Rattle.serde_json.specs.View.{view}
use Rattle.fx_model.specs.Formed.{is_formed}
use Rattle.fx_json.specs.Resources.{resource_with}
use Rattle.fx_fields.proofs.Readings.{answered-if}
use Rattle.fx_json.proofs.FormedResources.{resource_with-formed, resource_with-workload, answered-workload}
use Rattle.fx_json.proofs.resources.read_resource_with.Goals as goal

pub returns-clause-formed : goal.returns-clause-formed
returns-clause-formed c =
    let d = view c.args.value.now in
    answered-if (λ u. is_formed u ≡ true) (resource_with c.args.services d) c.put_of.result (resource_with-formed c.args.services d) c.put_of.ensures

pub returns-clause-interface : goal.returns-clause-interface
returns-clause-interface c =
    let d = view c.args.value.now in
    answered-workload (resource_with c.args.services d) c.put_of.result (λ node. resource_with-workload c.args.services node d) c.put_of.ensures
