use Rattle.std.proofs.Common.{◌≡◌, true}
use Rattle.serde_json.specs.View.{view}
use Rattle.fx_model.specs.Formed.{is_formed}
use Rattle.fx_fields.proofs.Readings.{answered-if}
use Rattle.fx_json.proofs.FormedResources.{answered-workload}
use Rattle.fx_services.specs.Slices.{slice_delete}
use Rattle.fx_services.proofs.FormedSlices.{slice_delete-formed, slice_delete-workload}
use Rattle.fx_services.proofs.slices.read_slice_delete.Goals as goal

pub returns-clause-formed : goal.returns-clause-formed
returns-clause-formed c =
    let d = view c.args.value.now in
    answered-if (λ u. is_formed u ≡ true) (slice_delete d) c.delete_slice.result (slice_delete-formed d) c.delete_slice.ensures

pub returns-clause-interface : goal.returns-clause-interface
returns-clause-interface c =
    let d = view c.args.value.now in
    answered-workload (slice_delete d) c.delete_slice.result (λ node. slice_delete-workload node d) c.delete_slice.ensures
