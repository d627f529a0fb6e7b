use Rattle.std.proofs.Common.{◌≡◌, true}
use Rattle.serde_json.specs.View.{view}
use Rattle.fx_model.specs.Formed.{is_formed}
use Rattle.fx_fields.proofs.Readings.{answered-if}
use Rattle.fx_services.specs.Slices.{slice_put}
use Rattle.fx_services.proofs.FormedSlices.{slice_put-formed, slice_put-workload, answered-named}
use Rattle.fx_services.proofs.slices.read_slice.Goals as goal

pub returns-clause-formed : goal.returns-clause-formed
returns-clause-formed c =
    let d = view c.args.value.now in
    answered-if (λ u. is_formed u ≡ true) (slice_put d) c.put_slice.result (slice_put-formed d) c.put_slice.ensures

pub returns-clause-interface : goal.returns-clause-interface
returns-clause-interface c =
    let d = view c.args.value.now in
    answered-named (slice_put d) c.put_slice.result (λ node named. slice_put-workload node named d) c.put_slice.ensures
