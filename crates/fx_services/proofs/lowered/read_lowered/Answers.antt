use Rattle.std.proofs.Common.{◌≡◌, true}
use Rattle.serde_json.specs.View.{view}
use Rattle.fx_model.specs.Formed.{is_formed}
use Rattle.fx_fields.proofs.Readings.{answered-if}
use Rattle.fx_services.specs.Reading.{lowered_of}
use Rattle.fx_services.proofs.FormedReading.{lowered_of-formed, lowered_of-workload, answered-lowered}
use Rattle.fx_services.proofs.lowered.read_lowered.Goals as goal

pub returns-clause-formed : goal.returns-clause-formed
returns-clause-formed c =
    let d = view c.args.value.now in
    answered-if (λ l. is_formed l.update ≡ true) (lowered_of d) c.lowered_of.result (lowered_of-formed d) c.lowered_of.ensures

pub returns-clause-interface : goal.returns-clause-interface
returns-clause-interface c =
    let d = view c.args.value.now in
    answered-lowered (lowered_of d) c.lowered_of.result (λ node. lowered_of-workload node d) c.lowered_of.ensures
