use Rattle.std.proofs.Common.{◌≡◌, true}
use Rattle.serde_json.specs.View.{view}
use Rattle.fx_fields.proofs.Readings.{answered-if}
use Rattle.fx_hostep.specs.FailsafePorts.{have_port_protocols}
use Rattle.fx_hostep.specs.HostFields.{failsafe_of}
use Rattle.fx_hostep.proofs.FormedHosts.{failsafe_of-ports}
use Rattle.fx_hostep.proofs.lines.read_failsafe.Goals as goal

pub returns-clause-protocols : goal.returns-clause-protocols
returns-clause-protocols c =
    let d = view c.args.value.now in
    answered-if (λ f. have_port_protocols f ≡ true) (failsafe_of d) c.failsafe_of.result (failsafe_of-ports d) c.failsafe_of.ensures
