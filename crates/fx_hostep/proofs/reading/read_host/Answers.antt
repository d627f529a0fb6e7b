use Rattle.std.proofs.Common.{◌≡◌, true}
use Rattle.serde_json.specs.View.{view}
use Rattle.fx_model.specs.Formed.{is_formed}
use Rattle.fx_fields.proofs.Readings.{answered-if}
use Rattle.fx_hostep.specs.HostFields.{host_put}
use Rattle.fx_hostep.proofs.FormedHosts.{host_put-formed}
use Rattle.fx_hostep.proofs.reading.read_host.Goals as goal

pub returns-clause-formed : goal.returns-clause-formed
returns-clause-formed c =
    let d = view c.args.value.now in
    answered-if (λ u. is_formed u ≡ true) (host_put d) c.host_put.result (host_put-formed d) c.host_put.ensures
