use Rattle.std.proofs.Common.{◌≡◌, true}
use Rattle.serde_json.specs.View.{view}
use Rattle.fx_model.specs.Formed.{is_formed}
use Rattle.fx_fields.proofs.Readings.{answered-if}
use Rattle.fx_hostep.specs.HostFields.{host_delete}
use Rattle.fx_hostep.proofs.FormedHosts.{host_delete-formed}
use Rattle.fx_hostep.proofs.reading.read_host_delete.Goals as goal

pub returns-clause-formed : goal.returns-clause-formed
returns-clause-formed c =
    let d = view c.args.value.now in
    answered-if (λ u. is_formed u ≡ true) (host_delete d) c.host_delete.result (host_delete-formed d) c.host_delete.ensures
