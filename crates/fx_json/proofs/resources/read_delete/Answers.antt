use Rattle.std.proofs.Common.{◌≡◌, true}
use Rattle.serde_json.specs.View.{view}
use Rattle.fx_model.specs.Formed.{is_formed}
use Rattle.fx_json.specs.Resources.{delete_of}
use Rattle.fx_fields.proofs.Readings.{answered-if}
use Rattle.fx_json.proofs.FormedResources.{delete_of-formed, delete_of-workload, answered-workload}
use Rattle.fx_json.proofs.resources.read_delete.Goals as goal

pub returns-clause-formed : goal.returns-clause-formed
returns-clause-formed c = answered-if (λ u. is_formed u ≡ true) (delete_of (view c.args.value.now)) c.delete_of.result (delete_of-formed (view c.args.value.now)) c.delete_of.ensures

pub returns-clause-interface : goal.returns-clause-interface
returns-clause-interface c = answered-workload (delete_of (view c.args.value.now)) c.delete_of.result (λ node. delete_of-workload node (view c.args.value.now)) c.delete_of.ensures
