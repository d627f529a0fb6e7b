use Rattle.std.proofs.Common.{◌≡◌, Result, Ok, sym, ap}
use Rattle.fx_selector.specs.Truth.{LabelMap}
use Rattle.fx_model.specs.declared.resources.Endpoint.{Endpoint}
use Rattle.fx_fields.specs.declared.fault.ReadFault.{ReadFault}
use Rattle.fx_fields.specs.Labels.{own_labels}
use Rattle.fx_json.specs.Endpoints.{endpoint_of}
use Rattle.fx_json.proofs.endpoints.read_endpoint.Goals as goal

pub returns : goal.returns
unfolding endpoint_of
returns c =
    let w = c.in_ok-workload.workload in
    let held = c.in_ok-held.held in
    let own : c.in_ok-labels.labels ≡ own_labels c.args.given c.args.namespace.now w.account w.orchestrator = c.in_ok-labels.ensures in
    let with_labels : LabelMap → Result Endpoint ReadFault = λ labels. Ok (record { node = w.node; iface = w.iface; labels = labels; addresses = held.addresses; profiles = held.profiles; ports = held.ports }) in
    rw (c.in_ok-workload.ensures, c.in_ok-held.ensures) (ap with_labels (sym own))
