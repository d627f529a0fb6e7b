use Rattle.std.proofs.Common.{◌≡◌, true}
use Rattle.serde_json.specs.View.{view}
use Rattle.fx_model.specs.Formed.{is_formed}
use Rattle.fx_fields.proofs.Readings.{answered-if}
use Rattle.fx_json.proofs.FormedResources.{answered-workload}
use Rattle.fx_k8s.specs.Puts.{put_with}
use Rattle.fx_k8s.proofs.FormedPuts.{put_with-formed, put_with-workload}
use Rattle.fx_k8s.proofs.puts.read_put_with.Goals as goal

pub returns-clause-formed : goal.returns-clause-formed
returns-clause-formed c =
    let d = view c.args.value.now in
    answered-if (λ u. is_formed u ≡ true) (put_with c.args.services d) c.put_of.result (put_with-formed c.args.services d) c.put_of.ensures

pub returns-clause-interface : goal.returns-clause-interface
returns-clause-interface c =
    let d = view c.args.value.now in
    answered-workload (put_with c.args.services d) c.put_of.result (λ node. put_with-workload c.args.services node d) c.put_of.ensures
