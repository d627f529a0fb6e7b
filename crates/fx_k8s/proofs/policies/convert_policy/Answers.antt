use Rattle.serde_json.specs.View.{view}
use Rattle.fx_fields.proofs.NameTexts.{named_in_string}
use Rattle.fx_k8s.proofs.policies.convert_policy.Goals as goal

pub new-requires : goal.new-requires
new-requires c = named_in_string (view c.args.value.now) c.in_ok-named.named c.in_ok-named.ensures
