use Rattle.serde_json.specs.View.{view}
use Rattle.fx_fields.proofs.NameTexts.{named_in_string}
use Rattle.fx_json.proofs.policies.namespaced_policy_put.Goals as goal

pub namespaced_policy_in-requires : goal.namespaced_policy_in-requires
namespaced_policy_in-requires c = named_in_string (view c.args.resource.now) c.in_ok-named.named c.in_ok-named.ensures
