use Rattle.std.proofs.Common.{rules}
use Rattle.std.proofs.lemmas.Grind.{common_steps}
use Rattle.fx_model.proofs.Serving.{active_by_labels}
use Rattle.fx_wanted.proofs.policies.put_policies.Goals as goal

pub loop-id-preserved-then-selects_some : goal.loop-id-preserved-then-selects_some
loop-id-preserved-then-selects_some g c = record { policies = search (rules, active_by_labels); uses = search (rules, common_steps, active_by_labels) }
