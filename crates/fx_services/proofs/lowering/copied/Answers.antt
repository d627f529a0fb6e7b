use Rattle.fx_model.specs.SameRules.{copies_rule}
use Rattle.fx_services.proofs.lowering.copied.Goals as goal

pub returns : goal.returns
returns c = copies_rule _ _ c.in_ok-copy.ensures.cases
