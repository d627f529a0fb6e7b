use Rattle.fx_found.proofs.Taking.{none_held}
use Rattle.fx_found.proofs.chains.rules_by_chain.Goals as goal

pub loop-row-init : goal.loop-row-init
loop-row-init c = none_held c.new-rules.result c.new-rules.ensures
