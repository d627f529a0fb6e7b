use Rattle.fx_scanner.proofs.InputBags.{none_counted}
use Rattle.fx_scanner.proofs.state.State.new.Goals as goal

pub returns-clause-kept : goal.returns-clause-kept
returns-clause-kept c = none_counted _ c.new.ensures c.new-2.ensures
