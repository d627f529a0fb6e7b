use Rattle.fx_selector.proofs.OneFault.{one_fault}
use Rattle.fx_selector.proofs.laws.one_fault.Goals as goal

pub returns : goal.returns
returns c = one_fault
