use Rattle.fx_active.proofs.HereLemmas.{lost_endpoints}
use Rattle.fx_active.proofs.held.Held.new.Goals as goal

pub invariant_of-result : goal.invariant_of-result
invariant_of-result c = lost_endpoints c.new-5.result c.new-3.result c.new-4.result c.new-5.ensures c.new-3.ensures
