use Rattle.fx_base.specs.Set as set
use Rattle.fx_dispatch.proofs.Promised.{planned}
use Rattle.fx_dispatch.proofs.laid.Laid.take.Goals as goal

pub returns-clause-planned : goal.returns-clause-planned
returns-clause-planned c = planned (set.items c.args.self.now.names) (set.items c.take_anew.new.self.names) c.in_ok-plan.plan c.in_ok-plan.ensures.planned
