use Rattle.std.proofs.Common.{◌∙◌}
use Rattle.fx_active.proofs.PairWalk.{gone_already}
use Rattle.fx_active.proofs.pairs.deactivate.Goals as goal

pub returns-else-was-clause-policies : goal.returns-else-was-clause-policies
returns-else-was-clause-policies g c = gone_already (g.S.ActiveSink.policies c.args.sink.now) c.args.id.now (c.requires ∙ c.if-was.false)
