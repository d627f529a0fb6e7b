use Rattle.std.proofs.Common.{rules}
use Rattle.fx_logs.proofs.active_told.ActiveToldActiveSink.policy_on.Goals as goal

pub returns-clause-ok : goal.returns-clause-ok
returns-clause-ok c = search rules
