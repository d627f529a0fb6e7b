use Rattle.std.proofs.Common.{rules}
use Rattle.fx_record.proofs.records.RecordActiveActiveSink.policy_on.Goals as goal

pub returns-clause-policies : goal.returns-clause-policies
returns-clause-policies c = search rules
