use Rattle.std.proofs.Common.{ap}
use Rattle.felix_restore.specs.Standing.{state_of}
use Rattle.felix_restore.proofs.restore.Restore.follow.Goals as goal

pub returns-in-Ok-Update-clause-refused : goal.returns-in-Ok-Update-clause-refused
returns-in-Ok-Update-clause-refused g c = rw (c.in-Ok-Update.is, c.in-Ok-Update.field-0-is) c.take.ensures.refused

pub returns-in-Ok-Batch-clause-refused : goal.returns-in-Ok-Batch-clause-refused
returns-in-Ok-Batch-clause-refused g c = rw (c.in-Ok-Batch.is, c.in-Ok-Batch.field-0-is) c.take_all.ensures.refused

pub returns-in-Err-clause-state : goal.returns-in-Err-clause-state
returns-in-Err-clause-state g c = rw c.in-Err.is (ap (state_of g.R.DigestRule.digest_of c.args.self.now.agent) c.pass.ensures)
