use Rattle.felix_restore.proofs.closing.restore.Goals as goal

pub returns-then-in_sync-clause-led : goal.returns-then-in_sync-clause-led
returns-then-in_sync-clause-led g c = rw c.if-in_sync.true c.restore_read.ensures.led

pub returns-then-in_sync-clause-writes : goal.returns-then-in_sync-clause-writes
returns-then-in_sync-clause-writes g c = rw c.if-in_sync.true c.restore_read.ensures.writes

pub returns-clause-writes : goal.returns-clause-writes
returns-clause-writes g c = rw c.if-in_sync.false c.put_waiting.ensures.writes
