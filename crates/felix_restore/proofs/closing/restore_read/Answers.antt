use Rattle.std.proofs.Common.{refl}
use Rattle.std.proofs.lemmas.Result.{on_ok_weaker}
use Rattle.felix_restore.proofs.closing.restore_read.Goals as goal

pub returns-in-Read-clause-led : goal.returns-in-Read-clause-led
returns-in-Read-clause-led g c =
    rw c.in-Read.is (on_ok_weaker c.restore_found.result (λ led. (c.restore_found.new.found, (refl, led))) c.restore_found.ensures.led)

pub returns-in-Read-clause-writes : goal.returns-in-Read-clause-writes
returns-in-Read-clause-writes g c = rw c.in-Read.is c.restore_found.ensures.writes
