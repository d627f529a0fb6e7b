use Rattle.std.proofs.Common.{length, refl}
use Rattle.std.proofs.lemmas.Result.{err_from_is_err_and}
use Rattle.fx_reconcile.specs.Operations.{operations}
use Rattle.fx_reconcile.proofs.End.{next_in_turn}
use Rattle.fx_leading.specs.Lines.{op_lines}
use Rattle.fx_run.proofs.Writings.{Writes-prefix, Writes-then}
use Rattle.felix_restore.specs.Output.{restored_line}
use Rattle.felix_restore.proofs.TakingLemmas.{on_ok_always}
use Rattle.felix_restore.proofs.closing.restore_found.Goals as goal

pub returns-in_err-count-clause-writes : goal.returns-in_err-count-clause-writes
returns-in_err-count-clause-writes g c =
    let p = err_from_is_err_and c.from_residual.result c.from_residual.ensures.1 in
    let s = c.in_err-count.ensures.writes in
    let now = c.args.found.now.tables in
    let end = c.args.goal.now in
    rw (p.1, p.2) (Writes-prefix (g.K.Sink.state c.args.sink.now) (g.K.Sink.state c.lead.new.sink) (op_lines end (operations now end)) (restored_line (length (operations now end))) _ s.prefix s.later s.cause)

pub returns-clause-writes : goal.returns-clause-writes
returns-clause-writes g c =
    let s = c.in_ok-count.ensures in
    let now = c.args.found.now.tables in
    let end = c.args.goal.now in
    let then = rw s.counted at c.put_count.ensures.writes in
    Writes-then (g.K.Sink.state c.args.sink.now) (g.K.Sink.state c.lead.new.sink) (g.K.Sink.state c.put_count.new.sink) (op_lines end (operations now end)) (restored_line (length (operations now end))) _ s.writes.whole s.writes.later then

pub returns-clause-led : goal.returns-clause-led
returns-clause-led g c =
    let now = c.args.found.now.tables in
    let end = c.args.goal.now in
    on_ok_always c.put_count.result (record {
      turns = next_in_turn end (operations now end) now refl;
      allowed = c.in_ok-count.ensures.allowed;
      alike = c.in_ok-count.ensures.led;
      foreign = refl;
    })
