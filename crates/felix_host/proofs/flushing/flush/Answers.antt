use Rattle.std.proofs.Common.{length, refl}
use Rattle.std.proofs.lemmas.Result.{err_from_is_err_and}
use Rattle.fx_reconcile.specs.Operations.{operations}
use Rattle.fx_leading.specs.Lines.{op_lines}
use Rattle.fx_run.proofs.Writings.{Writes-prefix, Writes-then}
use Rattle.felix_host.specs.Output.{applied_line}
use Rattle.felix_host.proofs.HostLemmas.{on_ok_always}
use Rattle.felix_host.proofs.flushing.flush.Goals as goal

pub returns-in_err-count-clause-writes : goal.returns-in_err-count-clause-writes
returns-in_err-count-clause-writes g c =
    let p = err_from_is_err_and c.from_residual.result c.from_residual.ensures.1 in
    let s = c.in_err-count.ensures.writes in
    let now = c.args.tables.now in
    let end = c.args.goal in
    rw (p.1, p.2) (Writes-prefix (g.K.Sink.state c.args.sink.now) (g.K.Sink.state c.lead.new.sink) (op_lines end (operations now end)) (applied_line (length (operations now end))) _ s.prefix s.later s.cause)

pub returns-clause-reached : goal.returns-clause-reached
returns-clause-reached g c = on_ok_always c.put_count.result refl

pub returns-clause-writes : goal.returns-clause-writes
returns-clause-writes g c =
    let s = c.in_ok-count.ensures in
    let now = c.args.tables.now in
    let end = c.args.goal in
    let then = rw s.counted at c.put_count.ensures.writes in
    Writes-then (g.K.Sink.state c.args.sink.now) (g.K.Sink.state c.lead.new.sink) (g.K.Sink.state c.put_count.new.sink) (op_lines end (operations now end)) (applied_line (length (operations now end))) _ s.writes.whole s.writes.later then
