use Rattle.std.proofs.lemmas.Result.{err_from_is_err_and}
use Rattle.fx_run.proofs.Writings.{Writes-nothing}
use Rattle.fx_leading.proofs.Walk.{on_ok_always}
use Rattle.fx_leading.proofs.leading.do_next.Goals as goal

pub returns-clause-done : goal.returns-clause-done
returns-clause-done g c = on_ok_always c.put_one.result c.in_ok-apply_op.ensures.ok

pub returns-in_err-apply_op-clause-writes : goal.returns-in_err-apply_op-clause-writes
returns-in_err-apply_op-clause-writes g c =
    let p = err_from_is_err_and c.from_residual-in_err-apply_op.result c.from_residual-in_err-apply_op.ensures.1 in
    rw (p.1, p.2) (Writes-nothing (g.K.Sink.state c.args.sink.now) _)
