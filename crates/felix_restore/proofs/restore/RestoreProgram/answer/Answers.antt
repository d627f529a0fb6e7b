use Rattle.std.proofs.lemmas.Result.{err_from_is_err_and}
use Rattle.fx_run.proofs.Writings.{Writes-nothing}
use Rattle.felix_restore.proofs.restore.RestoreProgram.answer.Goals as goal

pub returns-in_err-said-clause-writes : goal.returns-in_err-said-clause-writes
returns-in_err-said-clause-writes g c =
    let p = err_from_is_err_and c.from_residual.result c.from_residual.ensures.1 in
    rw (p.1, p.2) (Writes-nothing (g.K.Sink.state c.args.sink.now) _)

pub returns-in_err-follow-clause-writes : goal.returns-in_err-follow-clause-writes
returns-in_err-follow-clause-writes g c =
    let p = err_from_is_err_and c.from_residual-in_err-follow.result c.from_residual-in_err-follow.ensures.1 in
    rw (p.1, p.2) (Writes-nothing (g.K.Sink.state c.args.sink.now) _)
