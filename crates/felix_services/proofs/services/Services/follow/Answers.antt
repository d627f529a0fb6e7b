use Rattle.std.proofs.lemmas.Result.{err_from_is_err_and}
use Rattle.fx_model.specs.Claims.{clash}
use Rattle.fx_run.proofs.Writings.{Writes-answered, Writes-failed, Writes-none, Writes-nothing}
use Rattle.felix_services.specs.Output.{State}
use Rattle.felix_services.specs.Standing.{state_of}
use Rattle.felix_services.proofs.TakingLemmas.{untold}
use Rattle.felix_services.proofs.services.Services.follow.Goals as goal

pub returns-in_ok-put_tables-in-Tables-clause-writes : goal.returns-in_ok-put_tables-in-Tables-clause-writes
returns-in_ok-put_tables-in-Tables-clause-writes g c = rw c.in-Tables.is (Writes-answered c.in_ok-put_tables-in-Tables.ensures.writes)

pub returns-in_err-put_tables-in-Tables-clause-writes : goal.returns-in_err-put_tables-in-Tables-clause-writes
returns-in_err-put_tables-in-Tables-clause-writes g c =
    let p = err_from_is_err_and c.from_residual.result c.from_residual.ensures.1 in
    rw (c.in-Tables.is, p.1, p.2) (Writes-failed c.in_err-put_tables-in-Tables.ensures.writes)

pub returns-in_ok-flush-in-Flush-clause-writes : goal.returns-in_ok-flush-in-Flush-clause-writes
returns-in_ok-flush-in-Flush-clause-writes g c = rw c.in-Flush.is (Writes-answered c.in_ok-flush-in-Flush.ensures.writes)

pub returns-in_err-flush-in-Flush-clause-writes : goal.returns-in_err-flush-in-Flush-clause-writes
returns-in_err-flush-in-Flush-clause-writes g c =
    let p = err_from_is_err_and c.from_residual-in_err-flush-in-Flush.result c.from_residual-in_err-flush-in-Flush.ensures.1 in
    rw (c.in-Flush.is, p.1, p.2) (Writes-failed c.in_err-flush-in-Flush.ensures.writes)

pub returns-in_ok-take-in-Change-clause-writes : goal.returns-in_ok-take-in-Change-clause-writes
returns-in_ok-take-in-Change-clause-writes g c =
    let dg = g.R.DigestRule.digest_of in
    let was = c.args.self.now in
    let l = c.in-Change.change in
    let s : State = state_of dg was.replay.agent was.places in
    rw c.in-Change.is (Writes-none (g.K.Sink.state c.args.sink.now) _ _ (untold s l (clash dg was.replay.agent.resources l.update)))

pub returns-in_err-take-in-Change-clause-writes : goal.returns-in_err-take-in-Change-clause-writes
returns-in_err-take-in-Change-clause-writes g c =
    let p = err_from_is_err_and c.from_residual-in_err-take-in-Change.result c.from_residual-in_err-take-in-Change.ensures.1 in
    rw (p.1, p.2) (Writes-nothing (g.K.Sink.state c.args.sink.now) _)

pub returns-in_ok-put_packet-in-Packet-clause-writes : goal.returns-in_ok-put_packet-in-Packet-clause-writes
returns-in_ok-put_packet-in-Packet-clause-writes g c = rw c.in-Packet.is (Writes-answered c.in_ok-put_packet-in-Packet.ensures.writes)

pub returns-in_err-put_packet-in-Packet-clause-writes : goal.returns-in_err-put_packet-in-Packet-clause-writes
returns-in_err-put_packet-in-Packet-clause-writes g c =
    let p = err_from_is_err_and c.from_residual-in_err-put_packet-in-Packet.result c.from_residual-in_err-put_packet-in-Packet.ensures.1 in
    rw (c.in-Packet.is, p.1, p.2) (Writes-failed c.in_err-put_packet-in-Packet.ensures.writes)
