use Rattle.std.proofs.lemmas.Result.{err_from_is_err_and}
use Rattle.fx_model.specs.Claims.{clash}
use Rattle.fx_run.proofs.Writings.{Writes-none, Writes-nothing}
use Rattle.felix_host.specs.Output.{State}
use Rattle.felix_host.specs.Standing.{state_of}
use Rattle.felix_host.proofs.HostLemmas.{untold}
use Rattle.felix_host.proofs.host.Host.follow.Goals as goal

pub returns-in_ok-flush-in-Flush-clause-writes : goal.returns-in_ok-flush-in-Flush-clause-writes
returns-in_ok-flush-in-Flush-clause-writes g c =
    let wrote = c.in_ok-flush-in-Flush.ensures.writes in
    rw c.in-Flush.is (record { whole = wrote.whole; prefix = tt; later = wrote.later; cause = tt })

pub returns-in_err-flush-in-Flush-clause-writes : goal.returns-in_err-flush-in-Flush-clause-writes
returns-in_err-flush-in-Flush-clause-writes g c =
    let p = err_from_is_err_and c.from_residual.result c.from_residual.ensures.1 in
    let torn = c.in_err-flush-in-Flush.ensures.writes in
    rw (p.1, p.2, c.in-Flush.is) (record { whole = tt; prefix = torn.prefix; later = torn.later; cause = torn.cause })

pub returns-in_ok-put_tables-in-Tables-clause-writes : goal.returns-in_ok-put_tables-in-Tables-clause-writes
returns-in_ok-put_tables-in-Tables-clause-writes g c =
    let wrote = c.in_ok-put_tables-in-Tables.ensures.writes in
    rw c.in-Tables.is (record { whole = wrote.whole; prefix = tt; later = wrote.later; cause = tt })

pub returns-in_err-put_tables-in-Tables-clause-writes : goal.returns-in_err-put_tables-in-Tables-clause-writes
returns-in_err-put_tables-in-Tables-clause-writes g c =
    let p = err_from_is_err_and c.from_residual-in_err-put_tables-in-Tables.result c.from_residual-in_err-put_tables-in-Tables.ensures.1 in
    let torn = c.in_err-put_tables-in-Tables.ensures.writes in
    rw (p.1, p.2, c.in-Tables.is) (record { whole = tt; prefix = torn.prefix; later = torn.later; cause = torn.cause })

pub returns-in_ok-take-in-Update-clause-writes : goal.returns-in_ok-take-in-Update-clause-writes
returns-in_ok-take-in-Update-clause-writes g c =
    let dg = g.R.DigestRule.digest_of in
    let was = c.args.self.now in
    let R = was.node.engine.resources in
    let u = c.in-Update.update in
    let s : State = state_of dg R was.failsafe was.tables in
    rw c.in-Update.is (Writes-none (g.K.Sink.state c.args.sink.now) _ _ (untold s u (clash dg R u)))

pub returns-in_err-take-in-Update-clause-writes : goal.returns-in_err-take-in-Update-clause-writes
returns-in_err-take-in-Update-clause-writes g c =
    let p = err_from_is_err_and c.from_residual-in_err-take-in-Update.result c.from_residual-in_err-take-in-Update.ensures.1 in
    rw (p.1, p.2) (Writes-nothing (g.K.Sink.state c.args.sink.now) _)

pub returns-in_ok-put_packet-in-Packet-clause-writes : goal.returns-in_ok-put_packet-in-Packet-clause-writes
returns-in_ok-put_packet-in-Packet-clause-writes g c =
    let wrote = c.in_ok-put_packet-in-Packet.ensures.writes in
    rw c.in-Packet.is (record { whole = wrote.whole; prefix = tt; later = wrote.later; cause = tt })

pub returns-in_err-put_packet-in-Packet-clause-writes : goal.returns-in_err-put_packet-in-Packet-clause-writes
returns-in_err-put_packet-in-Packet-clause-writes g c =
    let p = err_from_is_err_and c.from_residual-in_err-put_packet-in-Packet.result c.from_residual-in_err-put_packet-in-Packet.ensures.1 in
    let torn = c.in_err-put_packet-in-Packet.ensures.writes in
    rw (p.1, p.2, c.in-Packet.is) (record { whole = tt; prefix = torn.prefix; later = torn.later; cause = torn.cause })
