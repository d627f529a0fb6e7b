use Rattle.std.proofs.Common.{sym, ap, ◌∙◌}
use Rattle.std.proofs.lemmas.Result.{err_from_is_err_and}
use Rattle.fx_base.proofs.TickLemmas.{IsTicked-none}
use Rattle.fx_model.specs.Batches.{clash_all}
use Rattle.fx_model.specs.Claims.{clash}
use Rattle.fx_lines.specs.Formed.{batches_changes, is_formed_command, puts_on_workloads}
use Rattle.fx_replay.specs.Output.{State}
use Rattle.fx_replay.specs.Standing.{state_of}
use Rattle.fx_replay.proofs.Taking.{untallied, untallied_all, untested, untold, untold_all}
use Rattle.fx_run.proofs.Writings.{Writes-none, Writes-nothing}
use Rattle.fx_replay.proofs.replay.Replay.follow.Goals as goal

pub returns-in-Blank-clause-tests : goal.returns-in-Blank-clause-tests
returns-in-Blank-clause-tests g c = rw c.in-Blank.is (IsTicked-none c.args.self.now.ticks.ticks)

-- ---- flush

pub returns-in_ok-flush-in-Flush-clause-writes : goal.returns-in_ok-flush-in-Flush-clause-writes
returns-in_ok-flush-in-Flush-clause-writes g c =
    let wrote = c.in_ok-flush-in-Flush.ensures.writes in
    rw c.in-Flush.is (record { whole = wrote.whole; prefix = tt; later = wrote.later; cause = tt })

pub returns-in_err-flush-in-Flush-clause-writes : goal.returns-in_err-flush-in-Flush-clause-writes
returns-in_err-flush-in-Flush-clause-writes g c =
    let p = err_from_is_err_and c.from_residual-in_err-flush-in-Flush.result c.from_residual-in_err-flush-in-Flush.ensures.1 in
    let torn = c.in_err-flush-in-Flush.ensures.writes in
    rw (p.1, p.2, c.in-Flush.is) (record { whole = tt; prefix = torn.prefix; later = torn.later; cause = torn.cause })

pub returns-in_ok-flush-in-Flush-clause-tests : goal.returns-in_ok-flush-in-Flush-clause-tests
returns-in_ok-flush-in-Flush-clause-tests g c =
    rw c.in-Flush.is (untested c.args.self.now.ticks c.flush.new.self.ticks c.flush.ensures.ticks)

-- ---- tables

pub returns-in_ok-put_tables-in-Tables-clause-writes : goal.returns-in_ok-put_tables-in-Tables-clause-writes
returns-in_ok-put_tables-in-Tables-clause-writes g c =
    let wrote = c.in_ok-put_tables-in-Tables.ensures.writes in
    rw c.in-Tables.is (record { whole = wrote.whole; prefix = tt; later = wrote.later; cause = tt })

pub returns-in_err-put_tables-in-Tables-clause-writes : goal.returns-in_err-put_tables-in-Tables-clause-writes
returns-in_err-put_tables-in-Tables-clause-writes g c =
    let p = err_from_is_err_and c.from_residual.result c.from_residual.ensures.1 in
    let torn = c.in_err-put_tables-in-Tables.ensures.writes in
    rw (p.1, p.2, c.in-Tables.is) (record { whole = tt; prefix = torn.prefix; later = torn.later; cause = torn.cause })

pub returns-in_ok-put_tables-in-Tables-clause-tests : goal.returns-in_ok-put_tables-in-Tables-clause-tests
returns-in_ok-put_tables-in-Tables-clause-tests g c = rw c.in-Tables.is (IsTicked-none c.args.self.now.ticks.ticks)

-- ---- packet

pub returns-in_ok-put_packet-in-Packet-clause-writes : goal.returns-in_ok-put_packet-in-Packet-clause-writes
returns-in_ok-put_packet-in-Packet-clause-writes g c =
    let wrote = c.in_ok-put_packet-in-Packet.ensures.writes in
    rw c.in-Packet.is (record { whole = wrote.whole; prefix = tt; later = wrote.later; cause = tt })

pub returns-in_err-put_packet-in-Packet-clause-writes : goal.returns-in_err-put_packet-in-Packet-clause-writes
returns-in_err-put_packet-in-Packet-clause-writes g c =
    let p = err_from_is_err_and c.from_residual-in_err-put_packet-in-Packet.result c.from_residual-in_err-put_packet-in-Packet.ensures.1 in
    let torn = c.in_err-put_packet-in-Packet.ensures.writes in
    rw (p.1, p.2, c.in-Packet.is) (record { whole = tt; prefix = torn.prefix; later = torn.later; cause = torn.cause })

pub returns-in_ok-put_packet-in-Packet-clause-tests : goal.returns-in_ok-put_packet-in-Packet-clause-tests
returns-in_ok-put_packet-in-Packet-clause-tests g c = rw c.in-Packet.is (IsTicked-none c.args.self.now.ticks.ticks)

-- ---- an update

pub take-requires-clause-formed : goal.take-requires-clause-formed
take-requires-clause-formed g c = ap is_formed_command (sym c.in-Update.is) ∙ c.requires.read.formed

pub take-requires-clause-interface : goal.take-requires-clause-interface
take-requires-clause-interface g c =
    let node = c.args.self.now.agent.resources.node in
    ap (puts_on_workloads node) (sym c.in-Update.is) ∙ c.requires.read.on_workloads node

pub returns-in_ok-take-in-Update-clause-writes : goal.returns-in_ok-take-in-Update-clause-writes
returns-in_ok-take-in-Update-clause-writes g c =
    let dg = g.R.DigestRule.digest_of in
    let agent = c.args.self.now.agent in
    let u = c.in-Update.update in
    let s : State = state_of dg agent in
    rw c.in-Update.is (Writes-none (g.K.Sink.state c.args.sink.now) _ _ (untold s u (clash dg agent.resources u)))

pub returns-in_err-take-in-Update-clause-writes : goal.returns-in_err-take-in-Update-clause-writes
returns-in_err-take-in-Update-clause-writes g c =
    let p = err_from_is_err_and c.from_residual-in_err-take-in-Update.result c.from_residual-in_err-take-in-Update.ensures.1 in
    rw (p.1, p.2) (Writes-nothing (g.K.Sink.state c.args.sink.now) _)

pub returns-in_ok-take-in-Update-clause-tally : goal.returns-in_ok-take-in-Update-clause-tally
returns-in_ok-take-in-Update-clause-tally g c =
    let dg = g.R.DigestRule.digest_of in
    let was = c.args.self.now in
    let u = c.in-Update.update in
    let s : State = state_of dg was.agent in
    rw c.in-Update.is (c.take.ensures.tally ∙ untallied was.tally s u (clash dg was.agent.resources u))

pub returns-in_ok-take-in-Update-clause-tests : goal.returns-in_ok-take-in-Update-clause-tests
returns-in_ok-take-in-Update-clause-tests g c = rw c.in-Update.is c.in_ok-take-in-Update.ensures.tests

-- ---- a batch

pub take_all-requires-clause-read : goal.take_all-requires-clause-read
take_all-requires-clause-read g c = record {
  formed = ap is_formed_command (sym c.in-Batch.is) ∙ c.requires.read.formed;
  changes = ap batches_changes (sym c.in-Batch.is) ∙ c.requires.read.changes;
  on_workloads = λ node. ap (puts_on_workloads node) (sym c.in-Batch.is) ∙ c.requires.read.on_workloads node;
}

pub returns-in_ok-take_all-in-Batch-clause-writes : goal.returns-in_ok-take_all-in-Batch-clause-writes
returns-in_ok-take_all-in-Batch-clause-writes g c =
    let dg = g.R.DigestRule.digest_of in
    let agent = c.args.self.now.agent in
    let us = c.in-Batch.updates in
    let s : State = state_of dg agent in
    rw c.in-Batch.is (Writes-none (g.K.Sink.state c.args.sink.now) _ _ (untold_all s us (clash_all dg agent.resources us)))

pub returns-in_err-take_all-in-Batch-clause-writes : goal.returns-in_err-take_all-in-Batch-clause-writes
returns-in_err-take_all-in-Batch-clause-writes g c =
    let p = err_from_is_err_and c.from_residual-in_err-take_all-in-Batch.result c.from_residual-in_err-take_all-in-Batch.ensures.1 in
    rw (p.1, p.2) (Writes-nothing (g.K.Sink.state c.args.sink.now) _)

pub returns-in_ok-take_all-in-Batch-clause-tally : goal.returns-in_ok-take_all-in-Batch-clause-tally
returns-in_ok-take_all-in-Batch-clause-tally g c =
    let dg = g.R.DigestRule.digest_of in
    let was = c.args.self.now in
    let us = c.in-Batch.updates in
    let s : State = state_of dg was.agent in
    rw c.in-Batch.is (c.take_all.ensures.tally ∙ untallied_all was.tally s us (clash_all dg was.agent.resources us))

pub returns-in_ok-take_all-in-Batch-clause-tests : goal.returns-in_ok-take_all-in-Batch-clause-tests
returns-in_ok-take_all-in-Batch-clause-tests g c = rw c.in-Batch.is c.in_ok-take_all-in-Batch.ensures.tests
