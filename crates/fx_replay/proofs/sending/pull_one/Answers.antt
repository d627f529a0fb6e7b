use Rattle.std.proofs.Common.{◌≡◌, ap}
use Rattle.fx_replay.proofs.Pulling.{sent-writes, sent-found, quiet-found, quiet-writes, torn-writes, memory-writes, memory-name, no_resync}
use Rattle.fx_replay.proofs.sending.pull_one.Goals as goal

pub returns-in-Ok-Sent-clause-same_sink : goal.returns-in-Ok-Sent-clause-same_sink
returns-in-Ok-Sent-clause-same_sink g c =
    let p = rw c.in-Ok-Sent.field-0-is at c.in-Ok-Sent.ensures.pulled in
    p.1.1.1

pub returns-in-Ok-Sent-clause-found : goal.returns-in-Ok-Sent-clause-found
returns-in-Ok-Sent-clause-found g c =
    let p = rw c.in-Ok-Sent.field-0-is at c.in-Ok-Sent.ensures.pulled in
    sent-found _ p.0 p.1.0

pub returns-in-Ok-Sent-clause-writes : goal.returns-in-Ok-Sent-clause-writes
returns-in-Ok-Sent-clause-writes g c =
    let p = rw c.in-Ok-Sent.field-0-is at c.in-Ok-Sent.ensures.pulled in
    sent-writes (g.K.Sink.state c.args.out.now.sink.now) (g.K.Sink.state c.pull.new.out.sink.now) _ p.0 p.1.0 p.1.1.0

pub returns-in-Ok-Nothing-clause-same_sink : goal.returns-in-Ok-Nothing-clause-same_sink
returns-in-Ok-Nothing-clause-same_sink g c =
    let p = rw c.in-Ok-Nothing.field-0-is at c.in-Ok-Nothing.ensures.pulled in
    ap (λ o. o.sink.ghost_name) p.1

pub returns-in-Ok-Nothing-clause-found : goal.returns-in-Ok-Nothing-clause-found
returns-in-Ok-Nothing-clause-found g c =
    let p = rw c.in-Ok-Nothing.field-0-is at c.in-Ok-Nothing.ensures.pulled in
    quiet-found _ p.0

pub returns-in-Ok-Nothing-clause-writes : goal.returns-in-Ok-Nothing-clause-writes
returns-in-Ok-Nothing-clause-writes g c =
    let p = rw c.in-Ok-Nothing.field-0-is at c.in-Ok-Nothing.ensures.pulled in
    quiet-writes (g.K.Sink.state c.args.out.now.sink.now) (g.K.Sink.state c.pull.new.out.sink.now) _ p.0 (ap (λ o. g.K.Sink.state o.sink.now) p.1)

pub returns-in-Err-Write-clause-same_sink : goal.returns-in-Err-Write-clause-same_sink
returns-in-Err-Write-clause-same_sink g c =
    let left = rw c.in-Err-Write.field-0-is at c.in-Err-Write.ensures.out in
    left.1.1.1

pub returns-in-Err-Write-clause-writes : goal.returns-in-Err-Write-clause-writes
returns-in-Err-Write-clause-writes g c =
    let left = rw c.in-Err-Write.field-0-is at c.in-Err-Write.ensures.out in
    let cause = rw c.in-Err-Write.field-0-is at c.in-Err-Write.ensures.cause in
    torn-writes (g.K.Sink.state c.args.out.now.sink.now) (g.K.Sink.state c.pull.new.out.sink.now) _ left.0 left.1.0 left.1.1.0 cause.1

pub returns-in-Err-Memory-clause-same_sink : goal.returns-in-Err-Memory-clause-same_sink
returns-in-Err-Memory-clause-same_sink g c =
    let left = rw c.in-Err-Memory.field-0-is at c.in-Err-Memory.ensures.out in
    memory-name (g.K.Sink.state c.args.out.now.sink.now) (g.K.Sink.state c.pull.new.out.sink.now) _ left.0 left.1.0 left.1.1

pub returns-in-Err-Memory-clause-writes : goal.returns-in-Err-Memory-clause-writes
returns-in-Err-Memory-clause-writes g c =
    let left = rw c.in-Err-Memory.field-0-is at c.in-Err-Memory.ensures.out in
    memory-writes (g.K.Sink.state c.args.out.now.sink.now) (g.K.Sink.state c.pull.new.out.sink.now) _ left.0 left.1.0 left.1.1

pub unreachable-requires : goal.unreachable-requires
unreachable-requires g c =
    let cause = rw c.in-Err-NeedsResync.field-0-is at c.in-Err-NeedsResync.ensures.cause in
    no_resync _ c.requires.ready cause
