use Rattle.std.proofs.Common.{◌≡◌, false, sym, ◌∙◌, ap}
use Rattle.fx_lines.specs.declared.commands.Command.TheVariants as command
use Rattle.fx_model.specs.Claims.{clash}
use Rattle.fx_replay.specs.Output.{State}
use Rattle.fx_replay.specs.Standing.{state_of}
use Rattle.fx_replay.proofs.Pulling.{no_resync}
use Rattle.fx_replay.proofs.Taking.{free-settled, free-tested, free-told, taken-settled, taken-tested, taken-told}
use Rattle.fx_replay.proofs.replay.Replay.take.Goals as goal

pub returns-in-Ok-clause-state : goal.returns-in-Ok-clause-state
returns-in-Ok-clause-state g c =
    let dg = g.R.DigestRule.digest_of in
    let was = c.args.self.now in
    let u = c.args.update in
    let s : State = state_of dg was.agent in
    (λ j. record s { resources = c.in-Ok.ensures.resources j; sent = c.in-Ok.ensures.sent j })
    ∙ sym (free-settled s (clash dg was.agent.resources u) (command.Update u) c.in-Ok.ensures.free)

pub returns-in-Ok-clause-refused : goal.returns-in-Ok-clause-refused
returns-in-Ok-clause-refused g c =
    let dg = g.R.DigestRule.digest_of in
    let was = c.args.self.now in
    free-told (state_of dg was.agent) (clash dg was.agent.resources c.args.update) (command.Update c.args.update) c.in-Ok.ensures.free

pub returns-in-Ok-clause-tests : goal.returns-in-Ok-clause-tests
returns-in-Ok-clause-tests g c =
    let was = c.args.self.now in
    let R = was.agent.resources in
    let u = c.args.update in
    free-tested R (clash g.R.DigestRule.digest_of R u) (command.Update u) was.ticks c.update.new.ticks c.in-Ok.ensures.free c.in-Ok.ensures.tests

pub returns-in-Err-Taken-clause-ready : goal.returns-in-Err-Taken-clause-ready
returns-in-Err-Taken-clause-ready g c =
    let same = rw c.in-Err-Taken.field-0-is at c.in-Err-Taken.ensures.left in
    let cause = rw c.in-Err-Taken.field-0-is at c.in-Err-Taken.ensures.cause in
    ap (λ a. a.failed) same ∙ cause.0

pub returns-in-Err-Taken-clause-state : goal.returns-in-Err-Taken-clause-state
returns-in-Err-Taken-clause-state g c =
    let dg = g.R.DigestRule.digest_of in
    let was = c.args.self.now in
    let u = c.args.update in
    let s : State = state_of dg was.agent in
    let same = rw c.in-Err-Taken.field-0-is at c.in-Err-Taken.ensures.left in
    let cause = rw c.in-Err-Taken.field-0-is at c.in-Err-Taken.ensures.cause in
    ap (state_of dg) same ∙ sym (taken-settled s (clash dg was.agent.resources u) (command.Update u) _ cause.1)

pub returns-in-Err-Taken-clause-refused : goal.returns-in-Err-Taken-clause-refused
returns-in-Err-Taken-clause-refused g c =
    let dg = g.R.DigestRule.digest_of in
    let was = c.args.self.now in
    let cause = rw c.in-Err-Taken.field-0-is at c.in-Err-Taken.ensures.cause in
    taken-told (state_of dg was.agent) (clash dg was.agent.resources c.args.update) (command.Update c.args.update) _ cause.1

pub returns-in-Err-Taken-clause-tests : goal.returns-in-Err-Taken-clause-tests
returns-in-Err-Taken-clause-tests g c =
    let dg = g.R.DigestRule.digest_of in
    let was = c.args.self.now in
    let R = was.agent.resources in
    let u = c.args.update in
    let quiet = rw c.in-Err-Taken.field-0-is at c.in-Err-Taken.ensures.quiet in
    let cause = rw c.in-Err-Taken.field-0-is at c.in-Err-Taken.ensures.cause in
    taken-tested R (clash dg R u) (command.Update u) was.ticks c.update.new.ticks _ cause.1 quiet

pub unreachable-requires : goal.unreachable-requires
unreachable-requires g c =
    let cause = rw c.in-Err-NeedsResync.field-0-is at c.in-Err-NeedsResync.ensures.cause in
    no_resync _ c.requires.ready cause
