use Rattle.std.proofs.Common.{◌≡◌, List, false, None, Ok, sym, ◌∙◌, ap, subst}
use Rattle.std.specs.List.{list_all}
use Rattle.fx_lines.specs.declared.commands.Command.TheVariants as command
use Rattle.fx_model.specs.declared.resources.Update.{Update}
use Rattle.fx_model.specs.Batches.{after_all, clash_all}
use Rattle.fx_model.specs.Formed.{is_formed, puts_workload_interface}
use Rattle.fx_model.specs.Steps.{is_change}
use Rattle.fx_replay.specs.Output.{State}
use Rattle.fx_replay.specs.Standing.{state_of}
use Rattle.fx_replay.specs.Tests.{HasTested}
use Rattle.fx_replay.proofs.Pulling.{no_resync}
use Rattle.fx_replay.proofs.Taking.{free-settled, free-tested, free-told, taken-settled, taken-tested, taken-told}
use Rattle.fx_replay.proofs.replay.Replay.take_all.Goals as goal

pub update_all-requires-clause-formed : goal.update_all-requires-clause-formed
update_all-requires-clause-formed g c = ap (list_all is_formed) c.into_vec.ensures ∙ c.requires.read.formed

pub update_all-requires-clause-changes : goal.update_all-requires-clause-changes
update_all-requires-clause-changes g c = ap (list_all is_change) c.into_vec.ensures ∙ c.requires.read.changes

pub update_all-requires-clause-interfaces : goal.update_all-requires-clause-interfaces
update_all-requires-clause-interfaces g c =
    let node = c.args.self.now.agent.resources.node in
    ap (list_all (puts_workload_interface node)) c.into_vec.ensures ∙ c.requires.read.on_workloads node

pub returns-in-Ok-clause-state : goal.returns-in-Ok-clause-state
returns-in-Ok-clause-state g c =
    let dg = g.R.DigestRule.digest_of in
    let was = c.args.self.now in
    let R = was.agent.resources in
    let us = c.args.updates in
    let s : State = state_of dg was.agent in
    let free : clash_all dg R us ≡ None = ap (clash_all dg R) (sym c.into_vec.ensures) ∙ c.in-Ok.ensures.free in
    let made = c.in-Ok.ensures.resources ∙ ap (after_all R) c.into_vec.ensures in
    (λ j. record s { resources = made j; sent = c.in-Ok.ensures.sent j }) ∙ sym (free-settled s (clash_all dg R us) (command.Batch us) free)

pub returns-in-Ok-clause-refused : goal.returns-in-Ok-clause-refused
returns-in-Ok-clause-refused g c =
    let dg = g.R.DigestRule.digest_of in
    let was = c.args.self.now in
    let R = was.agent.resources in
    let us = c.args.updates in
    free-told (state_of dg was.agent) (clash_all dg R us) (command.Batch us) (ap (clash_all dg R) (sym c.into_vec.ensures) ∙ c.in-Ok.ensures.free)

pub returns-in-Ok-clause-tests : goal.returns-in-Ok-clause-tests
returns-in-Ok-clause-tests g c =
    let dg = g.R.DigestRule.digest_of in
    let was = c.args.self.now in
    let R = was.agent.resources in
    let us = c.args.updates in
    let free : clash_all dg R us ≡ None = ap (clash_all dg R) (sym c.into_vec.ensures) ∙ c.in-Ok.ensures.free in
    free-tested R (clash_all dg R us) (command.Batch us) was.ticks c.update_all.new.ticks free
    (subst (λ (given : List Update). HasTested R (Ok (command.Batch given)) was.ticks c.update_all.new.ticks) c.into_vec.ensures c.in-Ok.ensures.tests)

pub returns-in-Err-Taken-clause-ready : goal.returns-in-Err-Taken-clause-ready
returns-in-Err-Taken-clause-ready g c =
    let same = rw c.in-Err-Taken.field-0-is at c.in-Err-Taken.ensures.left in
    let cause = rw c.in-Err-Taken.field-0-is at c.in-Err-Taken.ensures.cause in
    ap (λ a. a.failed) same ∙ cause.0

pub returns-in-Err-Taken-clause-state : goal.returns-in-Err-Taken-clause-state
returns-in-Err-Taken-clause-state g c =
    let dg = g.R.DigestRule.digest_of in
    let was = c.args.self.now in
    let R = was.agent.resources in
    let us = c.args.updates in
    let s : State = state_of dg was.agent in
    let same = rw c.in-Err-Taken.field-0-is at c.in-Err-Taken.ensures.left in
    let cause = rw c.in-Err-Taken.field-0-is at c.in-Err-Taken.ensures.cause in
    ap (state_of dg) same ∙ sym (taken-settled s (clash_all dg R us) (command.Batch us) _ (ap (clash_all dg R) (sym c.into_vec.ensures) ∙ cause.1))

pub returns-in-Err-Taken-clause-refused : goal.returns-in-Err-Taken-clause-refused
returns-in-Err-Taken-clause-refused g c =
    let dg = g.R.DigestRule.digest_of in
    let was = c.args.self.now in
    let R = was.agent.resources in
    let us = c.args.updates in
    let cause = rw c.in-Err-Taken.field-0-is at c.in-Err-Taken.ensures.cause in
    taken-told (state_of dg was.agent) (clash_all dg R us) (command.Batch us) _ (ap (clash_all dg R) (sym c.into_vec.ensures) ∙ cause.1)

pub returns-in-Err-Taken-clause-tests : goal.returns-in-Err-Taken-clause-tests
returns-in-Err-Taken-clause-tests g c =
    let dg = g.R.DigestRule.digest_of in
    let was = c.args.self.now in
    let R = was.agent.resources in
    let us = c.args.updates in
    let quiet = rw c.in-Err-Taken.field-0-is at c.in-Err-Taken.ensures.quiet in
    let cause = rw c.in-Err-Taken.field-0-is at c.in-Err-Taken.ensures.cause in
    taken-tested R (clash_all dg R us) (command.Batch us) was.ticks c.update_all.new.ticks _ (ap (clash_all dg R) (sym c.into_vec.ensures) ∙ cause.1) quiet

pub unreachable-requires : goal.unreachable-requires
unreachable-requires g c =
    let cause = rw c.in-Err-NeedsResync.field-0-is at c.in-Err-NeedsResync.ensures.cause in
    no_resync _ c.requires.ready cause
