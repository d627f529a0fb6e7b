use Rattle.std.proofs.Common.{Bool, sym, ◌∙◌, ap, subst}
use Rattle.fx_agent.specs.States.{AgentState}
use Rattle.fx_model.specs.declared.resources.Resources.{Resources}
use Rattle.fx_model.specs.Claims.{clash}
use Rattle.fx_restart_lines.specs.declared.command.RestoreCommand.TheVariants as command
use Rattle.felix_restore.specs.Output.{State}
use Rattle.felix_restore.specs.Standing.{state_of, in_sync_after, IsReady}
use Rattle.felix_restore.proofs.TakingLemmas.{free_settled, free_told, taken_settled, taken_told, marked_after, no_resync}
use Rattle.felix_restore.proofs.restore.Restore.take.Goals as goal

pub update-requires-clause-formed : goal.update-requires-clause-formed
update-requires-clause-formed g c = c.requires.read.formed

pub update-requires-clause-interface : goal.update-requires-clause-interface
update-requires-clause-interface g c = c.requires.read.on_workloads c.args.self.now.agent.resources.node

pub returns-in-Ok-clause-ready : goal.returns-in-Ok-clause-ready
returns-in-Ok-clause-ready g c =
    let u = c.args.update in
    record {
      sound = c.in-Ok.ensures.stays;
      mark =
          c.in_sync_after-in_sync.ensures ∙ ap (λ (b : Bool). in_sync_after b u) c.requires.ready.mark ∙ marked_after c.args.self.now.agent.resources u
          ∙ sym (ap (λ (R : Resources). R.in_sync) c.in-Ok.ensures.resources);
    }

pub returns-in-Ok-clause-state : goal.returns-in-Ok-clause-state
returns-in-Ok-clause-state g c =
    let dg = g.R.DigestRule.digest_of in
    let was = c.args.self.now in
    let s : State = state_of dg was.agent was.finding in
    (λ j. record s { resources = c.in-Ok.ensures.resources j })
    ∙ sym (free_settled s (command.Update c.args.update) (clash dg was.agent.resources c.args.update) c.in-Ok.ensures.free)

pub returns-in-Ok-clause-refused : goal.returns-in-Ok-clause-refused
returns-in-Ok-clause-refused g c =
    let dg = g.R.DigestRule.digest_of in
    let was = c.args.self.now in
    let u = c.args.update in
    free_told (state_of dg was.agent was.finding) (command.Update u) (clash dg was.agent.resources u) c.in-Ok.ensures.free

pub returns-in-Err-Taken-clause-ready : goal.returns-in-Err-Taken-clause-ready
returns-in-Err-Taken-clause-ready g c =
    let same = rw c.in-Err-Taken.field-0-is at c.in-Err-Taken.ensures.left in
    subst (λ (a : AgentState). IsReady a c.args.self.now.in_sync) (sym same) c.requires.ready

pub returns-in-Err-Taken-clause-state : goal.returns-in-Err-Taken-clause-state
returns-in-Err-Taken-clause-state g c =
    let dg = g.R.DigestRule.digest_of in
    let was = c.args.self.now in
    let s : State = state_of dg was.agent was.finding in
    let same = rw c.in-Err-Taken.field-0-is at c.in-Err-Taken.ensures.left in
    let cause = rw c.in-Err-Taken.field-0-is at c.in-Err-Taken.ensures.cause in
    ap (λ (a : AgentState). state_of dg a c.pass.new.self) same ∙ ap (state_of dg was.agent) c.pass.ensures
    ∙ sym (taken_settled s (command.Update c.args.update) _ _ cause.1)

pub returns-in-Err-Taken-clause-refused : goal.returns-in-Err-Taken-clause-refused
returns-in-Err-Taken-clause-refused g c =
    let was = c.args.self.now in
    let s : State = state_of g.R.DigestRule.digest_of was.agent was.finding in
    let cause = rw c.in-Err-Taken.field-0-is at c.in-Err-Taken.ensures.cause in
    taken_told s (command.Update c.args.update) _ _ cause.1

pub unreachable-requires : goal.unreachable-requires
unreachable-requires g c =
    let cause = rw c.in-Err-NeedsResync.field-0-is at c.in-Err-NeedsResync.ensures.cause in
    no_resync _ c.requires.ready.sound cause
