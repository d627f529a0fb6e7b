use Rattle.std.proofs.Common.{◌≡◌, None, sym, ◌∙◌, ap, subst}
use Rattle.std.specs.List.{list_all}
use Rattle.fx_agent.specs.States.{AgentState}
use Rattle.fx_model.specs.declared.resources.Resources.{Resources}
use Rattle.fx_model.specs.Batches.{after_all, clash_all}
use Rattle.fx_model.specs.Formed.{is_formed, puts_workload_interface}
use Rattle.fx_model.specs.Steps.{is_change}
use Rattle.fx_laws.proofs.Records.{mark_stays-all}
use Rattle.fx_restart_lines.specs.declared.command.RestoreCommand.TheVariants as command
use Rattle.felix_restore.specs.Output.{State}
use Rattle.felix_restore.specs.Standing.{state_of, IsReady}
use Rattle.felix_restore.proofs.TakingLemmas.{free_settled, free_told, taken_settled, taken_told, no_resync}
use Rattle.felix_restore.proofs.restore.Restore.take_all.Goals as goal

pub update_all-requires-clause-formed : goal.update_all-requires-clause-formed
update_all-requires-clause-formed g c = ap (list_all is_formed) c.into_vec.ensures ∙ c.requires.read.formed

pub update_all-requires-clause-changes : goal.update_all-requires-clause-changes
update_all-requires-clause-changes g c = ap (list_all is_change) c.into_vec.ensures ∙ c.requires.read.changes

pub update_all-requires-clause-interfaces : goal.update_all-requires-clause-interfaces
update_all-requires-clause-interfaces g c =
    let node = c.args.self.now.agent.resources.node in
    ap (list_all (puts_workload_interface node)) c.into_vec.ensures ∙ c.requires.read.on_workloads node

pub returns-in-Ok-clause-ready : goal.returns-in-Ok-clause-ready
returns-in-Ok-clause-ready g c =
    let R : Resources = c.args.self.now.agent.resources in
    let us = c.args.updates in
    let after : c.update_all.new.self.resources ≡ after_all R us = c.in-Ok.ensures.resources ∙ ap (after_all R) c.into_vec.ensures in
    record {
      sound = c.in-Ok.ensures.stays;
      mark = c.requires.ready.mark ∙ sym (mark_stays-all R us c.requires.read.changes) ∙ sym (ap (λ (Q : Resources). Q.in_sync) after);
    }

pub returns-in-Ok-clause-state : goal.returns-in-Ok-clause-state
returns-in-Ok-clause-state g c =
    let dg = g.R.DigestRule.digest_of in
    let was = c.args.self.now in
    let R : Resources = was.agent.resources in
    let us = c.args.updates in
    let s : State = state_of dg was.agent was.finding in
    let after : c.update_all.new.self.resources ≡ after_all R us = c.in-Ok.ensures.resources ∙ ap (after_all R) c.into_vec.ensures in
    let free : clash_all dg R us ≡ None = ap (clash_all dg R) (sym c.into_vec.ensures) ∙ c.in-Ok.ensures.free in
    (λ j. record s { resources = after j }) ∙ sym (free_settled s (command.Batch us) (clash_all dg R us) free)

pub returns-in-Ok-clause-refused : goal.returns-in-Ok-clause-refused
returns-in-Ok-clause-refused g c =
    let dg = g.R.DigestRule.digest_of in
    let was = c.args.self.now in
    let R : Resources = was.agent.resources in
    let us = c.args.updates in
    let s : State = state_of dg was.agent was.finding in
    free_told s (command.Batch us) (clash_all dg R us) (ap (clash_all dg R) (sym c.into_vec.ensures) ∙ c.in-Ok.ensures.free)

pub returns-in-Err-Taken-clause-ready : goal.returns-in-Err-Taken-clause-ready
returns-in-Err-Taken-clause-ready g c =
    let same = rw c.in-Err-Taken.field-0-is at c.in-Err-Taken.ensures.left in
    subst (λ (a : AgentState). IsReady a c.args.self.now.in_sync) (sym same) c.requires.ready

pub returns-in-Err-Taken-clause-state : goal.returns-in-Err-Taken-clause-state
returns-in-Err-Taken-clause-state g c =
    let dg = g.R.DigestRule.digest_of in
    let was = c.args.self.now in
    let R : Resources = was.agent.resources in
    let s : State = state_of dg was.agent was.finding in
    let same = rw c.in-Err-Taken.field-0-is at c.in-Err-Taken.ensures.left in
    let cause = rw c.in-Err-Taken.field-0-is at c.in-Err-Taken.ensures.cause in
    ap (λ (a : AgentState). state_of dg a c.pass.new.self) same ∙ ap (state_of dg was.agent) c.pass.ensures
    ∙ sym (taken_settled s (command.Batch c.args.updates) _ _ (ap (clash_all dg R) (sym c.into_vec.ensures) ∙ cause.1))

pub returns-in-Err-Taken-clause-refused : goal.returns-in-Err-Taken-clause-refused
returns-in-Err-Taken-clause-refused g c =
    let dg = g.R.DigestRule.digest_of in
    let was = c.args.self.now in
    let R : Resources = was.agent.resources in
    let s : State = state_of dg was.agent was.finding in
    let cause = rw c.in-Err-Taken.field-0-is at c.in-Err-Taken.ensures.cause in
    taken_told s (command.Batch c.args.updates) _ _ (ap (clash_all dg R) (sym c.into_vec.ensures) ∙ cause.1)

pub unreachable-requires : goal.unreachable-requires
unreachable-requires g c =
    let cause = rw c.in-Err-NeedsResync.field-0-is at c.in-Err-NeedsResync.ensures.cause in
    no_resync _ c.requires.ready.sound cause
