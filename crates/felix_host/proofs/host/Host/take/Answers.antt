use Rattle.std.proofs.Common.{sym, ◌∙◌, ap, subst}
use Rattle.fx_model.specs.Claims.{clash}
use Rattle.fx_host_lines.specs.declared.command.HostCommand.TheVariants as command
use Rattle.felix_host.specs.Output.{State}
use Rattle.felix_host.specs.Standing.{state_of, IsReady}
use Rattle.felix_host.proofs.HostLemmas.{free_settled, free_told, no_resync, taken_settled, taken_told}
use Rattle.felix_host.proofs.host.Host.take.Goals as goal

pub take-requires-clause-followed : goal.take-requires-clause-followed
take-requires-clause-followed g c = c.requires.ready.followed

pub returns-in-Ok-clause-ready : goal.returns-in-Ok-clause-ready
returns-in-Ok-clause-ready g c = record {
  followed = c.in-Ok.ensures.followed;
  protocols = c.requires.ready.protocols;
  standing = c.requires.ready.standing;
}

pub returns-in-Ok-clause-state : goal.returns-in-Ok-clause-state
returns-in-Ok-clause-state g c =
    let dg = g.R.DigestRule.digest_of in
    let was = c.args.self.now in
    let R = was.node.engine.resources in
    let s : State = state_of dg R was.failsafe was.tables in
    (λ j. record s { resources = c.in-Ok.ensures.resources j })
    ∙ sym (free_settled (clash dg R c.args.update) (command.Update c.args.update) s c.in-Ok.ensures.free)

pub returns-in-Ok-clause-refused : goal.returns-in-Ok-clause-refused
returns-in-Ok-clause-refused g c =
    let R = c.args.self.now.node.engine.resources in
    free_told (clash g.R.DigestRule.digest_of R c.args.update) (command.Update c.args.update) c.in-Ok.ensures.free

pub returns-in-Err-Taken-clause-ready : goal.returns-in-Err-Taken-clause-ready
returns-in-Err-Taken-clause-ready g c =
    let dg = g.R.DigestRule.digest_of in
    let was = c.args.self.now in
    let same = rw c.in-Err-Taken.field-0-is at c.in-Err-Taken.ensures.left in
    subst (λ n. IsReady dg n.engine n.view was.failsafe was.tables) (sym same) c.requires.ready

pub returns-in-Err-Taken-clause-state : goal.returns-in-Err-Taken-clause-state
returns-in-Err-Taken-clause-state g c =
    let dg = g.R.DigestRule.digest_of in
    let was = c.args.self.now in
    let R = was.node.engine.resources in
    let s : State = state_of dg R was.failsafe was.tables in
    let same = rw c.in-Err-Taken.field-0-is at c.in-Err-Taken.ensures.left in
    let cause = rw c.in-Err-Taken.field-0-is at c.in-Err-Taken.ensures.cause in
    ap (λ n. state_of dg n.engine.resources was.failsafe was.tables) same
    ∙ sym (taken_settled (clash dg R c.args.update) (command.Update c.args.update) _ cause.1 s)

pub returns-in-Err-Taken-clause-refused : goal.returns-in-Err-Taken-clause-refused
returns-in-Err-Taken-clause-refused g c =
    let R = c.args.self.now.node.engine.resources in
    let cause = rw c.in-Err-Taken.field-0-is at c.in-Err-Taken.ensures.cause in
    taken_told (clash g.R.DigestRule.digest_of R c.args.update) (command.Update c.args.update) _ cause.1

pub unreachable-requires : goal.unreachable-requires
unreachable-requires g c =
    let cause = rw c.in-Err-NeedsResync.field-0-is at c.in-Err-NeedsResync.ensures.cause in
    no_resync _ c.requires.ready.followed.ready cause
