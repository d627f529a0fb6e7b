use Rattle.std.proofs.Common.{◌≡◌, ap, ◌∙◌, subst}
use Rattle.std.proofs.lemmas.Result.{err_from_is_err_and, on_ok_weaker}
use Rattle.fx_model.specs.declared.view.View.{View}
use Rattle.fx_model.specs.Tables.{Tables}
use Rattle.fx_run.specs.Writing.{Writes}
use Rattle.fx_run.proofs.Writings.{Writes-nothing}
use Rattle.fx_hostep.specs.HostTables.{host_tables_of}
use Rattle.felix_host.specs.Output.{State, flush_text, goal_of}
use Rattle.felix_host.specs.Standing.{state_of}
use Rattle.felix_host.proofs.host.Host.flush.Goals as goal

pub host_goal-requires-clause-closed : goal.host_goal-requires-clause-closed
host_goal-requires-clause-closed g c = c.in_ok-bring.ensures.followed.drivable.closed

pub host_goal-requires-clause-formed : goal.host_goal-requires-clause-formed
host_goal-requires-clause-formed g c = c.in_ok-bring.ensures.followed.drivable.formed

pub host_goal-requires-clause-kinds : goal.host_goal-requires-clause-kinds
host_goal-requires-clause-kinds g c = c.in_ok-bring.ensures.followed.drivable.kinds

pub host_goal-requires-clause-protocols : goal.host_goal-requires-clause-protocols
host_goal-requires-clause-protocols g c = c.requires.ready.protocols

pub returns-clause-ready : goal.returns-clause-ready
returns-clause-ready g c =
    let drivable = c.in_ok-bring.ensures.followed.drivable in
    on_ok_weaker c.flush.result (λ reached. record {
      followed = c.in_ok-bring.ensures.followed;
      protocols = c.requires.ready.protocols;
      standing = record { view = c.bring.new.self.view; failsafe = c.args.self.now.failsafe; closed = drivable.closed; kinds = drivable.kinds; same = reached ∙ c.in_ok-goal.ensures };
    }) c.flush.ensures.reached

pub returns-clause-state : goal.returns-clause-state
returns-clause-state g c =
    let dg = g.R.DigestRule.digest_of in
    let was = c.args.self.now in
    let s : State = state_of dg was.node.engine.resources was.failsafe was.tables in
    let same = c.in_ok-bring.ensures.resources in
    let end : c.in_ok-goal.goal ≡ goal_of s = c.in_ok-goal.ensures ∙ ap (λ (v : View). host_tables_of v was.failsafe) c.in_ok-bring.ensures.reached in
    on_ok_weaker c.flush.result (λ reached. λ j. record s { resources = same j; tables = (reached ∙ end) j }) c.flush.ensures.reached

pub returns-clause-writes : goal.returns-clause-writes
returns-clause-writes g c =
    let dg = g.R.DigestRule.digest_of in
    let was = c.args.self.now in
    let s : State = state_of dg was.node.engine.resources was.failsafe was.tables in
    let end : c.in_ok-goal.goal ≡ goal_of s = c.in_ok-goal.ensures ∙ ap (λ (v : View). host_tables_of v was.failsafe) c.in_ok-bring.ensures.reached in
    subst (λ (t : Tables). Writes {T = Unit {0}} (g.K.Sink.state c.args.sink.now) (g.K.Sink.state c.flush.new.sink) (flush_text was.tables t) c.flush.result) end c.flush.ensures.writes

pub returns-in_err-bring-clause-writes : goal.returns-in_err-bring-clause-writes
returns-in_err-bring-clause-writes g c =
    let p = err_from_is_err_and c.from_residual.result c.from_residual.ensures.1 in
    rw (p.1, p.2) (Writes-nothing (g.K.Sink.state c.args.sink.now) _)

pub returns-in_err-goal-clause-writes : goal.returns-in_err-goal-clause-writes
returns-in_err-goal-clause-writes g c =
    let p = err_from_is_err_and c.from_residual-in_err-goal.result c.from_residual-in_err-goal.ensures.1 in
    rw (p.1, p.2) (Writes-nothing (g.K.Sink.state c.args.sink.now) _)
