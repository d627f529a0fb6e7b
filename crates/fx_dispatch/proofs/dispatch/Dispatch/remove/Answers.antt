use Rattle.std.proofs.Common.{ap, subst, ◌∙◌}
use Rattle.fx_base.specs.Set as set
use Rattle.fx_tables.proofs.Exchanged.{on_err}
use Rattle.fx_dispatch.specs.declared.laid.Laid.{Laid}
use Rattle.fx_dispatch.specs.Laid.{IsEdit}
use Rattle.fx_dispatch.specs.Plans.{Names, AreWritable}
use Rattle.fx_dispatch.proofs.Planned.{remove_absent}
use Rattle.fx_dispatch.proofs.Promised.{promised_replaces, promised_changes, promised_exact, promised_writable, promised_deletable, promised_places}
use Rattle.fx_dispatch.proofs.dispatch.Dispatch.remove.Goals as goal

pub returns-then-not-contains-clause-interfaces : goal.returns-then-not-contains-clause-interfaces
returns-then-not-contains-clause-interfaces c = remove_absent c.args.self.now c.args.iface.now (cc)

pub returns-then-not-contains-clause-writable : goal.returns-then-not-contains-clause-writable
returns-then-not-contains-clause-writable c = subst (λ (s : Names). AreWritable s s c.no_plan.result.writes) c.self.view_is c.no_plan.ensures.writable

-- where there is no memory, names and tree are as they were
pub returns-in_err-edit-clause-err : goal.returns-in_err-edit-clause-err
returns-in_err-edit-clause-err c = on_err c.from_residual.result (ap (λ (l : Laid). l.names) c.in_err-edit.ensures.err ∙ c.self.view_is)

-- the edit has all that differs, and so keeps each promise
pub returns-clause-written : goal.returns-clause-written
returns-clause-written c =
    promised_replaces c.args.self.now c.take.new.self.names c.in_ok-edit.edit
    (subst (λ (s : Names). IsEdit (set.items s) (set.items c.take.new.self.names) c.in_ok-edit.edit) c.self.view_is c.in_ok-edit.ensures.planned)

pub returns-clause-changed : goal.returns-clause-changed
returns-clause-changed c =
    promised_changes c.args.self.now c.take.new.self.names c.in_ok-edit.edit
    (subst (λ (s : Names). IsEdit (set.items s) (set.items c.take.new.self.names) c.in_ok-edit.edit) c.self.view_is c.in_ok-edit.ensures.planned)

pub returns-clause-exact : goal.returns-clause-exact
returns-clause-exact c =
    promised_exact c.args.self.now c.take.new.self.names c.in_ok-edit.edit
    (subst (λ (s : Names). IsEdit (set.items s) (set.items c.take.new.self.names) c.in_ok-edit.edit) c.self.view_is c.in_ok-edit.ensures.planned)

pub returns-clause-writable : goal.returns-clause-writable
returns-clause-writable c =
    promised_writable c.args.self.now c.take.new.self.names c.in_ok-edit.edit
    (subst (λ (s : Names). IsEdit (set.items s) (set.items c.take.new.self.names) c.in_ok-edit.edit) c.self.view_is c.in_ok-edit.ensures.planned)

pub returns-clause-deletable : goal.returns-clause-deletable
returns-clause-deletable c =
    promised_deletable c.args.self.now c.take.new.self.names c.in_ok-edit.edit
    (subst (λ (s : Names). IsEdit (set.items s) (set.items c.take.new.self.names) c.in_ok-edit.edit) c.self.view_is c.in_ok-edit.ensures.planned)

pub returns-clause-places : goal.returns-clause-places
returns-clause-places c =
    promised_places c.args.self.now c.take.new.self.names c.in_ok-edit.edit
    (subst (λ (s : Names). IsEdit (set.items s) (set.items c.take.new.self.names) c.in_ok-edit.edit) c.self.view_is c.in_ok-edit.ensures.planned)
