use Rattle.std.proofs.Common.{◌≤◌, ◌+◌, length, sym, ap, ◌∙◌, subst, arith}
use Rattle.fx_base.specs.Extended.{extended}
use Rattle.fx_base.specs.Ticks.{ticked}
use Rattle.fx_model.specs.Directions.{Ingress, Egress}
use Rattle.fx_model.specs.Writing.{CanBeWritten}
use Rattle.fx_tables.proofs.Exchanged.{on_err}
use Rattle.fx_dispatch.specs.Edits.{deletes_in, writes_in}
use Rattle.fx_dispatch.specs.Plans.{CanBeDeleted, Writes, applied, tree_of}
use Rattle.fx_dispatch.proofs.HeldEdits.{same_writes, same_places}
use Rattle.fx_driver.proofs.EndpointSteps.{first_stays}
use Rattle.fx_driver.proofs.Steps.{first_no_endpoint}
use Rattle.fx_driver.proofs.Following.{endpoint_gone_short, gone_holds, gone_plan_writable, gone_plan_unused, gone_unused, gone_driven}
use Rattle.fx_driver.proofs.MessageCosts.{gone_few, gone_costs, gone_at_most}
use Rattle.fx_driver.proofs.driver.Driver.drop_endpoint.Goals as goal

pub remove-requires : goal.remove-requires
remove-requires g c = let n = c.requires in endpoint_gone_short c.args.self.now n.0 n.1.0 n.1.1.0 c.args.iface.now n.1.1.1

pub carry_out-requires-clause-places : goal.carry_out-requires-clause-places
carry_out-requires-clause-places g c =
    let n = c.requires in
    same_places c.args.self.now.dispatch c.args.self.now.tables.chains (gone_holds c.args.self.now n.0 n.1.0 n.1.1.0 c.args.iface.now n.1.1.1) c.in_ok-edit.edit c.in_ok-edit.ensures.places

pub carry_out-requires-clause-writable : goal.carry_out-requires-clause-writable
carry_out-requires-clause-writable g c =
    let n = c.requires in
    let p = c.in_ok-edit.ensures in
    let d = c.args.self.now.dispatch in
    let t = c.args.self.now.tables in
    let e = c.in_ok-edit.edit in
    let same = same_writes d t.chains (gone_holds c.args.self.now n.0 n.1.0 n.1.1.0 c.args.iface.now n.1.1.1) e in
    subst (λ (ws : Writes). CanBeWritten t.sets t.chains ws) (sym same)
    (gone_plan_writable c.args.self.now n.0 n.1.0 n.1.1.0 c.args.iface.now n.1.1.1 c.remove.new.self p.interfaces _ _ p.written p.writable)

pub carry_out-requires-clause-unused : goal.carry_out-requires-clause-unused
carry_out-requires-clause-unused g c =
    let n = c.requires in
    let p = c.in_ok-edit.ensures in
    let d = c.args.self.now.dispatch in
    let t = c.args.self.now.tables in
    let e = c.in_ok-edit.edit in
    let same = same_writes d t.chains (gone_holds c.args.self.now n.0 n.1.0 n.1.1.0 c.args.iface.now n.1.1.1) e in
    subst (λ (ws : Writes). CanBeDeleted (extended t.chains ws) (deletes_in e)) (sym same)
    (gone_plan_unused c.args.self.now n.0 n.1.0 n.1.1.0 c.args.iface.now n.1.1.1 c.remove.new.self p.interfaces (writes_in (tree_of d) e) (deletes_in e) p.deletable)

pub carry_out-requires-clause-others : goal.carry_out-requires-clause-others
carry_out-requires-clause-others g c = first_stays c.args.self.now.dispatch c.remove.new.self _ _ c.in_ok-edit.ensures.changed

pub endpoint_chain_name-to-requires : goal.endpoint_chain_name-to-requires
endpoint_chain_name-to-requires g c = let n = c.requires in endpoint_gone_short c.args.self.now n.0 n.1.0 n.1.1.0 c.args.iface.now n.1.1.1

pub endpoint_chain_name-from-requires : goal.endpoint_chain_name-from-requires
endpoint_chain_name-from-requires g c = let n = c.requires in endpoint_gone_short c.args.self.now n.0 n.1.0 n.1.1.0 c.args.iface.now n.1.1.1

pub delete_both-requires-clause-unused_to : goal.delete_both-requires-clause-unused_to
delete_both-requires-clause-unused_to g c =
    let n = c.requires in
    let p = c.in_ok-edit.ensures in
    let d = c.args.self.now.dispatch in
    let t = c.args.self.now.tables in
    let e = c.in_ok-edit.edit in
    let same = same_writes d t.chains (gone_holds c.args.self.now n.0 n.1.0 n.1.1.0 c.args.iface.now n.1.1.1) e in
    rw c.endpoint_chain_name-to.ensures (gone_unused c.args.self.now n.0 n.1.0 n.1.1.0 c.args.iface.now n.1.1.1 c.remove.new.self p.interfaces (writes_in (tree_of d) e) (deletes_in e) c.carry_out.new.tables p.written (c.in_ok-carry_out.ensures.ok ∙ ap (λ (ws : Writes). record t { chains = applied ws (deletes_in e) t.chains }) same) Ingress)

pub delete_both-requires-clause-unused_from : goal.delete_both-requires-clause-unused_from
delete_both-requires-clause-unused_from g c =
    let n = c.requires in
    let p = c.in_ok-edit.ensures in
    let d = c.args.self.now.dispatch in
    let t = c.args.self.now.tables in
    let e = c.in_ok-edit.edit in
    let same = same_writes d t.chains (gone_holds c.args.self.now n.0 n.1.0 n.1.1.0 c.args.iface.now n.1.1.1) e in
    rw c.endpoint_chain_name-from.ensures (gone_unused c.args.self.now n.0 n.1.0 n.1.1.0 c.args.iface.now n.1.1.1 c.remove.new.self p.interfaces (writes_in (tree_of d) e) (deletes_in e) c.carry_out.new.tables p.written (c.in_ok-carry_out.ensures.ok ∙ ap (λ (ws : Writes). record t { chains = applied ws (deletes_in e) t.chains }) same) Egress)

pub delete_both-requires-clause-other_to : goal.delete_both-requires-clause-other_to
delete_both-requires-clause-other_to g c = rw c.endpoint_chain_name-to.ensures (first_no_endpoint Ingress c.args.iface.now)

pub delete_both-requires-clause-other_from : goal.delete_both-requires-clause-other_from
delete_both-requires-clause-other_from g c = rw c.endpoint_chain_name-from.ensures (first_no_endpoint Egress c.args.iface.now)

pub returns-clause-driven : goal.returns-clause-driven
returns-clause-driven g c = λ s w drives is.
    let p = c.in_ok-edit.ensures in
    let d = c.args.self.now.dispatch in
    let t = c.args.self.now.tables in
    let e = c.in_ok-edit.edit in
    let same = same_writes d t.chains (gone_holds c.args.self.now s w drives c.args.iface.now is) e in
    gone_driven c.args.self.now s w drives c.args.iface.now is c.remove.new.self p.interfaces (writes_in (tree_of d) e) (deletes_in e) c.carry_out.new.tables p.written
    (c.in_ok-carry_out.ensures.ok ∙ ap (λ (ws : Writes). record t { chains = applied ws (deletes_in e) t.chains }) same)
    c.delete_both.new.tables
    (rw (c.endpoint_chain_name-to.ensures, c.endpoint_chain_name-from.ensures) at c.delete_both.ensures.gone)

pub returns-clause-counted : goal.returns-clause-counted
returns-clause-counted g c =
    let n = c.requires in
    let p = c.in_ok-edit.ensures in
    let d = c.args.self.now.dispatch in
    let t = c.args.self.now.tables in
    let e = c.in_ok-edit.edit in
    let same = same_writes d t.chains (gone_holds c.args.self.now n.0 n.1.0 n.1.1.0 c.args.iface.now n.1.1.1) e in
    gone_costs c.args.self.now c.args.iface.now c.remove.new.self p.interfaces (writes_in (tree_of d) e) (deletes_in e) p.exact _ _ _
    (c.in_ok-carry_out.ensures.counted ∙ ap (λ (ws : Writes). ticked (length ws + length (deletes_in e)) (g.O.Ticker.number c.args.operations.now)) same)
    c.delete_both.ensures.counted

pub returns-in_err-edit-clause-at_most : goal.returns-in_err-edit-clause-at_most
returns-in_err-edit-clause-at_most g c =
    let before = g.O.Ticker.number c.args.operations.now in
    on_err c.from_residual.result (gone_few c.args.self.now c.args.iface.now before before (omega arith))

pub returns-in_err-carry_out-clause-at_most : goal.returns-in_err-carry_out-clause-at_most
returns-in_err-carry_out-clause-at_most g c =
    let n = c.requires in
    let p = c.in_ok-edit.ensures in
    let d = c.args.self.now.dispatch in
    let t = c.args.self.now.tables in
    let e = c.in_ok-edit.edit in
    let same = same_writes d t.chains (gone_holds c.args.self.now n.0 n.1.0 n.1.1.0 c.args.iface.now n.1.1.1) e in
    on_err c.from_residual-in_err-carry_out.result
    (gone_at_most c.args.self.now c.args.iface.now c.remove.new.self p.interfaces (writes_in (tree_of d) e) (deletes_in e) p.exact _ _
    (subst (λ (ws : Writes). g.O.Ticker.number c.carry_out.new.operations ≤ g.O.Ticker.number c.args.operations.now + (length ws + length (deletes_in e))) same c.in_err-carry_out.ensures.at_most))
