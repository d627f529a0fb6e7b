use Rattle.std.proofs.Common.{◌≤◌, ◌+◌, length, sym, ap, ◌∙◌, subst, arith}
use Rattle.fx_base.specs.Extended.{extended}
use Rattle.fx_base.specs.Ticks.{ticked}
use Rattle.fx_model.specs.Writing.{CanBeWritten}
use Rattle.fx_tables.proofs.Exchanged.{on_err}
use Rattle.fx_dispatch.specs.Edits.{deletes_in, writes_in}
use Rattle.fx_dispatch.specs.Plans.{CanBeDeleted, Writes, applied, tree_of}
use Rattle.fx_dispatch.proofs.HeldEdits.{same_writes, same_places}
use Rattle.fx_driver.proofs.EndpointSteps.{first_stays}
use Rattle.fx_driver.proofs.Following.{endpoint_put_formed, endpoint_put_writable, short_name, put_holds, put_plan_writable, put_plan_unused, put_driven}
use Rattle.fx_driver.proofs.MessageCosts.{put_few, put_costs, put_at_most}
use Rattle.fx_driver.proofs.driver.Driver.put_endpoint.Goals as goal

pub write_endpoint-requires-clause-writable : goal.write_endpoint-requires-clause-writable
write_endpoint-requires-clause-writable g c = let n = c.requires in endpoint_put_writable c.args.self.now n.0 n.1.0 n.1.1.0 c.args.iface.now c.args.endpoint.now n.1.1.1

pub write_endpoint-requires-clause-formed : goal.write_endpoint-requires-clause-formed
write_endpoint-requires-clause-formed g c = let n = c.requires in endpoint_put_formed c.args.self.now n.0 n.1.0 n.1.1.0 c.args.iface.now c.args.endpoint.now n.1.1.1

pub put-requires : goal.put-requires
put-requires g c = let n = c.requires in short_name c.args.iface.now c.args.endpoint.now (endpoint_put_formed c.args.self.now n.0 n.1.0 n.1.1.0 c.args.iface.now c.args.endpoint.now n.1.1.1)

pub carry_out-requires-clause-places : goal.carry_out-requires-clause-places
carry_out-requires-clause-places g c =
    let n = c.requires in
    let t = c.write_endpoint.new.tables in
    same_places c.args.self.now.dispatch t.chains (put_holds c.args.self.now n.0 n.1.0 n.1.1.0 c.args.iface.now c.args.endpoint.now n.1.1.1 t c.in_ok-write_endpoint.ensures.ok) c.in_ok-edit.edit c.in_ok-edit.ensures.places

pub carry_out-requires-clause-writable : goal.carry_out-requires-clause-writable
carry_out-requires-clause-writable g c =
    let n = c.requires in
    let p = c.in_ok-edit.ensures in
    let t = c.write_endpoint.new.tables in
    let same = same_writes c.args.self.now.dispatch t.chains (put_holds c.args.self.now n.0 n.1.0 n.1.1.0 c.args.iface.now c.args.endpoint.now n.1.1.1 t c.in_ok-write_endpoint.ensures.ok) c.in_ok-edit.edit in
    subst (λ (ws : Writes). CanBeWritten t.sets t.chains ws) (sym same)
    (put_plan_writable c.args.self.now n.0 n.1.0 n.1.1.0 c.args.iface.now c.args.endpoint.now n.1.1.1 t c.in_ok-write_endpoint.ensures.ok c.put.new.self p.interfaces _ _ p.written p.writable)

pub carry_out-requires-clause-unused : goal.carry_out-requires-clause-unused
carry_out-requires-clause-unused g c =
    let n = c.requires in
    let p = c.in_ok-edit.ensures in
    let d = c.args.self.now.dispatch in
    let t = c.write_endpoint.new.tables in
    let same = same_writes d t.chains (put_holds c.args.self.now n.0 n.1.0 n.1.1.0 c.args.iface.now c.args.endpoint.now n.1.1.1 t c.in_ok-write_endpoint.ensures.ok) c.in_ok-edit.edit in
    subst (λ (ws : Writes). CanBeDeleted (extended t.chains ws) (deletes_in c.in_ok-edit.edit)) (sym same)
    (put_plan_unused c.args.self.now n.0 n.1.0 n.1.1.0 c.args.iface.now c.args.endpoint.now n.1.1.1 t c.in_ok-write_endpoint.ensures.ok c.put.new.self p.interfaces (writes_in (tree_of d) c.in_ok-edit.edit) (deletes_in c.in_ok-edit.edit) p.deletable)

pub carry_out-requires-clause-others : goal.carry_out-requires-clause-others
carry_out-requires-clause-others g c = first_stays c.args.self.now.dispatch c.put.new.self _ _ c.in_ok-edit.ensures.changed

pub returns-clause-driven : goal.returns-clause-driven
returns-clause-driven g c = λ s w drives is.
    let p = c.in_ok-edit.ensures in
    let d = c.args.self.now.dispatch in
    let t = c.write_endpoint.new.tables in
    let e = c.in_ok-edit.edit in
    let same = same_writes d t.chains (put_holds c.args.self.now s w drives c.args.iface.now c.args.endpoint.now is t c.in_ok-write_endpoint.ensures.ok) e in
    put_driven c.args.self.now s w drives c.args.iface.now c.args.endpoint.now is t c.in_ok-write_endpoint.ensures.ok c.put.new.self p.interfaces (writes_in (tree_of d) e) (deletes_in e) c.carry_out.new.tables p.written
    (c.in_ok-carry_out.ensures.ok ∙ ap (λ (ws : Writes). record t { chains = applied ws (deletes_in e) t.chains }) same)

pub returns-clause-counted : goal.returns-clause-counted
returns-clause-counted g c =
    let n = c.requires in
    let p = c.in_ok-edit.ensures in
    let d = c.args.self.now.dispatch in
    let t = c.write_endpoint.new.tables in
    let e = c.in_ok-edit.edit in
    let same = same_writes d t.chains (put_holds c.args.self.now n.0 n.1.0 n.1.1.0 c.args.iface.now c.args.endpoint.now n.1.1.1 t c.in_ok-write_endpoint.ensures.ok) e in
    put_costs c.args.self.now c.args.iface.now c.args.endpoint.now c.put.new.self p.interfaces (writes_in (tree_of d) e) (deletes_in e) p.exact _ _ _ c.in_ok-write_endpoint.ensures.counted
    (c.in_ok-carry_out.ensures.counted ∙ ap (λ (ws : Writes). ticked (length ws + length (deletes_in e)) (g.O.Ticker.number c.write_endpoint.new.operations)) same)

pub returns-in_err-write_endpoint-clause-at_most : goal.returns-in_err-write_endpoint-clause-at_most
returns-in_err-write_endpoint-clause-at_most g c =
    on_err c.from_residual.result (put_few c.args.self.now c.args.iface.now c.args.endpoint.now _ _ c.in_err-write_endpoint.ensures.at_most)

pub returns-in_err-edit-clause-at_most : goal.returns-in_err-edit-clause-at_most
returns-in_err-edit-clause-at_most g c =
    let written = c.in_ok-write_endpoint.ensures.counted in
    on_err c.from_residual-in_err-edit.result
    (put_few c.args.self.now c.args.iface.now c.args.endpoint.now (g.O.Ticker.number c.args.operations.now) (g.O.Ticker.number c.write_endpoint.new.operations) (omega (arith, written)))

pub returns-in_err-carry_out-clause-at_most : goal.returns-in_err-carry_out-clause-at_most
returns-in_err-carry_out-clause-at_most g c =
    let n = c.requires in
    let p = c.in_ok-edit.ensures in
    let d = c.args.self.now.dispatch in
    let t = c.write_endpoint.new.tables in
    let e = c.in_ok-edit.edit in
    let same = same_writes d t.chains (put_holds c.args.self.now n.0 n.1.0 n.1.1.0 c.args.iface.now c.args.endpoint.now n.1.1.1 t c.in_ok-write_endpoint.ensures.ok) e in
    on_err c.from_residual-in_err-carry_out.result
    (put_at_most c.args.self.now c.args.iface.now c.args.endpoint.now c.put.new.self p.interfaces (writes_in (tree_of d) e) (deletes_in e) p.exact _ _ _ c.in_ok-write_endpoint.ensures.counted
    (subst (λ (ws : Writes). g.O.Ticker.number c.carry_out.new.operations ≤ g.O.Ticker.number c.write_endpoint.new.operations + (length ws + length (deletes_in e))) same c.in_err-carry_out.ensures.at_most))
