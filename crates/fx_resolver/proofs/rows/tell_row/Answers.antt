use Rattle.std.proofs.Common.{◌≡◌, sym, ◌∙◌}
use Rattle.std.specs.FinMap as map
use Rattle.fx_base.proofs.AtKey.{insert_same_bytes}
use Rattle.fx_resolver.proofs.rows.tell_row.Goals as goal

pub returns-then-is_told-clause-told : goal.returns-then-is_told-clause-told
returns-then-is_told-clause-told g c =
    sym (insert_same_bytes c.args.told.now c.args.iface.now c.args.row (sym c.get.ensures ∙ c.is_told.ensures.0 c.if-is_told.true))

pub returns-clause-endpoints : goal.returns-clause-endpoints
returns-clause-endpoints g c =
    let h = c.in_ok-clone.ensures.cases in
    let copy : c.in_ok-clone.field-0 ≡ c.args.row = λ j. record { ns = h.0 j; name = h.1.0 j; ingress = h.1.1.0 j; egress = h.1.1.1.0 j; profiles = h.1.1.1.1 j } in
    c.in_ok-endpoint_put.ensures.endpoints ∙ (λ j. map.insert (c.requires j) c.args.iface.now (copy j))
    ∙ sym (c.in_ok-insert.ensures.ok ∙ (λ j. map.insert c.args.told.now (c.in_ok-clone-2.ensures.cases j) c.args.row))
