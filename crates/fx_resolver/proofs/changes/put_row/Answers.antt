use Rattle.std.proofs.Common.{ap, sym, ◌∙◌}
use Rattle.std.specs.FinMap as map
use Rattle.fx_resolver.specs.Lists.{row_in}
use Rattle.fx_resolver.specs.Rows.{if_other, without_row}
use Rattle.fx_resolver.proofs.EndpointLemmas.{row_is, same_endpoint}
use Rattle.fx_resolver.proofs.Keeping.{endpoint_put}
use Rattle.fx_resolver.proofs.changes.put_row.Goals as goal

pub withdraw-requires-clause-there : goal.withdraw-requires-clause-there
withdraw-requires-clause-there g c = λ e there.
    row_is (row_in c.args.rows.now.lists) c.args.inputs.now.endpoints c.requires.kept.apart c.args.item.now c.args.rows.now.told c.requires.kept.told_is e
    (same_endpoint c.args.endpoint.now.iface (map.get c.args.inputs.now.endpoints c.args.item.now) e (ap (if_other c.args.endpoint.now.iface) (sym c.get.ensures) ∙ sym c.if_other-before.ensures ∙ there))

pub returns-clause-kept : goal.returns-clause-kept
returns-clause-kept g c =
    let e = c.args.endpoint.now in
    let old = c.args.rows.now in
    endpoint_put c.requires.kept c.args.item.now e c.requires.apart _ c.in_ok-withdraw.ensures.lists
    (c.in_ok-tell_row.ensures.told
    ∙ (λ j. map.insert (c.in_ok-withdraw.ensures.told j) e.iface (c.in_ok-row.ensures j))
    ∙ (λ j. map.insert (without_row ((c.if_other-before.ensures ∙ ap (if_other e.iface) c.get.ensures) j) old.told) e.iface (row_in (c.in_ok-withdraw.ensures.lists j) c.args.item.now e)))
