use Rattle.std.proofs.Common.{ap, sym, ◌∙◌}
use Rattle.fx_resolver.specs.Lists.{row_in}
use Rattle.fx_resolver.specs.Rows.{without_row}
use Rattle.fx_resolver.proofs.EndpointLemmas.{row_is}
use Rattle.fx_resolver.proofs.Keeping.{endpoint_gone}
use Rattle.fx_resolver.proofs.changes.remove_row.Goals as goal

pub withdraw-requires-clause-there : goal.withdraw-requires-clause-there
withdraw-requires-clause-there g c = λ e there.
    row_is (row_in c.args.rows.now.lists) c.args.inputs.now.endpoints c.requires.kept.apart c.args.item.now c.args.rows.now.told c.requires.kept.told_is e (sym c.get.ensures ∙ there)

pub returns-clause-kept : goal.returns-clause-kept
returns-clause-kept g c =
    endpoint_gone c.requires.kept c.args.item.now c.withdraw.new.rows c.in_ok-withdraw.ensures.lists
    (c.in_ok-withdraw.ensures.told ∙ ap (λ o. without_row o c.args.rows.now.told) c.get.ensures)
