use Rattle.std.proofs.Common.{subst}
use Rattle.std.specs.Option.{option_copied}
use Rattle.fx_base.specs.Grouped.{has_key}
use Rattle.fx_resolver.specs.Lists.{row_in}
use Rattle.fx_resolver.specs.Rows.{IsToldBut}
use Rattle.fx_resolver.proofs.RowLemmas.{rows_are}
use Rattle.fx_resolver.proofs.rows.tell_items.Goals as goal

pub tell_each-requires-clause-told : goal.tell_each-requires-clause-told
tell_each-requires-clause-told g c =
    subst (λ o. IsToldBut (row_in c.args.rows.now.lists) c.args.endpoints.now (has_key (option_copied o)) c.args.rows.now.told) c.in-Some.is c.requires.told

pub returns-in_default-clause-told : goal.returns-in_default-clause-told
returns-in_default-clause-told g c =
    rows_are (row_in c.args.rows.now.lists) c.args.endpoints.now c.requires.apart c.args.rows.now.told
    (subst (λ o. IsToldBut (row_in c.args.rows.now.lists) c.args.endpoints.now (has_key (option_copied o)) c.args.rows.now.told) c.in_default.is c.requires.told)
