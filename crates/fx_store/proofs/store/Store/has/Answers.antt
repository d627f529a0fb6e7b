use Rattle.std.proofs.Common.{sym, ap, ◌∙◌}
use Rattle.std.specs.Prelude.{option_map}
use Rattle.fx_store.specs.Items.{item_found}
use Rattle.fx_store.specs.Same.{is_record}
use Rattle.fx_store.proofs.store.Store.has.Goals as goal

pub returns-in-Some : goal.returns-in-Some
returns-in-Some c = c.is_same.ensures ∙ ap (λ o. is_record o c.args.item.now) (ap (option_map item_found) (sym c.in-Some.is) ∙ c.get.ensures)

pub returns-in-None : goal.returns-in-None
returns-in-None c = ap (λ o. is_record o c.args.item.now) (ap (option_map item_found) (sym c.in-None.is) ∙ c.get.ensures)
