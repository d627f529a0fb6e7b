use Rattle.std.proofs.Common.{ap, sym, ◌∙◌, Some}
use Rattle.std.specs.FinMap as map
use Rattle.fx_model.proofs.Orders.{item_total, exact_item}
use Rattle.fx_base.proofs.Entries.{got, inserted, missing, some_there}
use Rattle.fx_model.proofs.item_map.ItemMap.swap.Goals as goal

pub returns-in_default-clause-old : goal.returns-in_default-clause-old
returns-in_default-clause-old g c = absurd (missing item_total _ _ c.self.view_is _ c.requires c.in_default.ensures.value)

pub returns-in_default-clause-swapped : goal.returns-in_default-clause-swapped
returns-in_default-clause-swapped g c = absurd (missing item_total _ _ c.self.view_is _ c.requires c.in_default.ensures.value)

pub returns-clause-old : goal.returns-clause-old
returns-clause-old g c = sym (got item_total _ _ c.self.view_is _ _ c.in-Some.ensures.value) ∙ ap Some (sym c.swap.ensures.y_after)

pub returns-clause-swapped : goal.returns-clause-swapped
returns-clause-swapped g c =
    inserted item_total exact_item _ _ _ c.self.view_is _ _ ((c.get_mut.follows.holds c.swap.new.x).3 (some_there _ _ c.in-Some.ensures.value)).0
    ∙ ap (map.insert c.args.self.now c.args.key.now) c.swap.ensures.x_after
