-- The kinds of the node's inputs that no other crate names: items by their keys.
use Rattle.std.specs.FinMap as map
use Rattle.fx_model.specs.declared.resources.Item.{Item}
use Rattle.fx_model.specs.contracts.ids.ItemKeyOrd.TheImpl.{cmp-value}

abbrev pub Items : Type 0
Items = map.FinMap cmp-value.it Item
