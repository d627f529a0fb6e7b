-- What stands at a key.
use Rattle.std.specs.Prelude.{Option}
use Rattle.fx_model.specs.declared.ids.Key.{Key}
use Rattle.fx_model.specs.declared.resources.Item.{Item}
use Rattle.fx_model.specs.declared.resources.Item.TheVariants as item
use Rattle.fx_model.specs.declared.resources.Resources.{Resources}
use Rattle.fx_model.specs.Steps.{record_at}
use Rattle.fx_store.specs.declared.store.Found.{Found}
use Rattle.fx_store.specs.declared.store.Found.TheVariants as found

abbrev pub item_at : Resources → Key → Option Item
item_at R k = record_at R k

abbrev pub item_found : Found → Item
item_found (found.Endpoint e) = item.Endpoint e.now
item_found (found.Profile p) = item.Profile p.now
item_found (found.Tier t) = item.Tier t.now
item_found (found.Policy p) = item.Policy p.now
item_found (found.NetSet s) = item.NetSet s.now
