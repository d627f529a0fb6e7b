-- What is kept in a walk over updates: the keys that were seen, and the records that stand where none stood before.
use Rattle.std.specs.Prelude.{List, [], ◌∷◌, Bool, not}
use Rattle.std.specs.FinMap as map
use Rattle.fx_base.specs.Set as set
use Rattle.fx_model.specs.contracts.ids.KeyOrd.TheImpl as key_cmp
use Rattle.fx_model.specs.declared.ids.Key.{Key}
use Rattle.fx_model.specs.declared.resources.Item.{Item}
use Rattle.fx_model.specs.declared.resources.Update.{Update}
use Rattle.fx_model.specs.declared.resources.Update.TheVariants as update

abbrev pub Keys : Type 0
Keys = set.Set key_cmp.cmp-value.it

abbrev pub Records : Type 0
Records = map.FinMap key_cmp.cmp-value.it Item

abbrev pub is_new : Keys → Key → Bool
is_new seen k = not (set.contains seen k)

-- the keys that were seen once these are
abbrev pub with_keys : Keys → List Key → Keys
with_keys seen [] = seen
with_keys seen (k ∷ ks) = with_keys (set.insert seen k) ks

-- the records after an update, and after updates in turn
abbrev pub recorded : Records → Update → Records
recorded m update.InSync = m
recorded m (update.Put k x) = map.insert m k x
recorded m (update.Delete k) = map.remove m k

abbrev pub recorded_all : Records → List Update → Records
recorded_all m [] = m
recorded_all m (u ∷ us) = recorded_all (recorded m u) us
