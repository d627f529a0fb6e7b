-- How updates that are made together are handed on one by one: first each touched key's record is deleted where one is there, and then
-- each touched key's last record is put. So what stands between has only names of the state before, or only names of the state at the
-- end.
use Rattle.std.specs.Prelude.{ℕ, ◌+◌, List, [], ◌∷◌, ◌++◌, Bool, true, false, cond, Option, Some, None, is_some, option_map}
use Rattle.std.specs.List.{flat_map}
use Rattle.std.specs.FinMap as maps
use Rattle.fx_names.specs.Digests.{Digest}
use Rattle.fx_names.specs.declared.claim.Claim.{Claim}
use Rattle.fx_model.specs.declared.ids.ItemKey.TheVariants as item_key
use Rattle.fx_model.specs.declared.ids.Key.{Key}
use Rattle.fx_model.specs.declared.ids.Key.TheVariants as key
use Rattle.fx_model.specs.contracts.ids.KeyPartialEq.TheImpl as key_eq
use Rattle.fx_model.specs.declared.resources.Item.{Item}
use Rattle.fx_model.specs.declared.resources.Item.TheVariants as item
use Rattle.fx_model.specs.declared.resources.Resources.{Resources}
use Rattle.fx_model.specs.declared.resources.Update.{Update}
use Rattle.fx_model.specs.declared.resources.Update.TheVariants as update
use Rattle.fx_model.specs.Resources.{after}
use Rattle.fx_model.specs.Claims.{claims_of}
use Rattle.fx_model.specs.Batches.{touched_keys}
use Rattle.fx_model.specs.Tests.{least_tests, most_tests}

abbrev pub is_key : Key → Key → Bool
is_key k l = key_eq.eq-value.it k l

-- an update that puts or deletes: all but the mark that the resources are in sync
abbrev pub is_change : Update → Bool
is_change update.InSync = false
is_change (update.Put k x) = true
is_change (update.Delete k) = true

-- ---- records

-- the record at a key
abbrev pub record_at : Resources → Key → Option Item
record_at R (key.Item (item_key.Endpoint ns name)) = option_map item.Endpoint (maps.get R.endpoints (item_key.Endpoint ns name))
record_at R (key.Item (item_key.NetSet ns name)) = option_map item.NetSet (maps.get R.net_sets (item_key.NetSet ns name))
record_at R (key.Profile name) = option_map item.Profile (maps.get R.profiles name)
record_at R (key.Tier name) = option_map item.Tier (maps.get R.tiers name)
record_at R (key.Policy id) = option_map item.Policy (maps.get R.policies id)

-- what an update makes of the record at a key
abbrev pub record_after : Key → Option Item → Update → Option Item
record_after k o update.InSync = o
record_after k o (update.Put l x) = cond (is_key k l) (Some x) o
record_after k o (update.Delete l) = cond (is_key k l) None o

-- what updates make of it in turn
abbrev pub record_in : Key → Option Item → List Update → Option Item
record_in k o [] = o
record_in k o (u ∷ us) = record_in k (record_after k o u) us

-- the last record that the updates put at a key; none if they delete it after that
abbrev pub last_record : List Update → Key → Option Item
last_record us k = record_in k None us

-- what a record claims that may be there
abbrev pub record_claims : Digest → List ℕ → Key → Option Item → List Claim
record_claims dg node k None = []
record_claims dg node k (Some x) = claims_of dg node k x

-- ---- steps

-- the delete of a key's record, where one is there
abbrev pub delete_of : Resources → Key → List Update
delete_of R k = cond (is_some (record_at R k)) (update.Delete k ∷ []) []

-- the put of a record, where there is one
abbrev pub put_of : Key → Option Item → List Update
put_of k None = []
put_of k (Some x) = update.Put k x ∷ []

-- the deletes at these keys, in order
abbrev pub deletes_of : Resources → List Key → List Update
deletes_of R ks = flat_map (delete_of R) ks

-- the puts of the last records at these keys, in order
abbrev pub puts_of : List Update → List Key → List Update
puts_of us ks = flat_map (λ k. put_of k (last_record us k)) ks

-- the updates that are handed on in place of these
abbrev pub steps_of : Resources → List Update → List Update
steps_of R us = deletes_of R (touched_keys us) ++ puts_of us (touched_keys us)

-- ---- sums along updates

-- what each of these updates counts, made in turn, together
abbrev pub along : (Resources → Update → ℕ) → Resources → List Update → ℕ
along count R [] = 0
along count R (u ∷ us) = count R u + along count (after R u) us

-- how many tests of a selector on an item's labels the steps of a batch call for, at least and at most
abbrev pub least_tests_all : Resources → List Update → ℕ
least_tests_all R us = along least_tests R (steps_of R us)

abbrev pub most_tests_all : Resources → List Update → ℕ
most_tests_all R us = along most_tests R (steps_of R us)
