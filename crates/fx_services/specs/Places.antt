-- The place of a rule as it is written, for one of the rules that stand for it, and the reason that names it.
use Rattle.std.specs.Prelude.{ℕ, ◌-◌, List, [], ◌∷◌, slice_get, Option, Some, None}
use Rattle.std.specs.Option.{unwrap_or}
use Rattle.std.specs.FinMap as maps
use Rattle.fx_base.specs.Extended.{put_or_removed}
use Rattle.fx_model.specs.contracts.ids.KeyOrd.TheImpl as key_cmp
use Rattle.fx_model.specs.declared.chain.Reason.{Reason}
use Rattle.fx_model.specs.declared.chain.Reason.TheVariants as reason
use Rattle.fx_model.specs.declared.ids.Key.{Key}
use Rattle.fx_model.specs.declared.ids.Key.TheVariants as key
use Rattle.fx_fields.specs.declared.policy_fields.PolicyType.{PolicyType}
use Rattle.fx_fields.specs.declared.policy_fields.PolicyType.TheVariants.{Ingress, Egress}
use Rattle.fx_services.specs.declared.places.PlaceLists.{PlaceLists}

-- the lists of the records that rules stand in
abbrev pub PlacesByKey : Type 0
PlacesByKey = maps.FinMap key_cmp.cmp-value.it PlaceLists

-- places are counted from 1; a place behind the list is as it is written
abbrev pub written_place : List ℕ → ℕ → ℕ
written_place places n = unwrap_or (slice_get places (n - 1)) n

abbrev pub list_for : PlaceLists → PolicyType → List ℕ
list_for lists Ingress = lists.ingress
list_for lists Egress = lists.egress

-- ---- the lists at the last flush

-- the lists that records have now, but where these changed since, as they were then
abbrev pub turned_back : PlacesByKey → List (Key × Option PlaceLists) → PlacesByKey
turned_back P [] = P
turned_back P (e ∷ es) = put_or_removed (turned_back P es) e.0 e.1

abbrev pub flushed_places : PlacesByKey → maps.FinMap key_cmp.cmp-value.it (Option PlaceLists) → PlacesByKey
flushed_places P before = turned_back P (maps.entries before)

-- ---- reasons

-- a record without lists is as it is written
abbrev pub place_by : Option PlaceLists → PolicyType → ℕ → ℕ
place_by None d n = n
place_by (Some lists) d n = written_place (list_for lists d) n

-- the reason, by the place of its rule as it is written
abbrev pub reason_as_written : PlacesByKey → PolicyType → Reason → Reason
reason_as_written P d (reason.Policy id n) = reason.Policy id (place_by (maps.get P (key.Policy id)) d n)
reason_as_written P d (reason.EndOfTier tier) = reason.EndOfTier tier
reason_as_written P d (reason.Profile name n) = reason.Profile name (place_by (maps.get P (key.Profile name)) d n)
reason_as_written P d (reason.MissingProfile name) = reason.MissingProfile name
reason_as_written P d reason.NoProfileRule = reason.NoProfileRule
reason_as_written P d reason.UnknownInterface = reason.UnknownInterface
reason_as_written P d reason.Established = reason.Established
reason_as_written P d reason.Invalid = reason.Invalid
