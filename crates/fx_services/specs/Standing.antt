-- When records stand for the resources as they are written, and when lists of places stand for their rules. That such
-- records give the verdict of `written_verdict`, and with the places turned back its reasons, are the laws of
-- `fx_service_laws`.
use Rattle.std.specs.Prelude.{◌≡◌, ◌≢◌, ℕ, List, [], Bool, true, not, ◌&&◌, Some, option_map, IfOk}
use Rattle.std.specs.Option.{option_or}
use Rattle.std.specs.List.{list_all}
use Rattle.std.specs.FinMap as maps
use Rattle.serde_json.specs.Data.{Data}
use Rattle.fx_model.specs.Criteria.{has_ports}
use Rattle.fx_model.specs.declared.ids.ItemKey.{ItemKey}
use Rattle.fx_model.specs.declared.ids.Key.TheVariants as key
use Rattle.fx_model.specs.declared.ids.PolicyId.{PolicyId}
use Rattle.fx_model.specs.declared.packet.Packet.{Packet}
use Rattle.fx_model.specs.declared.policy.NetSet.{NetSet}
use Rattle.fx_model.specs.declared.policy.Policy.{Policy}
use Rattle.fx_model.specs.declared.resources.Endpoint.{Endpoint}
use Rattle.fx_model.specs.declared.resources.Profile.{Profile}
use Rattle.fx_model.specs.declared.resources.Resources.{Resources}
use Rattle.fx_model.specs.declared.rules.Rule.{Rule}
use Rattle.fx_model.specs.Formed.{is_formed_namespace, is_formed}
use Rattle.fx_model.specs.Policy.{Outcome, packet_verdict}
use Rattle.fx_model.specs.Resources.{after}
use Rattle.fx_fields.specs.declared.policy_fields.PolicyType.TheVariants.{Ingress, Egress}
use Rattle.fx_json.specs.Resources.{delete_of}
use Rattle.fx_services.specs.declared.places.PlaceLists.{PlaceLists}
use Rattle.fx_services.specs.declared.services.RuleServices.{RuleServices}
use Rattle.fx_services.specs.declared.slices.Slice.{Slice}
use Rattle.fx_services.specs.Marks.{is_unmarked, is_other_item, is_other_update}
use Rattle.fx_services.specs.Services.{no_services}
use Rattle.fx_services.specs.Slices.{slice_of, slice_record}
use Rattle.fx_services.specs.Lowering.{places_from, ingress_of, egress_of, lowered_policy, lowered_profile}
use Rattle.fx_services.specs.Lowerable.{are_lowerable, is_lowerable_update}
use Rattle.fx_services.specs.Reading.{read_resource}
use Rattle.fx_services.specs.Places.{PlacesByKey, reason_as_written}
use Rattle.fx_services.specs.Written.{Written, WrittenUpdate, Resource, PutSlice, DeleteSlice, services_at, after_written, lowered_written}
use Rattle.fx_services.specs.WrittenVerdict.{written_verdict}

-- ---- records

-- Policies and profiles are those that stand for them, slices are endpoints beside the others, and all else is as it is
-- written.
pub record StandsFor (W : Written) (R : Resources) : Type 0 where
  pub node : R.node ≡ W.plain.node
  pub in_sync : R.in_sync ≡ W.plain.in_sync
  pub tiers : R.tiers ≡ W.plain.tiers
  pub net_sets : R.net_sets ≡ W.plain.net_sets
  pub endpoints : (k : ItemKey) → maps.get R.endpoints k
      ≡ option_or (option_map slice_record (maps.get W.slices k)) (maps.get W.plain.endpoints k)
  pub profiles : (name : List ℕ) → maps.get R.profiles name
      ≡ option_map (lowered_profile (services_at W (key.Profile name))) (maps.get W.plain.profiles name)
  pub policies : (id : PolicyId) → maps.get R.policies id
      ≡ option_map (lowered_policy (services_at W (key.Policy id))) (maps.get W.plain.policies id)

-- ---- resources as they are written

-- the record of a slice stands where no other may, its namespace holds no `/`, and its ports are of protocols that have
-- ports
abbrev pub is_sound_slice : Slice → Bool
is_sound_slice s = is_formed_namespace s.named.ns && list_all (λ q. has_ports q.proto.0) s.ports

abbrev pub is_sound_endpoint : ItemKey → Endpoint → Bool
is_sound_endpoint k e = is_other_item k && is_unmarked e.labels

abbrev pub is_sound_profile : RuleServices → Profile → Bool
is_sound_profile services p = is_unmarked p.labels && are_lowerable services p.ingress p.egress

-- what all resources that are read are
pub record IsSound (W : Written) : Type 0 where
  pub named : W.plain.node ≢ []
  pub endpoints : (k : ItemKey) (e : Endpoint) → maps.get W.plain.endpoints k ≡ Some e → is_sound_endpoint k e ≡ true
  pub net_sets : (k : ItemKey) (s : NetSet) → maps.get W.plain.net_sets k ≡ Some s → is_unmarked s.labels ≡ true
  pub profiles : (name : List ℕ) (p : Profile) → maps.get W.plain.profiles name ≡ Some p
      → is_sound_profile (services_at W (key.Profile name)) p ≡ true
  pub policies : (id : PolicyId) (p : Policy) → maps.get W.plain.policies id ≡ Some p
      → are_lowerable (services_at W (key.Policy id)) p.ingress p.egress ≡ true
  pub slices : (k : ItemKey) (s : Slice) → maps.get W.slices k ≡ Some s
      → (not (is_other_item k) && is_sound_slice s) ≡ true

-- an update that is read is sound
abbrev pub is_sound_update : WrittenUpdate → Bool
is_sound_update (Resource services u) = is_formed u && (is_other_update u && is_lowerable_update services u)
is_sound_update (PutSlice s) = is_sound_slice s
is_sound_update (DeleteSlice named) = true

-- ---- places

abbrev pub place_lists : RuleServices → List Rule → List Rule → PlaceLists
place_lists services ingress egress = record {
  ingress = places_from Ingress 1 (ingress_of services ingress);
  egress = places_from Egress 1 (egress_of services egress);
}

-- the lists are those of the rules as they are written
pub record PlacesStandFor (W : Written) (P : PlacesByKey) : Type 0 where
  pub profiles : (name : List ℕ) (p : Profile) → maps.get W.plain.profiles name ≡ Some p
      → maps.get P (key.Profile name) ≡ Some (place_lists (services_at W (key.Profile name)) p.ingress p.egress)
  pub policies : (id : PolicyId) (p : Policy) → maps.get W.plain.policies id ≡ Some p
      → maps.get P (key.Policy id) ≡ Some (place_lists (services_at W (key.Policy id)) p.ingress p.egress)

-- an outcome with places as they are written
abbrev pub as_written : PlacesByKey → Outcome → Outcome
as_written P o = record {
  verdict = o.verdict;
  egress = option_map (reason_as_written P Egress) o.egress;
  ingress = option_map (reason_as_written P Ingress) o.ingress;
}

-- ---- what is stated of them

-- what is read is sound: a resource that is put, a slice that is put, and what is deleted
abbrev pub ReadUpdatesAreSound : Type 0
ReadUpdatesAreSound =
    (d : Data) → IfOk (read_resource d) (λ r. is_sound_update (Resource r.services r.plain) ≡ true)
    × (IfOk (slice_of d) (λ s. is_sound_update (PutSlice s) ≡ true)
    × IfOk (delete_of d) (λ u. is_sound_update (Resource no_services u) ≡ true))

-- records go on to stand for the resources as they are written
abbrev pub RecordsStandOn : Type 0
RecordsStandOn =
    (W : Written) (R : Resources) (u : WrittenUpdate) → StandsFor W R → IsSound W → is_sound_update u ≡ true
    → StandsFor (after_written W u) (after R (lowered_written u))

abbrev pub SoundnessIsKept : Type 0
SoundnessIsKept = (W : Written) (u : WrittenUpdate) → IsSound W → is_sound_update u ≡ true → IsSound (after_written W u)

-- of records that stand for them the policy reference says what the resources as they are written say
abbrev pub WrittenVerdictIsKept : Type 0
WrittenVerdictIsKept =
    (W : Written) (R : Resources) (P : PlacesByKey) (a : Packet) → StandsFor W R → IsSound W → PlacesStandFor W P
    → as_written P (packet_verdict R a) ≡ written_verdict W a
