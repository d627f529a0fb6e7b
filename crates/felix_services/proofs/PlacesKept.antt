-- The lists of places stand for the rules as they are written, after each change that is sound.
use Rattle.std.proofs.Common.{◌≡◌, ℕ, List, true, ◌&&◌, Some, refl, ap, ◌∙◌}
use Rattle.std.specs.Cmp.Lexicographic.{nat_list_cmp_total}
use Rattle.std.specs.FinMap as maps
use Rattle.fx_base.proofs.KeyCases.{bytes_exact}
use Rattle.fx_model.specs.declared.ids.ItemKey.TheVariants as item_key
use Rattle.fx_model.specs.declared.ids.Key.{Key}
use Rattle.fx_model.specs.declared.ids.Key.TheVariants as key
use Rattle.fx_model.specs.declared.ids.PolicyId.{PolicyId}
use Rattle.fx_model.specs.declared.policy.Policy.{Policy}
use Rattle.fx_model.specs.declared.resources.Item.{Item}
use Rattle.fx_model.specs.declared.resources.Item.TheVariants as item
use Rattle.fx_model.specs.declared.resources.Profile.{Profile}
use Rattle.fx_model.specs.declared.resources.Update.TheVariants as update
use Rattle.fx_model.specs.Formed.{is_formed, is_formed_key, is_formed_item}
use Rattle.fx_model.proofs.Orders.{key_total, exact_key, policy_total, exact_policy}
use Rattle.fx_fields.proofs.Readings.{first_of, second_of}
use Rattle.fx_services.specs.declared.places.PlaceLists.{PlaceLists}
use Rattle.fx_services.specs.declared.services.RuleServices.{RuleServices}
use Rattle.fx_services.specs.Lowerable.{is_lowerable_update}
use Rattle.fx_services.specs.Marks.{is_other_update}
use Rattle.fx_services.specs.Places.{PlacesByKey}
use Rattle.fx_services.specs.Standing.{place_lists, PlacesStandFor, is_sound_update}
use Rattle.fx_services.specs.Written.{Written, ServicesByKey, WrittenUpdate, Resource, PutSlice, DeleteSlice, given_services, after_written}
use Rattle.fx_services.proofs.MapsAt.{get-same, get-other, get-left, insert-all, remove-all}
use Rattle.fx_service_laws.proofs.Kept.{put-apart, put-here, removed-apart, other_profile, other_policy}
use Rattle.felix_services.specs.Noting.{noted_change}
use Rattle.felix_services.proofs.WrittenReads.{lowered_change}

module _ (W : Written) (P : PlacesByKey) (stands : PlacesStandFor W P) where
  -- what holds of the entries where services and lists are these
  abbrev HasProfile : ServicesByKey → PlacesByKey → List ℕ → Profile → Type 0
  HasProfile S Q name p = maps.get Q (key.Profile name) ≡ Some (place_lists (given_services (maps.get S (key.Profile name))) p.ingress p.egress)

  abbrev HasPolicy : ServicesByKey → PlacesByKey → PolicyId → Policy → Type 0
  HasPolicy S Q id p = maps.get Q (key.Policy id) ≡ Some (place_lists (given_services (maps.get S (key.Policy id))) p.ingress p.egress)

  abbrev Same : ServicesByKey → Key → Type 0
  Same S k = given_services (maps.get W.services k) ≡ given_services (maps.get S k)

  -- where a key's services and lists stay, so does what holds of its entry
  profile-stays : (S : ServicesByKey) (Q : PlacesByKey) (name : List ℕ) (p : Profile) → maps.get Q (key.Profile name) ≡ maps.get P (key.Profile name) → Same S (key.Profile name) → HasProfile W.services P name p → HasProfile S Q name p
  profile-stays S Q name p lists same h = lists ∙ (h ∙ ap (λ (services : RuleServices). Some (place_lists services p.ingress p.egress)) same)

  policy-stays : (S : ServicesByKey) (Q : PlacesByKey) (id : PolicyId) (p : Policy) → maps.get Q (key.Policy id) ≡ maps.get P (key.Policy id) → Same S (key.Policy id) → HasPolicy W.services P id p → HasPolicy S Q id p
  policy-stays S Q id p lists same h = lists ∙ (h ∙ ap (λ (services : RuleServices). Some (place_lists services p.ingress p.egress)) same)

  abbrev StandOn : WrittenUpdate → Type 0
  StandOn u = PlacesStandFor (after_written W u) (noted_change P (lowered_change u))

  -- ---- puts

  on-profile : (services : RuleServices) (name : List ℕ) (p : Profile) → StandOn (Resource services (update.Put (key.Profile name) (item.Profile p)))
  on-profile services name p =
      let k = key.Profile name in
      let S = maps.insert W.services k services in
      let lists : PlaceLists = place_lists services p.ingress p.egress in
      let Q = maps.insert P k lists in
      record {
        profiles = insert-all nat_list_cmp_total bytes_exact W.plain.profiles (HasProfile W.services P) (HasProfile S Q) name p
            (get-same key_total exact_key P k lists ∙ ap (λ (s : RuleServices). Some (place_lists s p.ingress p.egress)) (put-here W.services k services))
            (λ q x apart h. profile-stays S Q q x (get-other key_total exact_key P k lists (key.Profile q) (other_profile q name apart)) (put-apart W.services k services (key.Profile q) (other_profile q name apart)) h)
            stands.profiles;
        policies = λ id x there. policy-stays S Q id x (get-other key_total exact_key P k lists (key.Policy id) (λ e. cc)) (put-apart W.services k services (key.Policy id) (λ e. cc)) (stands.policies id x there);
      }

  on-policy : (services : RuleServices) (id : PolicyId) (p : Policy) → StandOn (Resource services (update.Put (key.Policy id) (item.Policy p)))
  on-policy services id p =
      let k = key.Policy id in
      let S = maps.insert W.services k services in
      let lists : PlaceLists = place_lists services p.ingress p.egress in
      let Q = maps.insert P k lists in
      record {
        profiles = λ name x there. profile-stays S Q name x (get-other key_total exact_key P k lists (key.Profile name) (λ e. cc)) (put-apart W.services k services (key.Profile name) (λ e. cc)) (stands.profiles name x there);
        policies = insert-all policy_total exact_policy W.plain.policies (HasPolicy W.services P) (HasPolicy S Q) id p
            (get-same key_total exact_key P k lists ∙ ap (λ (s : RuleServices). Some (place_lists s p.ingress p.egress)) (put-here W.services k services))
            (λ q x apart h. policy-stays S Q q x (get-other key_total exact_key P k lists (key.Policy q) (other_policy q id apart)) (put-apart W.services k services (key.Policy q) (other_policy q id apart)) h)
            stands.policies;
      }

  on-put : (services : RuleServices) (k : Key) (x : Item) → is_formed_item k x ≡ true → StandOn (Resource services (update.Put k x))
  on-put services (key.Item (item_key.Endpoint ns name)) (item.Endpoint e) formed = record { profiles = stands.profiles; policies = stands.policies }
  on-put services (key.Item (item_key.NetSet ns name)) (item.Endpoint e) formed = cc
  on-put services (key.Profile name) (item.Endpoint e) formed = cc
  on-put services (key.Tier name) (item.Endpoint e) formed = cc
  on-put services (key.Policy id) (item.Endpoint e) formed = cc
  on-put services (key.Item (item_key.Endpoint ns name)) (item.Profile p) formed = cc
  on-put services (key.Item (item_key.NetSet ns name)) (item.Profile p) formed = cc
  on-put services (key.Profile name) (item.Profile p) formed = on-profile services name p
  on-put services (key.Tier name) (item.Profile p) formed = cc
  on-put services (key.Policy id) (item.Profile p) formed = cc
  on-put services (key.Item (item_key.Endpoint ns name)) (item.Tier t) formed = cc
  on-put services (key.Item (item_key.NetSet ns name)) (item.Tier t) formed = cc
  on-put services (key.Profile name) (item.Tier t) formed = cc
  on-put services (key.Tier name) (item.Tier t) formed = record { profiles = stands.profiles; policies = stands.policies }
  on-put services (key.Policy id) (item.Tier t) formed = cc
  on-put services (key.Item (item_key.Endpoint ns name)) (item.Policy p) formed = cc
  on-put services (key.Item (item_key.NetSet ns name)) (item.Policy p) formed = cc
  on-put services (key.Profile name) (item.Policy p) formed = cc
  on-put services (key.Tier name) (item.Policy p) formed = cc
  on-put services (key.Policy id) (item.Policy p) formed = on-policy services id p
  on-put services (key.Item (item_key.Endpoint ns name)) (item.NetSet s) formed = cc
  on-put services (key.Item (item_key.NetSet ns name)) (item.NetSet s) formed = record { profiles = stands.profiles; policies = stands.policies }
  on-put services (key.Profile name) (item.NetSet s) formed = cc
  on-put services (key.Tier name) (item.NetSet s) formed = cc
  on-put services (key.Policy id) (item.NetSet s) formed = cc

  -- ---- deletes

  -- at a key of no rules
  profiles-left : (k : Key) → ((name : List ℕ) → key.Profile name ≡ k → ⊥) → (name : List ℕ) (p : Profile) → maps.get W.plain.profiles name ≡ Some p → HasProfile (maps.remove W.services k) P name p
  profiles-left k apart name p there = profile-stays (maps.remove W.services k) P name p refl (removed-apart W.services k (key.Profile name) (apart name)) (stands.profiles name p there)

  policies-left : (k : Key) → ((id : PolicyId) → key.Policy id ≡ k → ⊥) → (id : PolicyId) (p : Policy) → maps.get W.plain.policies id ≡ Some p → HasPolicy (maps.remove W.services k) P id p
  policies-left k apart id p there = policy-stays (maps.remove W.services k) P id p refl (removed-apart W.services k (key.Policy id) (apart id)) (stands.policies id p there)

  on-delete : (services : RuleServices) (k : Key) → StandOn (Resource services (update.Delete k))
  on-delete services (key.Item (item_key.Endpoint ns name)) =
      let k = key.Item (item_key.Endpoint ns name) in
      record { profiles = profiles-left k (λ q e. cc); policies = policies-left k (λ q e. cc) }
  on-delete services (key.Item (item_key.NetSet ns name)) =
      let k = key.Item (item_key.NetSet ns name) in
      record { profiles = profiles-left k (λ q e. cc); policies = policies-left k (λ q e. cc) }
  on-delete services (key.Profile name) =
      let k = key.Profile name in
      let S = maps.remove W.services k in
      let Q = maps.remove P k in
      record {
        profiles = remove-all nat_list_cmp_total bytes_exact W.plain.profiles (HasProfile W.services P) (HasProfile S Q) name
            (λ q x apart h. profile-stays S Q q x (get-left key_total exact_key P k (key.Profile q) (other_profile q name apart)) (removed-apart W.services k (key.Profile q) (other_profile q name apart)) h)
            stands.profiles;
        policies = λ id x there. policy-stays S Q id x (get-left key_total exact_key P k (key.Policy id) (λ e. cc)) (removed-apart W.services k (key.Policy id) (λ e. cc)) (stands.policies id x there);
      }
  on-delete services (key.Tier name) =
      let k = key.Tier name in
      record { profiles = profiles-left k (λ q e. cc); policies = policies-left k (λ q e. cc) }
  on-delete services (key.Policy id) =
      let k = key.Policy id in
      let S = maps.remove W.services k in
      let Q = maps.remove P k in
      record {
        profiles = λ name x there. profile-stays S Q name x (get-left key_total exact_key P k (key.Profile name) (λ e. cc)) (removed-apart W.services k (key.Profile name) (λ e. cc)) (stands.profiles name x there);
        policies = remove-all policy_total exact_policy W.plain.policies (HasPolicy W.services P) (HasPolicy S Q) id
            (λ q x apart h. policy-stays S Q q x (get-left key_total exact_key P k (key.Policy q) (other_policy q id apart)) (removed-apart W.services k (key.Policy q) (other_policy q id apart)) h)
            stands.policies;
      }

  -- ---- all changes

  pub places_stand_on : (u : WrittenUpdate) → is_sound_update u ≡ true → StandOn u
  places_stand_on (Resource services update.InSync) e = record { profiles = stands.profiles; policies = stands.policies }
  places_stand_on (Resource services (update.Put k x)) e =
      let u = update.Put k x in
      let formed = first_of (is_formed u) (is_other_update u && is_lowerable_update services u) e in
      on-put services k x (second_of (is_formed_key k) (is_formed_item k x) formed)
  places_stand_on (Resource services (update.Delete k)) e = on-delete services k
  places_stand_on (PutSlice s) e = record { profiles = stands.profiles; policies = stands.policies }
  places_stand_on (DeleteSlice named) e = record { profiles = stands.profiles; policies = stands.policies }
