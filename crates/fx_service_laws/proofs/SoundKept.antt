-- After an update that is read, the resources as they are written are sound.
use Rattle.std.proofs.Common.{◌≡◌, ℕ, true, not, ◌&&◌, List, Some, refl, subst}
use Rattle.std.specs.Cmp.Lexicographic.{nat_list_cmp_total}
use Rattle.std.specs.FinMap as maps
use Rattle.fx_base.proofs.KeyCases.{bytes_exact}
use Rattle.fx_model.specs.declared.ids.ItemKey.{ItemKey}
use Rattle.fx_model.specs.declared.ids.ItemKey.TheVariants as item_key
use Rattle.fx_model.specs.declared.ids.Key.{Key}
use Rattle.fx_model.specs.declared.ids.Key.TheVariants as key
use Rattle.fx_model.specs.declared.ids.PolicyId.{PolicyId}
use Rattle.fx_model.specs.declared.policy.NetSet.{NetSet}
use Rattle.fx_model.specs.declared.policy.Policy.{Policy}
use Rattle.fx_model.specs.declared.resources.Endpoint.{Endpoint}
use Rattle.fx_model.specs.declared.resources.Item.{Item}
use Rattle.fx_model.specs.declared.resources.Item.TheVariants as item
use Rattle.fx_model.specs.declared.resources.Profile.{Profile}
use Rattle.fx_model.specs.declared.resources.Update.TheVariants as update
use Rattle.fx_model.specs.Formed.{is_formed, is_formed_key, is_formed_item}
use Rattle.fx_model.proofs.Orders.{item_total, exact_item, policy_total, exact_policy}
use Rattle.fx_fields.proofs.Readings.{both, first_of, second_of}
use Rattle.fx_services.specs.declared.services.RuleServices.{RuleServices}
use Rattle.fx_services.specs.declared.slices.Slice.{Slice}
use Rattle.fx_services.specs.Marks.{is_unmarked, is_unmarked_item, is_other_item, is_other_key, is_other_update}
use Rattle.fx_services.specs.Slices.{slice_item_key}
use Rattle.fx_services.specs.Lowerable.{are_lowerable, is_lowerable_item, is_lowerable_update}
use Rattle.fx_services.specs.Written.{Written, ServicesByKey, WrittenUpdate, Resource, PutSlice, DeleteSlice, given_services, after_written}
use Rattle.fx_services.specs.Standing.{is_sound_slice, is_sound_endpoint, is_sound_profile, IsSound, is_sound_update, SoundnessIsKept}
use Rattle.fx_service_laws.proofs.Kept.{put-apart, put-here, removed-apart, other_profile, other_policy}
use Rattle.fx_services.proofs.MapsAt.{insert-all, remove-all}

module _ (W : Written) (sound : IsSound W) where
  -- what holds of the entries where services are these
  abbrev IsProfile : ServicesByKey → List ℕ → Profile → Type 0
  IsProfile S name p = is_sound_profile (given_services (maps.get S (key.Profile name))) p ≡ true

  abbrev IsPolicy : ServicesByKey → PolicyId → Policy → Type 0
  IsPolicy S id p = are_lowerable (given_services (maps.get S (key.Policy id))) p.ingress p.egress ≡ true

  abbrev IsEndpoint : ItemKey → Endpoint → Type 0
  IsEndpoint k e = is_sound_endpoint k e ≡ true

  abbrev IsNetSet : ItemKey → NetSet → Type 0
  IsNetSet k s = is_unmarked s.labels ≡ true

  abbrev IsSlice : ItemKey → Slice → Type 0
  IsSlice k s = (not (is_other_item k) && is_sound_slice s) ≡ true

  abbrev Same : ServicesByKey → Key → Type 0
  Same S k = given_services (maps.get W.services k) ≡ given_services (maps.get S k)

  -- where a key's services stay, so does what holds of its entry
  profile-stays : (S : ServicesByKey) (name : List ℕ) (p : Profile) → Same S (key.Profile name) → IsProfile W.services name p → IsProfile S name p
  profile-stays S name p same h = subst (λ (s : RuleServices). is_sound_profile s p ≡ true) same h

  policy-stays : (S : ServicesByKey) (id : PolicyId) (p : Policy) → Same S (key.Policy id) → IsPolicy W.services id p → IsPolicy S id p
  policy-stays S id p same h = subst (λ (s : RuleServices). are_lowerable s p.ingress p.egress ≡ true) same h

  profiles-stay : (S : ServicesByKey) → ((name : List ℕ) → Same S (key.Profile name)) → (name : List ℕ) (p : Profile) → maps.get W.plain.profiles name ≡ Some p → IsProfile S name p
  profiles-stay S same name p there = profile-stays S name p (same name) (sound.profiles name p there)

  policies-stay : (S : ServicesByKey) → ((id : PolicyId) → Same S (key.Policy id)) → (id : PolicyId) (p : Policy) → maps.get W.plain.policies id ≡ Some p → IsPolicy S id p
  policies-stay S same id p there = policy-stays S id p (same id) (sound.policies id p there)

  abbrev StaysSound : WrittenUpdate → Type 0
  StaysSound u = IsSound (after_written W u)

  -- ---- puts

  on-profile : (services : RuleServices) (name : List ℕ) (p : Profile) → is_sound_profile services p ≡ true → StaysSound (Resource services (update.Put (key.Profile name) (item.Profile p)))
  on-profile services name p here =
      let k = key.Profile name in
      let S = maps.insert W.services k services in
      record {
        named = sound.named;
        endpoints = sound.endpoints;
        net_sets = sound.net_sets;
        profiles = insert-all nat_list_cmp_total bytes_exact W.plain.profiles (IsProfile W.services) (IsProfile S) name p
            (subst (λ (s : RuleServices). is_sound_profile s p ≡ true) (put-here W.services k services) here)
            (λ q x apart h. profile-stays S q x (put-apart W.services k services (key.Profile q) (other_profile q name apart)) h)
            sound.profiles;
        policies = policies-stay S (λ id. put-apart W.services k services (key.Policy id) (λ e. cc));
        slices = sound.slices;
      }

  on-policy : (services : RuleServices) (id : PolicyId) (p : Policy) → are_lowerable services p.ingress p.egress ≡ true → StaysSound (Resource services (update.Put (key.Policy id) (item.Policy p)))
  on-policy services id p here =
      let k = key.Policy id in
      let S = maps.insert W.services k services in
      record {
        named = sound.named;
        endpoints = sound.endpoints;
        net_sets = sound.net_sets;
        profiles = profiles-stay S (λ name. put-apart W.services k services (key.Profile name) (λ e. cc));
        policies = insert-all policy_total exact_policy W.plain.policies (IsPolicy W.services) (IsPolicy S) id p
            (subst (λ (s : RuleServices). are_lowerable s p.ingress p.egress ≡ true) (put-here W.services k services) here)
            (λ q x apart h. policy-stays S q x (put-apart W.services k services (key.Policy q) (other_policy q id apart)) h)
            sound.policies;
        slices = sound.slices;
      }

  on-put : (services : RuleServices) (k : Key) (x : Item) → is_formed_item k x ≡ true → is_other_key k ≡ true → is_unmarked_item x ≡ true → is_lowerable_item services x ≡ true → StaysSound (Resource services (update.Put k x))
  on-put services (key.Item (item_key.Endpoint ns name)) (item.Endpoint e) formed other unmarked low =
      let k = item_key.Endpoint ns name in
      record {
        named = sound.named;
        endpoints = insert-all item_total exact_item W.plain.endpoints IsEndpoint IsEndpoint k e (both (is_other_item k) (is_unmarked e.labels) other unmarked) (λ q y apart h. h) sound.endpoints;
        net_sets = sound.net_sets;
        profiles = sound.profiles;
        policies = sound.policies;
        slices = sound.slices;
      }
  on-put services (key.Item (item_key.NetSet ns name)) (item.Endpoint e) formed other unmarked low = cc
  on-put services (key.Profile name) (item.Endpoint e) formed other unmarked low = cc
  on-put services (key.Tier name) (item.Endpoint e) formed other unmarked low = cc
  on-put services (key.Policy id) (item.Endpoint e) formed other unmarked low = cc
  on-put services (key.Item (item_key.Endpoint ns name)) (item.Profile p) formed other unmarked low = cc
  on-put services (key.Item (item_key.NetSet ns name)) (item.Profile p) formed other unmarked low = cc
  on-put services (key.Profile name) (item.Profile p) formed other unmarked low =
      on-profile services name p (both (is_unmarked p.labels) (are_lowerable services p.ingress p.egress) unmarked low)
  on-put services (key.Tier name) (item.Profile p) formed other unmarked low = cc
  on-put services (key.Policy id) (item.Profile p) formed other unmarked low = cc
  on-put services (key.Item (item_key.Endpoint ns name)) (item.Tier t) formed other unmarked low = cc
  on-put services (key.Item (item_key.NetSet ns name)) (item.Tier t) formed other unmarked low = cc
  on-put services (key.Profile name) (item.Tier t) formed other unmarked low = cc
  on-put services (key.Tier name) (item.Tier t) formed other unmarked low = record {
    named = sound.named;
    endpoints = sound.endpoints;
    net_sets = sound.net_sets;
    profiles = sound.profiles;
    policies = sound.policies;
    slices = sound.slices;
  }
  on-put services (key.Policy id) (item.Tier t) formed other unmarked low = cc
  on-put services (key.Item (item_key.Endpoint ns name)) (item.Policy p) formed other unmarked low = cc
  on-put services (key.Item (item_key.NetSet ns name)) (item.Policy p) formed other unmarked low = cc
  on-put services (key.Profile name) (item.Policy p) formed other unmarked low = cc
  on-put services (key.Tier name) (item.Policy p) formed other unmarked low = cc
  on-put services (key.Policy id) (item.Policy p) formed other unmarked low = on-policy services id p low
  on-put services (key.Item (item_key.Endpoint ns name)) (item.NetSet s) formed other unmarked low = cc
  on-put services (key.Item (item_key.NetSet ns name)) (item.NetSet s) formed other unmarked low =
      let k = item_key.NetSet ns name in
      record {
        named = sound.named;
        endpoints = sound.endpoints;
        net_sets = insert-all item_total exact_item W.plain.net_sets IsNetSet IsNetSet k s unmarked (λ q y apart h. h) sound.net_sets;
        profiles = sound.profiles;
        policies = sound.policies;
        slices = sound.slices;
      }
  on-put services (key.Profile name) (item.NetSet s) formed other unmarked low = cc
  on-put services (key.Tier name) (item.NetSet s) formed other unmarked low = cc
  on-put services (key.Policy id) (item.NetSet s) formed other unmarked low = cc

  -- ---- deletes

  profiles-left : (k : Key) → ((name : List ℕ) → key.Profile name ≡ k → ⊥) → (name : List ℕ) (p : Profile) → maps.get W.plain.profiles name ≡ Some p → IsProfile (maps.remove W.services k) name p
  profiles-left k apart = profiles-stay (maps.remove W.services k) (λ name. removed-apart W.services k (key.Profile name) (apart name))

  policies-left : (k : Key) → ((id : PolicyId) → key.Policy id ≡ k → ⊥) → (id : PolicyId) (p : Policy) → maps.get W.plain.policies id ≡ Some p → IsPolicy (maps.remove W.services k) id p
  policies-left k apart = policies-stay (maps.remove W.services k) (λ id. removed-apart W.services k (key.Policy id) (apart id))

  on-delete : (services : RuleServices) (k : Key) → StaysSound (Resource services (update.Delete k))
  on-delete services (key.Item (item_key.Endpoint ns name)) =
      let k = key.Item (item_key.Endpoint ns name) in
      record {
        named = sound.named;
        endpoints = remove-all item_total exact_item W.plain.endpoints IsEndpoint IsEndpoint (item_key.Endpoint ns name) (λ q y apart h. h) sound.endpoints;
        net_sets = sound.net_sets;
        profiles = profiles-left k (λ q e. cc);
        policies = policies-left k (λ q e. cc);
        slices = sound.slices;
      }
  on-delete services (key.Item (item_key.NetSet ns name)) =
      let k = key.Item (item_key.NetSet ns name) in
      record {
        named = sound.named;
        endpoints = sound.endpoints;
        net_sets = remove-all item_total exact_item W.plain.net_sets IsNetSet IsNetSet (item_key.NetSet ns name) (λ q y apart h. h) sound.net_sets;
        profiles = profiles-left k (λ q e. cc);
        policies = policies-left k (λ q e. cc);
        slices = sound.slices;
      }
  on-delete services (key.Profile name) =
      let k = key.Profile name in
      let S = maps.remove W.services k in
      record {
        named = sound.named;
        endpoints = sound.endpoints;
        net_sets = sound.net_sets;
        profiles = remove-all nat_list_cmp_total bytes_exact W.plain.profiles (IsProfile W.services) (IsProfile S) name
            (λ q x apart h. profile-stays S q x (removed-apart W.services k (key.Profile q) (other_profile q name apart)) h) sound.profiles;
        policies = policies-left k (λ q e. cc);
        slices = sound.slices;
      }
  on-delete services (key.Tier name) = record {
    named = sound.named;
    endpoints = sound.endpoints;
    net_sets = sound.net_sets;
    profiles = profiles-left (key.Tier name) (λ q e. cc);
    policies = policies-left (key.Tier name) (λ q e. cc);
    slices = sound.slices;
  }
  on-delete services (key.Policy id) =
      let k = key.Policy id in
      let S = maps.remove W.services k in
      record {
        named = sound.named;
        endpoints = sound.endpoints;
        net_sets = sound.net_sets;
        profiles = profiles-left k (λ q e. cc);
        policies = remove-all policy_total exact_policy W.plain.policies (IsPolicy W.services) (IsPolicy S) id
            (λ q x apart h. policy-stays S q x (removed-apart W.services k (key.Policy q) (other_policy q id apart)) h) sound.policies;
        slices = sound.slices;
      }

  -- ---- all updates

  stays-sound : (u : WrittenUpdate) → is_sound_update u ≡ true → StaysSound u
  stays-sound (Resource services update.InSync) e = record {
    named = sound.named;
    endpoints = sound.endpoints;
    net_sets = sound.net_sets;
    profiles = sound.profiles;
    policies = sound.policies;
    slices = sound.slices;
  }
  stays-sound (Resource services (update.Put k x)) e =
      let u = update.Put k x in
      let rest = second_of (is_formed u) (is_other_update u && is_lowerable_update services u) e in
      let formed = first_of (is_formed u) (is_other_update u && is_lowerable_update services u) e in
      let others = first_of (is_other_update u) (is_lowerable_update services u) rest in
      on-put services k x (second_of (is_formed_key k) (is_formed_item k x) formed) (first_of (is_other_key k) (is_unmarked_item x) others) (second_of (is_other_key k) (is_unmarked_item x) others) (second_of (is_other_update u) (is_lowerable_update services u) rest)
  stays-sound (Resource services (update.Delete k)) e = on-delete services k
  stays-sound (PutSlice s) e =
      let k = slice_item_key s.named in
      record {
        named = sound.named;
        endpoints = sound.endpoints;
        net_sets = sound.net_sets;
        profiles = sound.profiles;
        policies = sound.policies;
        slices = insert-all item_total exact_item W.slices IsSlice IsSlice k s (both (not (is_other_item k)) (is_sound_slice s) refl e) (λ q y apart h. h) sound.slices;
      }
  stays-sound (DeleteSlice named) e = record {
    named = sound.named;
    endpoints = sound.endpoints;
    net_sets = sound.net_sets;
    profiles = sound.profiles;
    policies = sound.policies;
    slices = remove-all item_total exact_item W.slices IsSlice IsSlice (slice_item_key named) (λ q y apart h. h) sound.slices;
  }

pub stays_sound : SoundnessIsKept
stays_sound W u sound e = stays-sound W sound u e
