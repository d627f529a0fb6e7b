-- After an update, records go on to stand for the resources as they are written.
use Rattle.std.proofs.Common.{◌≡◌, ◌⊎◌, inl, inr, ℕ, true, false, ◌&&◌, List, Option, refl, sym, ap, ◌∙◌, subst}
use Rattle.std.specs.Prelude.{option_map}
use Rattle.std.specs.Option.{option_or}
use Rattle.std.specs.Cmp.Lexicographic.{nat_list_cmp_total}
use Rattle.std.specs.FinMap as maps
use Rattle.fx_base.proofs.KeyCases.{bytes_exact}
use Rattle.fx_model.specs.declared.ids.ItemKey.{ItemKey}
use Rattle.fx_model.specs.declared.ids.ItemKey.TheVariants as item_key
use Rattle.fx_model.specs.declared.ids.Key.{Key}
use Rattle.fx_model.specs.declared.ids.Key.TheVariants as key
use Rattle.fx_model.specs.declared.ids.PolicyId.{PolicyId}
use Rattle.fx_model.specs.declared.policy.Policy.{Policy}
use Rattle.fx_model.specs.declared.resources.Endpoint.{Endpoint}
use Rattle.fx_model.specs.declared.resources.Item.{Item}
use Rattle.fx_model.specs.declared.resources.Item.TheVariants as item
use Rattle.fx_model.specs.declared.resources.Profile.{Profile}
use Rattle.fx_model.specs.declared.resources.Resources.{Resources}
use Rattle.fx_model.specs.declared.resources.Update.TheVariants as update
use Rattle.fx_model.specs.Formed.{is_formed, is_formed_key, is_formed_item}
use Rattle.fx_model.specs.Resources.{after}
use Rattle.fx_model.proofs.Orders.{item_total, exact_item, key_total, exact_key, policy_total, exact_policy}
use Rattle.fx_fields.proofs.Readings.{first_of, second_of}
use Rattle.fx_services.specs.declared.services.RuleServices.{RuleServices}
use Rattle.fx_services.specs.declared.slices.Slice.{Slice}
use Rattle.fx_services.specs.Marks.{is_other_item, is_other_key, is_unmarked_item, is_other_update}
use Rattle.fx_services.specs.Slices.{slice_item_key, slice_record}
use Rattle.fx_services.specs.Lowering.{lowered_policy, lowered_profile}
use Rattle.fx_services.specs.Lowerable.{is_lowerable_update}
use Rattle.fx_services.specs.Written.{Written, ServicesByKey, WrittenUpdate, Resource, PutSlice, DeleteSlice, given_services, after_written, lowered_written}
use Rattle.fx_services.specs.Standing.{StandsFor, IsSound, is_sound_update, RecordsStandOn}
use Rattle.fx_service_laws.proofs.Items.{no_slice, no_endpoint}
use Rattle.fx_services.proofs.MapsAt.{alike_or_apart, get-same, get-other, get-removed, get-left, put-on, remove-on}

-- ---- services at other keys

module _ (S : ServicesByKey) where
  pub put-apart : (k : Key) (services : RuleServices) (q : Key) → (q ≡ k → ⊥) → given_services (maps.get S q) ≡ given_services (maps.get (maps.insert S k services) q)
  put-apart k services q apart = ap given_services (sym (get-other key_total exact_key S k services q apart))

  pub put-here : (k : Key) (services : RuleServices) → services ≡ given_services (maps.get (maps.insert S k services) k)
  put-here k services = ap given_services (sym (get-same key_total exact_key S k services))

  pub removed-apart : (k q : Key) → (q ≡ k → ⊥) → given_services (maps.get S q) ≡ given_services (maps.get (maps.remove S k) q)
  removed-apart k q apart = ap given_services (sym (get-left key_total exact_key S k q apart))

pub other_profile : (q name : List ℕ) → (q ≡ name → ⊥) → key.Profile q ≡ key.Profile name → ⊥
other_profile q name apart e = apart (cc)

pub other_policy : (q id : PolicyId) → (q ≡ id → ⊥) → key.Policy q ≡ key.Policy id → ⊥
other_policy q id apart e = apart (cc)

module _ (W : Written) (R : Resources) (stands : StandsFor W R) (sound : IsSound W) where
  -- the values of profiles and policies among the records, where services are these
  abbrev profile_of : ServicesByKey → List ℕ → Profile → Profile
  profile_of S name = lowered_profile (given_services (maps.get S (key.Profile name)))

  abbrev policy_of : ServicesByKey → PolicyId → Policy → Policy
  policy_of S id = lowered_policy (given_services (maps.get S (key.Policy id)))

  -- services at a key that is of no profile, put or removed
  abbrev KeepProfiles : ServicesByKey → Type 0
  KeepProfiles S = (name : List ℕ) → maps.get R.profiles name ≡ option_map (profile_of S name) (maps.get W.plain.profiles name)

  abbrev KeepPolicies : ServicesByKey → Type 0
  KeepPolicies S = (id : PolicyId) → maps.get R.policies id ≡ option_map (policy_of S id) (maps.get W.plain.policies id)

  profiles-apart : (S : ServicesByKey) → ((name : List ℕ) → given_services (maps.get W.services (key.Profile name)) ≡ given_services (maps.get S (key.Profile name))) → KeepProfiles S
  profiles-apart S same name = stands.profiles name ∙ (λ i. option_map (lowered_profile (same name i)) (maps.get W.plain.profiles name))

  policies-apart : (S : ServicesByKey) → ((id : PolicyId) → given_services (maps.get W.services (key.Policy id)) ≡ given_services (maps.get S (key.Policy id))) → KeepPolicies S
  policies-apart S same id = stands.policies id ∙ (λ i. option_map (lowered_policy (same id i)) (maps.get W.plain.policies id))

  -- ---- endpoints

  -- an endpoint that is put is none of a slice
  endpoint-put : (k : ItemKey) (e : Endpoint) → is_other_item k ≡ true → (q : ItemKey) → maps.get (maps.insert R.endpoints k e) q ≡ option_or (option_map slice_record (maps.get W.slices q)) (maps.get (maps.insert W.plain.endpoints k e) q)
  endpoint-put k e other q = by (alike_or_apart item_total exact_item q k)
    where
      by : (q ≡ k) ⊎ (q ≡ k → ⊥) → maps.get (maps.insert R.endpoints k e) q ≡ option_or (option_map slice_record (maps.get W.slices q)) (maps.get (maps.insert W.plain.endpoints k e) q)
      by (inl one) =
          let P : ItemKey → Type 0 = λ r. maps.get (maps.insert R.endpoints k e) r ≡ option_or (option_map slice_record (maps.get W.slices r)) (maps.get (maps.insert W.plain.endpoints k e) r) in
          subst P (sym one) (get-same item_total exact_item R.endpoints k e ∙ (λ i. option_or (option_map slice_record (sym (no_slice W R stands sound k other) i)) (sym (get-same item_total exact_item W.plain.endpoints k e) i)))
      by (inr apart) =
          get-other item_total exact_item R.endpoints k e q apart
          ∙ (stands.endpoints q ∙ ap (option_or (option_map slice_record (maps.get W.slices q))) (sym (get-other item_total exact_item W.plain.endpoints k e q apart)))

  endpoint-deleted : (k : ItemKey) → is_other_item k ≡ true → (q : ItemKey) → maps.get (maps.remove R.endpoints k) q ≡ option_or (option_map slice_record (maps.get W.slices q)) (maps.get (maps.remove W.plain.endpoints k) q)
  endpoint-deleted k other q = by (alike_or_apart item_total exact_item q k)
    where
      by : (q ≡ k) ⊎ (q ≡ k → ⊥) → maps.get (maps.remove R.endpoints k) q ≡ option_or (option_map slice_record (maps.get W.slices q)) (maps.get (maps.remove W.plain.endpoints k) q)
      by (inl one) =
          let P : ItemKey → Type 0 = λ r. maps.get (maps.remove R.endpoints k) r ≡ option_or (option_map slice_record (maps.get W.slices r)) (maps.get (maps.remove W.plain.endpoints k) r) in
          subst P (sym one) (get-removed item_total exact_item R.endpoints k ∙ (λ i. option_or (option_map slice_record (sym (no_slice W R stands sound k other) i)) (sym (get-removed item_total exact_item W.plain.endpoints k) i)))
      by (inr apart) =
          get-left item_total exact_item R.endpoints k q apart
          ∙ (stands.endpoints q ∙ ap (option_or (option_map slice_record (maps.get W.slices q))) (sym (get-left item_total exact_item W.plain.endpoints k q apart)))

  -- ---- slices

  slice-put : (k : ItemKey) (s : Slice) (q : ItemKey) → maps.get (maps.insert R.endpoints k (slice_record s)) q ≡ option_or (option_map slice_record (maps.get (maps.insert W.slices k s) q)) (maps.get W.plain.endpoints q)
  slice-put k s q = by (alike_or_apart item_total exact_item q k)
    where
      by : (q ≡ k) ⊎ (q ≡ k → ⊥) → maps.get (maps.insert R.endpoints k (slice_record s)) q ≡ option_or (option_map slice_record (maps.get (maps.insert W.slices k s) q)) (maps.get W.plain.endpoints q)
      by (inl one) =
          let P : ItemKey → Type 0 = λ r. maps.get (maps.insert R.endpoints k (slice_record s)) r ≡ option_or (option_map slice_record (maps.get (maps.insert W.slices k s) r)) (maps.get W.plain.endpoints r) in
          subst P (sym one) (get-same item_total exact_item R.endpoints k (slice_record s) ∙ ap (λ (o : Option Slice). option_or (option_map slice_record o) (maps.get W.plain.endpoints k)) (sym (get-same item_total exact_item W.slices k s)))
      by (inr apart) =
          get-other item_total exact_item R.endpoints k (slice_record s) q apart
          ∙ (stands.endpoints q ∙ ap (λ (o : Option Slice). option_or (option_map slice_record o) (maps.get W.plain.endpoints q)) (sym (get-other item_total exact_item W.slices k s q apart)))

  slice-deleted : (k : ItemKey) → is_other_item k ≡ false → (q : ItemKey) → maps.get (maps.remove R.endpoints k) q ≡ option_or (option_map slice_record (maps.get (maps.remove W.slices k) q)) (maps.get W.plain.endpoints q)
  slice-deleted k marked q = by (alike_or_apart item_total exact_item q k)
    where
      by : (q ≡ k) ⊎ (q ≡ k → ⊥) → maps.get (maps.remove R.endpoints k) q ≡ option_or (option_map slice_record (maps.get (maps.remove W.slices k) q)) (maps.get W.plain.endpoints q)
      by (inl one) =
          let P : ItemKey → Type 0 = λ r. maps.get (maps.remove R.endpoints k) r ≡ option_or (option_map slice_record (maps.get (maps.remove W.slices k) r)) (maps.get W.plain.endpoints r) in
          subst P (sym one) (get-removed item_total exact_item R.endpoints k ∙ (λ i. option_or (option_map slice_record (sym (get-removed item_total exact_item W.slices k) i)) (sym (no_endpoint W R stands sound k marked) i)))
      by (inr apart) =
          get-left item_total exact_item R.endpoints k q apart
          ∙ (stands.endpoints q ∙ ap (λ (o : Option Slice). option_or (option_map slice_record o) (maps.get W.plain.endpoints q)) (sym (get-left item_total exact_item W.slices k q apart)))

  -- ---- updates

  abbrev StandOn : WrittenUpdate → Type 0
  StandOn u = StandsFor (after_written W u) (after R (lowered_written u))

  on-profile : (services : RuleServices) (name : List ℕ) (p : Profile) → StandOn (Resource services (update.Put (key.Profile name) (item.Profile p)))
  on-profile services name p = record {
    node = stands.node;
    in_sync = stands.in_sync;
    tiers = stands.tiers;
    net_sets = stands.net_sets;
    endpoints = stands.endpoints;
    profiles = put-on nat_list_cmp_total bytes_exact R.profiles W.plain.profiles (profile_of W.services) (profile_of (maps.insert W.services (key.Profile name) services)) stands.profiles name (lowered_profile services p) p
        (ap (λ s. lowered_profile s p) (put-here W.services (key.Profile name) services))
        (λ q apart. ap lowered_profile (put-apart W.services (key.Profile name) services (key.Profile q) (other_profile q name apart)));
    policies = policies-apart (maps.insert W.services (key.Profile name) services) (λ id. put-apart W.services (key.Profile name) services (key.Policy id) (λ e. cc));
  }

  on-policy : (services : RuleServices) (id : PolicyId) (p : Policy) → StandOn (Resource services (update.Put (key.Policy id) (item.Policy p)))
  on-policy services id p = record {
    node = stands.node;
    in_sync = stands.in_sync;
    tiers = stands.tiers;
    net_sets = stands.net_sets;
    endpoints = stands.endpoints;
    profiles = profiles-apart (maps.insert W.services (key.Policy id) services) (λ name. put-apart W.services (key.Policy id) services (key.Profile name) (λ e. cc));
    policies = put-on policy_total exact_policy R.policies W.plain.policies (policy_of W.services) (policy_of (maps.insert W.services (key.Policy id) services)) stands.policies id (lowered_policy services p) p
        (ap (λ s. lowered_policy s p) (put-here W.services (key.Policy id) services))
        (λ q apart. ap lowered_policy (put-apart W.services (key.Policy id) services (key.Policy q) (other_policy q id apart)));
  }

  -- a put of what has no rules
  on-put : (services : RuleServices) (k : Key) (x : Item) → is_formed_item k x ≡ true → is_other_key k ≡ true → StandOn (Resource services (update.Put k x))
  on-put services (key.Item (item_key.Endpoint ns name)) (item.Endpoint e) formed other = record {
    node = stands.node;
    in_sync = stands.in_sync;
    tiers = stands.tiers;
    net_sets = stands.net_sets;
    endpoints = endpoint-put (item_key.Endpoint ns name) e other;
    profiles = stands.profiles;
    policies = stands.policies;
  }
  on-put services (key.Item (item_key.NetSet ns name)) (item.Endpoint e) formed other = cc
  on-put services (key.Profile name) (item.Endpoint e) formed other = cc
  on-put services (key.Tier name) (item.Endpoint e) formed other = cc
  on-put services (key.Policy id) (item.Endpoint e) formed other = cc
  on-put services (key.Item (item_key.Endpoint ns name)) (item.Profile p) formed other = cc
  on-put services (key.Item (item_key.NetSet ns name)) (item.Profile p) formed other = cc
  on-put services (key.Profile name) (item.Profile p) formed other = on-profile services name p
  on-put services (key.Tier name) (item.Profile p) formed other = cc
  on-put services (key.Policy id) (item.Profile p) formed other = cc
  on-put services (key.Item (item_key.Endpoint ns name)) (item.Tier t) formed other = cc
  on-put services (key.Item (item_key.NetSet ns name)) (item.Tier t) formed other = cc
  on-put services (key.Profile name) (item.Tier t) formed other = cc
  on-put services (key.Tier name) (item.Tier t) formed other = record {
    node = stands.node;
    in_sync = stands.in_sync;
    tiers = ap (λ tiers. maps.insert tiers name t) stands.tiers;
    net_sets = stands.net_sets;
    endpoints = stands.endpoints;
    profiles = stands.profiles;
    policies = stands.policies;
  }
  on-put services (key.Policy id) (item.Tier t) formed other = cc
  on-put services (key.Item (item_key.Endpoint ns name)) (item.Policy p) formed other = cc
  on-put services (key.Item (item_key.NetSet ns name)) (item.Policy p) formed other = cc
  on-put services (key.Profile name) (item.Policy p) formed other = cc
  on-put services (key.Tier name) (item.Policy p) formed other = cc
  on-put services (key.Policy id) (item.Policy p) formed other = on-policy services id p
  on-put services (key.Item (item_key.Endpoint ns name)) (item.NetSet s) formed other = cc
  on-put services (key.Item (item_key.NetSet ns name)) (item.NetSet s) formed other = record {
    node = stands.node;
    in_sync = stands.in_sync;
    tiers = stands.tiers;
    net_sets = ap (λ sets. maps.insert sets (item_key.NetSet ns name) s) stands.net_sets;
    endpoints = stands.endpoints;
    profiles = stands.profiles;
    policies = stands.policies;
  }
  on-put services (key.Profile name) (item.NetSet s) formed other = cc
  on-put services (key.Tier name) (item.NetSet s) formed other = cc
  on-put services (key.Policy id) (item.NetSet s) formed other = cc

  -- profiles and policies after services at a key of neither are gone
  profiles-left : (k : Key) → ((name : List ℕ) → key.Profile name ≡ k → ⊥) → KeepProfiles (maps.remove W.services k)
  profiles-left k apart = profiles-apart (maps.remove W.services k) (λ name. removed-apart W.services k (key.Profile name) (apart name))

  policies-left : (k : Key) → ((id : PolicyId) → key.Policy id ≡ k → ⊥) → KeepPolicies (maps.remove W.services k)
  policies-left k apart = policies-apart (maps.remove W.services k) (λ id. removed-apart W.services k (key.Policy id) (apart id))

  on-delete : (services : RuleServices) (k : Key) → is_other_key k ≡ true → StandOn (Resource services (update.Delete k))
  on-delete services (key.Item (item_key.Endpoint ns name)) other =
      let k = key.Item (item_key.Endpoint ns name) in
      record {
        node = stands.node;
        in_sync = stands.in_sync;
        tiers = stands.tiers;
        net_sets = stands.net_sets;
        endpoints = endpoint-deleted (item_key.Endpoint ns name) other;
        profiles = profiles-left k (λ q e. cc);
        policies = policies-left k (λ q e. cc);
      }
  on-delete services (key.Item (item_key.NetSet ns name)) other =
      let k = key.Item (item_key.NetSet ns name) in
      record {
        node = stands.node;
        in_sync = stands.in_sync;
        tiers = stands.tiers;
        net_sets = ap (λ sets. maps.remove sets (item_key.NetSet ns name)) stands.net_sets;
        endpoints = stands.endpoints;
        profiles = profiles-left k (λ q e. cc);
        policies = policies-left k (λ q e. cc);
      }
  on-delete services (key.Profile name) other = record {
    node = stands.node;
    in_sync = stands.in_sync;
    tiers = stands.tiers;
    net_sets = stands.net_sets;
    endpoints = stands.endpoints;
    profiles = remove-on nat_list_cmp_total bytes_exact R.profiles W.plain.profiles (profile_of W.services) (profile_of (maps.remove W.services (key.Profile name))) stands.profiles name
        (λ q apart. ap lowered_profile (removed-apart W.services (key.Profile name) (key.Profile q) (other_profile q name apart)));
    policies = policies-left (key.Profile name) (λ q e. cc);
  }
  on-delete services (key.Tier name) other = record {
    node = stands.node;
    in_sync = stands.in_sync;
    tiers = ap (λ tiers. maps.remove tiers name) stands.tiers;
    net_sets = stands.net_sets;
    endpoints = stands.endpoints;
    profiles = profiles-left (key.Tier name) (λ q e. cc);
    policies = policies-left (key.Tier name) (λ q e. cc);
  }
  on-delete services (key.Policy id) other = record {
    node = stands.node;
    in_sync = stands.in_sync;
    tiers = stands.tiers;
    net_sets = stands.net_sets;
    endpoints = stands.endpoints;
    profiles = profiles-left (key.Policy id) (λ q e. cc);
    policies = remove-on policy_total exact_policy R.policies W.plain.policies (policy_of W.services) (policy_of (maps.remove W.services (key.Policy id))) stands.policies id
        (λ q apart. ap lowered_policy (removed-apart W.services (key.Policy id) (key.Policy q) (other_policy q id apart)));
  }

  stand-on : (u : WrittenUpdate) → is_sound_update u ≡ true → StandOn u
  stand-on (Resource services update.InSync) e = record {
    node = stands.node;
    in_sync = refl;
    tiers = stands.tiers;
    net_sets = stands.net_sets;
    endpoints = stands.endpoints;
    profiles = stands.profiles;
    policies = stands.policies;
  }
  stand-on (Resource services (update.Put k x)) e =
      let u = update.Put k x in
      let formed = first_of (is_formed u) (is_other_update u && is_lowerable_update services u) e in
      let others = first_of (is_other_update u) (is_lowerable_update services u) (second_of (is_formed u) (is_other_update u && is_lowerable_update services u) e) in
      on-put services k x (second_of (is_formed_key k) (is_formed_item k x) formed) (first_of (is_other_key k) (is_unmarked_item x) others)
  stand-on (Resource services (update.Delete k)) e =
      let u = update.Delete k in
      on-delete services k (first_of (is_other_update u) (is_lowerable_update services u) (second_of (is_formed u) (is_other_update u && is_lowerable_update services u) e))
  stand-on (PutSlice s) e = record {
    node = stands.node;
    in_sync = stands.in_sync;
    tiers = stands.tiers;
    net_sets = stands.net_sets;
    endpoints = slice-put (slice_item_key s.named) s;
    profiles = stands.profiles;
    policies = stands.policies;
  }
  stand-on (DeleteSlice named) e = record {
    node = stands.node;
    in_sync = stands.in_sync;
    tiers = stands.tiers;
    net_sets = stands.net_sets;
    endpoints = slice-deleted (slice_item_key named) refl;
    profiles = stands.profiles;
    policies = stands.policies;
  }

pub stand_on : RecordsStandOn
stand_on W R u stands sound e = stand-on W R stands sound u e
