-- Formed resources stay so, and have a formed view; and so do those whose local endpoints stand on interfaces of workloads.
use Rattle.std.proofs.Common.{◌≡◌, ℕ, Bool, true, false, ◌&&◌, List, [], ◌∷◌, map, cond, Some, refl, sym, ap, ◌∙◌}
use Rattle.std.specs.Prelude.{filter}
use Rattle.std.specs.List.{list_all}
use Rattle.std.specs.Cmp.Lexicographic.{nat_list_cmp_total}
use Rattle.std.specs.FinMap as maps
use Rattle.fx_base.specs.Same.{both_pass}
use Rattle.fx_base.proofs.KeyCases.{bytes_exact}
use Rattle.fx_base.proofs.AllEntries.{all-insert, all-collected}
use Rattle.fx_model.specs.declared.ids.ItemKey.{ItemKey}
use Rattle.fx_model.specs.declared.ids.ItemKey.TheVariants as kind
use Rattle.fx_model.specs.declared.ids.Key.{Key}
use Rattle.fx_model.specs.declared.ids.Key.TheVariants as key
use Rattle.fx_model.specs.declared.resources.Endpoint.{Endpoint}
use Rattle.fx_model.specs.declared.resources.Item.TheVariants as item
use Rattle.fx_model.specs.declared.resources.Update.{Update}
use Rattle.fx_model.specs.declared.resources.Update.TheVariants as update
use Rattle.fx_model.specs.declared.resources.Resources.{Resources}
use Rattle.fx_model.specs.declared.view.View.{View}
use Rattle.fx_model.specs.declared.view.ViewEndpoint.{ViewEndpoint}
use Rattle.fx_model.specs.Policy.{is_workload}
use Rattle.fx_model.specs.Resources.{after, put_endpoint, put_profile, put_tier, put_policy, put_net_set, is_local, is_served, served_endpoints}
use Rattle.fx_names.specs.Digests.{Digest}
use Rattle.fx_model.specs.Views.{view_of, profile_entry, endpoint_entry, profile_key, active_profiles}
use Rattle.fx_model.specs.Formed.{implies, is_formed_namespace, is_formed_item_key, is_formed, are_formed, is_formed_endpoint, is_formed_endpoint_entry, is_formed_policy_entry, has_workload_interface, puts_workload_interface, have_workload_interfaces, has_workload_interfaces, is_formed_profile_key, is_formed_profile, is_formed_view, is_formed_view_endpoint, is_formed_view_profile}
use Rattle.fx_laws.proofs.Keys.{profile_key_fits}
use Rattle.fx_model.proofs.Orders.{item_total, exact_item, policy_total, exact_policy}
use Rattle.fx_laws.proofs.Removing.{both, found_passes, all-remove}

pub not_formed : {A : Type 0} (a : Bool) → (a && false) ≡ true → A
not_formed true e = cc
not_formed false e = cc

module _ (R : Resources) (was : are_formed R ≡ true) where
  pub endpoints_formed : list_all is_formed_endpoint_entry (maps.entries R.endpoints) ≡ true
  endpoints_formed = (both_pass _ _ was).0

  others_formed : (list_all (λ x. is_formed_profile x.1) (maps.entries R.profiles) ≡ true) × (list_all is_formed_policy_entry (maps.entries R.policies) ≡ true)
  others_formed = both_pass _ _ (both_pass _ _ was).1

  pub profiles_formed : list_all (λ x. is_formed_profile x.1) (maps.entries R.profiles) ≡ true
  profiles_formed = others_formed.0

  pub policies_formed : list_all is_formed_policy_entry (maps.entries R.policies) ≡ true
  policies_formed = others_formed.1

  -- a formed update leaves formed resources
  pub are_formed-after : (u : Update) → is_formed u ≡ true → are_formed (after R u) ≡ true
  are_formed-after update.InSync is = was
  are_formed-after (update.Put k (item.Endpoint e)) is = at_key k is
    where
      at_key : (k : Key) → is_formed (update.Put k (item.Endpoint e)) ≡ true → are_formed (put_endpoint R k e) ≡ true
      at_key (key.Item (kind.Endpoint ns name)) is = both _ _ (all-insert exact_item is_formed_endpoint_entry item_total R.endpoints (kind.Endpoint ns name) e is endpoints_formed) (both _ _ profiles_formed policies_formed)
      at_key (key.Item (kind.NetSet ns name)) is = was
      at_key (key.Profile name) is = was
      at_key (key.Tier name) is = was
      at_key (key.Policy id) is = was
  are_formed-after (update.Put k (item.Profile p)) is = at_key k is
    where
      at_key : (k : Key) → is_formed (update.Put k (item.Profile p)) ≡ true → are_formed (put_profile R k p) ≡ true
      at_key (key.Item k) is = was
      at_key (key.Profile name) is = both _ _ endpoints_formed (both _ _ (all-insert bytes_exact (λ x. is_formed_profile x.1) nat_list_cmp_total R.profiles name p is profiles_formed) policies_formed)
      at_key (key.Tier name) is = was
      at_key (key.Policy id) is = was
  are_formed-after (update.Put k (item.Tier t)) is = at_key k
    where
      at_key : (k : Key) → are_formed (put_tier R k t) ≡ true
      at_key (key.Item k) = was
      at_key (key.Profile name) = was
      at_key (key.Tier name) = was
      at_key (key.Policy id) = was
  are_formed-after (update.Put k (item.Policy p)) is = at_key k is
    where
      at_key : (k : Key) → is_formed (update.Put k (item.Policy p)) ≡ true → are_formed (put_policy R k p) ≡ true
      at_key (key.Item k) is = was
      at_key (key.Profile name) is = was
      at_key (key.Tier name) is = was
      at_key (key.Policy id) is = both _ _ endpoints_formed (both _ _ profiles_formed (all-insert exact_policy is_formed_policy_entry policy_total R.policies id p is policies_formed))
  are_formed-after (update.Put k (item.NetSet s)) is = at_key k
    where
      at_key : (k : Key) → are_formed (put_net_set R k s) ≡ true
      at_key (key.Item (kind.Endpoint ns name)) = was
      at_key (key.Item (kind.NetSet ns name)) = was
      at_key (key.Profile name) = was
      at_key (key.Tier name) = was
      at_key (key.Policy id) = was
  are_formed-after (update.Delete (key.Item (kind.Endpoint ns name))) is =
      both _ _ (all-remove item_total exact_item is_formed_endpoint_entry R.endpoints (kind.Endpoint ns name) endpoints_formed) (both _ _ profiles_formed policies_formed)
  are_formed-after (update.Delete (key.Item (kind.NetSet ns name))) is = was
  are_formed-after (update.Delete (key.Profile name)) is = both _ _ endpoints_formed (both _ _ (all-remove nat_list_cmp_total bytes_exact (λ x. is_formed_profile x.1) R.profiles name profiles_formed) policies_formed)
  are_formed-after (update.Delete (key.Tier name)) is = was
  are_formed-after (update.Delete (key.Policy id)) is = both _ _ endpoints_formed (both _ _ profiles_formed (all-remove policy_total exact_policy is_formed_policy_entry R.policies id policies_formed))

-- an update that puts no local endpoint on another interface leaves none there
pub have_workload_interfaces-after : (R : Resources) → have_workload_interfaces R ≡ true → (u : Update) → puts_workload_interface R.node u ≡ true → have_workload_interfaces (after R u) ≡ true
have_workload_interfaces-after R was update.InSync is = was
have_workload_interfaces-after R was (update.Put k (item.Endpoint e)) is = at_key k
  where
    at_key : (k : Key) → have_workload_interfaces (put_endpoint R k e) ≡ true
    at_key (key.Item (kind.Endpoint ns name)) = all-insert exact_item (λ x. has_workload_interface R.node x.1) item_total R.endpoints (kind.Endpoint ns name) e is was
    at_key (key.Item (kind.NetSet ns name)) = was
    at_key (key.Profile name) = was
    at_key (key.Tier name) = was
    at_key (key.Policy id) = was
have_workload_interfaces-after R was (update.Put k (item.Profile p)) is = at_key k
  where
    at_key : (k : Key) → have_workload_interfaces (put_profile R k p) ≡ true
    at_key (key.Item k) = was
    at_key (key.Profile name) = was
    at_key (key.Tier name) = was
    at_key (key.Policy id) = was
have_workload_interfaces-after R was (update.Put k (item.Tier t)) is = at_key k
  where
    at_key : (k : Key) → have_workload_interfaces (put_tier R k t) ≡ true
    at_key (key.Item k) = was
    at_key (key.Profile name) = was
    at_key (key.Tier name) = was
    at_key (key.Policy id) = was
have_workload_interfaces-after R was (update.Put k (item.Policy p)) is = at_key k
  where
    at_key : (k : Key) → have_workload_interfaces (put_policy R k p) ≡ true
    at_key (key.Item k) = was
    at_key (key.Profile name) = was
    at_key (key.Tier name) = was
    at_key (key.Policy id) = was
have_workload_interfaces-after R was (update.Put k (item.NetSet s)) is = at_key k
  where
    at_key : (k : Key) → have_workload_interfaces (put_net_set R k s) ≡ true
    at_key (key.Item (kind.Endpoint ns name)) = was
    at_key (key.Item (kind.NetSet ns name)) = was
    at_key (key.Profile name) = was
    at_key (key.Tier name) = was
    at_key (key.Policy id) = was
have_workload_interfaces-after R was (update.Delete (key.Item (kind.Endpoint ns name))) is =
    all-remove item_total exact_item (λ x. has_workload_interface R.node x.1) R.endpoints (kind.Endpoint ns name) was
have_workload_interfaces-after R was (update.Delete (key.Item (kind.NetSet ns name))) is = was
have_workload_interfaces-after R was (update.Delete (key.Profile name)) is = was
have_workload_interfaces-after R was (update.Delete (key.Tier name)) is = was
have_workload_interfaces-after R was (update.Delete (key.Policy id)) is = was

module _ (dg : Digest) where
  -- each key fits behind its prefix
  keys-map : (names : List (List ℕ)) → list_all is_formed_profile_key (map (profile_key dg) names) ≡ true
  keys-map [] = refl
  keys-map (name ∷ names) = both _ _ (profile_key_fits dg name) (keys-map names)

  module _ (R : Resources) where
    profile_entries : (names : List (List ℕ)) → list_all is_formed_view_profile (map (profile_entry dg R) names) ≡ true
    profile_entries [] = refl
    profile_entries (name ∷ names) = both _ _ (profile_key_fits dg name) (profile_entries names)

    entry_formed : (x : ItemKey × Endpoint) → is_formed_endpoint_entry x ≡ true → is_formed_view_endpoint (endpoint_entry dg R x) ≡ true
    entry_formed (kind.Endpoint ns name, e) is = both _ _ (both_pass (is_formed_namespace ns) (is_formed_endpoint e) is).1 (keys-map e.profiles)
    entry_formed (kind.NetSet ns name, e) is = not_formed (is_formed_item_key (kind.NetSet ns name)) is

    served_entries : (es : List (ItemKey × Endpoint)) → list_all is_formed_endpoint_entry es ≡ true → list_all is_formed_view_endpoint (map (endpoint_entry dg R) (filter (λ x. is_served R x.1) es)) ≡ true
    served_entries [] all = refl
    served_entries (x ∷ es) all =
        let h = both_pass (is_formed_endpoint_entry x) (list_all is_formed_endpoint_entry es) all in
        elim (is_served R x.1) as (λ b. list_all is_formed_view_endpoint (map (endpoint_entry dg R) (cond b (x ∷ filter (λ y. is_served R y.1) es) (filter (λ y. is_served R y.1) es))) ≡ true) [
          | true ↦ both _ _ (entry_formed x h.0) (served_entries es h.1)
          | false ↦ served_entries es h.1
        ]

    pub is_formed_view-view_of : are_formed R ≡ true → is_formed_view (view_of dg R) ≡ true
    is_formed_view-view_of was = both _ _
        (all-collected bytes_exact is_formed_view_endpoint nat_list_cmp_total (map (endpoint_entry dg R) (served_endpoints R)) (served_entries (maps.entries R.endpoints) (endpoints_formed R was)))
        (all-collected bytes_exact is_formed_view_profile nat_list_cmp_total (map (profile_entry dg R) (active_profiles R)) (profile_entries (active_profiles R)))

    -- an endpoint that is served is local
    served_workload : (e : Endpoint) → is_served R e ≡ true → has_workload_interface R.node e ≡ true → is_workload e.iface ≡ true
    served_workload e served h = ap (λ b. implies b (is_workload e.iface)) (sym (both_pass R.in_sync (is_local R e) served).1) ∙ h

    workload_entries : (es : List (ItemKey × Endpoint)) → list_all (λ x. has_workload_interface R.node x.1) es ≡ true → list_all (λ x. is_workload x.0) (map (endpoint_entry dg R) (filter (λ x. is_served R x.1) es)) ≡ true
    workload_entries [] all = refl
    workload_entries (x ∷ es) all =
        let h = both_pass (has_workload_interface R.node x.1) (list_all (λ (y : ItemKey × Endpoint). has_workload_interface R.node y.1) es) all in
        let left = filter (λ (y : ItemKey × Endpoint). is_served R y.1) es in
        elim (is_served R x.1) as (λ b. is_served R x.1 ≡ b → list_all (λ (y : List ℕ × ViewEndpoint). is_workload y.0) (map (endpoint_entry dg R) (cond b (x ∷ left) left)) ≡ true) [
          | true ↦ λ served. both _ _ (served_workload x.1 served h.0) (workload_entries es h.1)
          | false ↦ λ served. workload_entries es h.1
        ] refl

    pub has_workload_interfaces-view_of : have_workload_interfaces R ≡ true → has_workload_interfaces (view_of dg R) ≡ true
    has_workload_interfaces-view_of was =
        all-collected bytes_exact (λ (x : List ℕ × ViewEndpoint). is_workload x.0) nat_list_cmp_total (map (endpoint_entry dg R) (served_endpoints R)) (workload_entries (maps.entries R.endpoints) was)

-- the same, endpoint by endpoint
pub on_workloads : (v : View) → has_workload_interfaces v ≡ true → (iface : List ℕ) (e : ViewEndpoint) → maps.get v.endpoints iface ≡ Some e → is_workload iface ≡ true
on_workloads v h = λ iface e is. found_passes nat_list_cmp_total bytes_exact (λ (x : List ℕ × ViewEndpoint). is_workload x.0) v.endpoints h iface e is
