-- What the active rules told is what the resources define.
use Rattle.std.proofs.Common.{◌≡◌, ℕ, Bool, true, false, cond, ◌&&◌, ◌||◌, List, [], ◌∷◌, Option, Some, None, is_some, refl, sym, ap, ◌∙◌}
use Rattle.std.specs.Ordering.{nat_cmp, eq_by_cmp}
use Rattle.std.specs.List.{list_any}
use Rattle.std.specs.Str.{bytes_eq}
use Rattle.std.specs.Cmp.{eq_by_cmp_equiv}
use Rattle.std.specs.Cmp.Lexicographic.{slice_cmp, nat_list_cmp_total, texts_ties}
use Rattle.std.specs.FinMap as map
use Rattle.fx_base.proofs.AnyIn.{same_truth, any_key, any_from_key}
use Rattle.fx_names.specs.Digests.{Digest}
use Rattle.fx_selector.specs.Truth.{holds}
use Rattle.fx_model.proofs.Orders.{item_total, exact_item, policy_total, exact_policy}
use Rattle.fx_model.specs.declared.ids.ItemKey.{ItemKey}
use Rattle.fx_model.specs.declared.ids.PolicyId.{PolicyId}
use Rattle.fx_model.specs.declared.policy.Policy.{Policy}
use Rattle.fx_model.specs.declared.resources.Endpoint.{Endpoint}
use Rattle.fx_model.specs.declared.resources.Item.TheVariants as item
use Rattle.fx_model.specs.declared.resources.Resources.{Resources}
use Rattle.fx_model.specs.Active.{has_types, is_active, active_policies}
use Rattle.fx_model.specs.Labels.{effective_labels, of_endpoint}
use Rattle.fx_model.specs.Pairs.{PolicyPairs}
use Rattle.fx_model.specs.Resources.{is_served, served_endpoints}
use Rattle.fx_model.specs.Sinks.{Policies, Profiles}
use Rattle.fx_model.specs.Views.{is_active_profile}
use Rattle.fx_label_index.specs.declared.held.Inputs as index
use Rattle.fx_active.specs.declared.inputs.Inputs as active
use Rattle.fx_active.specs.Active.{is_in, is_listed}
use Rattle.fx_graph_rules.specs.Composed.{holds_at, acting, concerns, IsComposed}
use Rattle.fx_resolver.specs.declared.inputs.Inputs as resolver
use Rattle.fx_members.specs.declared.inputs.Inputs as members
use Rattle.fx_node_laws.specs.Tied.{served_profiles, IsTied}
use Rattle.fx_node_laws.specs.Defined.{is_paired, IsDefined}
use Rattle.fx_node_laws.proofs.Items.{endpoint_item, holds_item}
use Rattle.fx_node_laws.proofs.Mapped.{value_at, kept, entries_mapped, mapped-kept, same_each}
use Rattle.fx_node_laws.proofs.SomeEntry.{any-flat_map, found_entry, from_entry, found_any, from_any}

-- ---- tests

any_and : {A : Type 0} (c : Bool) (f : A → Bool) (xs : List A) → list_any (λ x. c && f x) xs ≡ (c && list_any f xs)
any_and true f xs = refl
any_and false f [] = refl
any_and false f (x ∷ xs) = any_and false f xs

any_alike : {A : Type 0} (f g : A → Bool) → ((x : A) → f x ≡ g x) → (xs : List A) → list_any f xs ≡ list_any g xs
any_alike f g same xs = λ j. list_any (λ x. same x j) xs

spread : (h a b : Bool) → ((h && a) || (h && b)) ≡ ((a || b) && h)
spread true true b = refl
spread true false true = refl
spread true false false = refl
spread false true b = refl
spread false false true = refl
spread false false false = refl

exchange : (a b s h : Bool) → ((a || b) && (s && h)) ≡ (s && ((h && a) || (h && b)))
exchange true b true true = refl
exchange true b true false = refl
exchange true b false h = refl
exchange false true true true = refl
exchange false true true false = refl
exchange false true false h = refl
exchange false false true true = refl
exchange false false true false = refl
exchange false false false h = refl

never : (a h : Bool) → (a && (false && h)) ≡ false
never true h = refl
never false h = refl

-- a name among some, by either test
same_names : (name : List ℕ) (names : List (List ℕ)) → is_in names name ≡ list_any (eq_by_cmp (slice_cmp nat_cmp) name) names
same_names name names = any_alike (λ q. bytes_eq q name) (eq_by_cmp (slice_cmp nat_cmp) name) (λ q. texts_ties q name ∙ (eq_by_cmp_equiv nat_list_cmp_total).symm q name) names

-- ---- endpoints that are served

module _ (R : Resources) where
  served_case : (o : Option Endpoint) → is_some (served_profiles R o) ≡ true → (e : Endpoint) × ((o ≡ Some e) × (is_served R e ≡ true))
  served_case None h = cc
  served_case (Some e) h = elim (is_served R e) as (λ b. is_served R e ≡ b → is_some (cond b (Some e.profiles) None) ≡ true → (d : Endpoint) × ((Some e ≡ Some d) × (is_served R d ≡ true))) [
    | true ↦ λ p _. (e, (refl, p))
    | false ↦ λ p q. cc
  ] refl h

  is_some_served : (e : Endpoint) → is_some (served_profiles R (Some e)) ≡ is_served R e
  is_some_served e = elim (is_served R e) as (λ b. is_some (cond b (Some e.profiles) None) ≡ b) [ true ↦ refl | false ↦ refl ]

  listed_names : (o : Option Endpoint) (names : List (List ℕ)) → served_profiles R o ≡ Some names → (e : Endpoint) × ((o ≡ Some e) × ((is_served R e ≡ true) × (e.profiles ≡ names)))
  listed_names None names h = cc
  listed_names (Some e) names h = elim (is_served R e) as (λ b. is_served R e ≡ b → cond b (Some e.profiles) None ≡ Some names → (d : Endpoint) × ((Some e ≡ Some d) × ((is_served R d ≡ true) × (d.profiles ≡ names)))) [
    | true ↦ λ p q. let same : e.profiles ≡ names = cc in (e, (refl, (p, same)))
    | false ↦ λ p q. cc
  ] refl h

module _ {dg : Digest} {R : Resources} {n : index.Inputs} {a : active.Inputs} {r : resolver.Inputs} {m : members.Inputs} (tied : IsTied dg R n a r m) where
  abbrev own_labels : Policy → Endpoint → Bool
  own_labels p e = holds p.selector (effective_labels R (of_endpoint e))

  holds_there : (p : Policy) (k : ItemKey) (e : Endpoint) → map.get R.endpoints k ≡ Some e → holds_at n p.selector k ≡ own_labels p e
  holds_there p k e h = holds_item tied p.selector k (item.Endpoint e) (endpoint_item tied k e h)

  any_served : (f : Endpoint → Bool) (g : ItemKey → Bool) → ((k : ItemKey) (e : Endpoint) → map.get R.endpoints k ≡ Some e → g k ≡ f e) → list_any g (map.keys a.endpoints) ≡ list_any (λ x. f x.1) (served_endpoints R)
  any_served f g same = same_truth _ _
      (λ h. let x = any_key item_total exact_item g a.endpoints h in
      let d = served_case R (map.get R.endpoints x.0) (ap is_some (sym (tied.endpoints x.0)) ∙ x.1.1) in
      from_entry item_total exact_item R.endpoints (λ x. is_served R x.1) (λ x. f x.1) x.0 d.0 d.1.0 d.1.1 (sym (same x.0 d.0 d.1.0) ∙ x.1.0))
      (λ h. let x = found_entry item_total exact_item R.endpoints (λ x. is_served R x.1) (λ x. f x.1) h in
      any_from_key item_total exact_item g a.endpoints x.0.0 (same x.0.0 x.0.1 x.1.0 ∙ x.1.1.1)
      (ap is_some (tied.endpoints x.0.0 ∙ ap (served_profiles R) x.1.0) ∙ is_some_served R x.0.1 ∙ x.1.1.0))

  -- ---- policies

  active_is : (p : Policy) → (has_types p && list_any (λ i. holds_at n p.selector i) (map.keys a.endpoints)) ≡ is_active R p
  active_is p =
      ap (λ b. has_types p && b) (any_served (own_labels p) (λ i. holds_at n p.selector i) (λ k e h. holds_there p k e h))
      ∙ sym (any_and (has_types p) (λ x. own_labels p x.1) (served_endpoints R))
      ∙ (λ j. list_any (λ x. sym (spread (own_labels p x.1) p.on_ingress p.on_egress) j) (served_endpoints R))

  policy_is : (id : PolicyId) (o : Option Policy) → acting n a.endpoints o ≡ value_at (kept (λ _ p. is_active R p) (λ _ p. p)) id o
  policy_is id None = refl
  policy_is id (Some p) = ap (λ b. cond b (Some p) None) (active_is p)

  pub policies_are : (policies : Policies) → ((id : PolicyId) → map.get policies id ≡ acting n a.endpoints (map.get a.policies id)) → map.entries policies ≡ active_policies R
  policies_are policies are =
      entries_mapped policy_total exact_policy (kept (λ _ p. is_active R p) (λ _ p. p)) R.policies policies
      (λ id. are id ∙ ap (λ (ps : Policies). acting n a.endpoints (map.get ps id)) tied.policies ∙ policy_is id (map.get R.policies id))
      ∙ mapped-kept (λ _ p. is_active R p) (λ _ p. p) (map.entries R.policies)
      ∙ same_each (active_policies R)

  -- ---- pairs

  pair_at : (p : Policy) (i : ItemKey) (o : Option Endpoint) → map.get R.endpoints i ≡ o → (has_types p && (is_some (served_profiles R o) && holds_at n p.selector i)) ≡ is_paired R (Some p) o
  pair_at p i None h = never (has_types p) (holds_at n p.selector i)
  pair_at p i (Some e) h =
      (λ j. has_types p && (is_some_served R e j && holds_there p i e h j))
      ∙ exchange p.on_ingress p.on_egress (is_served R e) (own_labels p e)

  pair_is : (o : Option Policy) (i : ItemKey) → concerns n a.endpoints o i ≡ is_paired R o (map.get R.endpoints i)
  pair_is None i = refl
  pair_is (Some p) i = ap (λ b. has_types p && (b && holds_at n p.selector i)) (ap is_some (tied.endpoints i)) ∙ pair_at p i (map.get R.endpoints i) refl

  -- ---- profiles

  listed_is : (name : List ℕ) → is_listed a.endpoints name ≡ list_any (λ x. is_in x.1.profiles name) (served_endpoints R)
  listed_is name = same_truth _ _
      (λ h. let x = found_any item_total exact_item a.endpoints (λ x. is_in x.1 name) h in
      let d = listed_names R (map.get R.endpoints x.0.0) x.0.1 (sym (tied.endpoints x.0.0) ∙ x.1.0) in
      from_entry item_total exact_item R.endpoints (λ x. is_served R x.1) (λ x. is_in x.1.profiles name) x.0.0 d.0 d.1.0 d.1.1.0 (ap (λ ns. is_in ns name) d.1.1.1 ∙ x.1.1))
      (λ h. let x = found_entry item_total exact_item R.endpoints (λ x. is_served R x.1) (λ x. is_in x.1.profiles name) h in
      from_any item_total exact_item a.endpoints (λ x. is_in x.1 name) x.0.0 x.0.1.profiles
      (tied.endpoints x.0.0 ∙ ap (served_profiles R) x.1.0 ∙ ap (λ b. cond b (Some x.0.1.profiles) None) x.1.1.0) x.1.1.1)

  profile_is : (name : List ℕ) → is_listed a.endpoints name ≡ is_active_profile R name
  profile_is name =
      listed_is name
      ∙ any_alike (λ (x : ItemKey × Endpoint). is_in x.1.profiles name) (λ x. list_any (eq_by_cmp (slice_cmp nat_cmp) name) x.1.profiles) (λ x. same_names name x.1.profiles) (served_endpoints R)
      ∙ sym (any-flat_map (eq_by_cmp (slice_cmp nat_cmp) name) (λ (x : ItemKey × Endpoint). x.1.profiles) (served_endpoints R))

  pub defined : (policies : Policies) (profiles : Profiles) (pairs : PolicyPairs) → IsComposed n a policies profiles pairs → IsDefined R policies profiles pairs
  defined policies profiles pairs c = record {
    policies_are = policies_are policies c.policies_are;
    profiles_are = λ name. c.profiles_are name ∙ (λ j. cond (profile_is name j) (Some (map.get (tied.profiles j) name)) None);
    pairs_are = λ id i. c.pairs_are id i ∙ ap (λ (ps : Policies). concerns n a.endpoints (map.get ps id) i) tied.policies ∙ pair_is (map.get R.policies id) i;
  }
