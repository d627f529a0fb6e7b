-- Nodes without inputs, which told nothing, are those of no resources.
use Rattle.std.proofs.Common.{◌≡◌, inl, inr, ℕ, cond, List, ◌++◌, map as each, Option, Some, None, is_some, refl, sym, ap, ◌∙◌}
use Rattle.std.specs.Prelude.{option_map}
use Rattle.std.specs.declared.cmp.Ordering.{Ordering}
use Rattle.std.specs.List.{list_any, flat_map}
use Rattle.std.specs.Ordering.{nat_cmp}
use Rattle.std.specs.Cmp.Lexicographic.{slice_cmp}
use Rattle.std.specs.FinMap as map
use Rattle.fx_base.specs.Extended.{collected, filled}
use Rattle.fx_base.specs.Set as set
use Rattle.fx_base.proofs.Entries.{entries-empty}
use Rattle.fx_names.specs.Digests.{Digest}
use Rattle.fx_model.specs.contracts.ids.ItemKeyOrd.TheImpl as item_cmp
use Rattle.fx_model.specs.contracts.ids.PolicyIdOrd.TheImpl as policy_cmp
use Rattle.fx_model.specs.declared.ids.ItemKey.{ItemKey}
use Rattle.fx_model.specs.declared.ids.ItemKey.TheVariants as item_key
use Rattle.fx_model.specs.declared.ids.PolicyId.{PolicyId}
use Rattle.fx_model.specs.declared.policy.Policy.{Policy}
use Rattle.fx_model.specs.declared.resources.Item.TheVariants as item
use Rattle.fx_model.specs.declared.resources.Profile.{Profile}
use Rattle.fx_model.specs.declared.set_use.SetUse.{SetUse}
use Rattle.fx_model.specs.Pairs.{policy_pair_cmp}
use Rattle.fx_model.specs.Resources.{empty_resources}
use Rattle.fx_model.specs.Sets.{policy_uses}
use Rattle.fx_model.specs.Views.{policy_key, policy_entry, uses_if_there, empty_view}
use Rattle.fx_model.specs.Tests.{item_at}
use Rattle.fx_active.specs.Active.{is_in}
use Rattle.fx_graph_rules.specs.Composed.{acting, concerns, IsComposed}
use Rattle.fx_scanner.specs.Apart.{IsUsed}
use Rattle.fx_scanner.specs.Scanned.{profile_entry, use_entry, IsScanned}
use Rattle.fx_resolver.specs.Known.{known_policy}
use Rattle.fx_resolver.proofs.Resolving.{nothing_wanted}
use Rattle.fx_members.proofs.MemberLemmas.{none_used}
use Rattle.fx_node_laws.specs.Tied.{held_of, served_profiles, served_known, IsTied}
use Rattle.fx_node_laws.specs.Told.{IsTold}
use Rattle.fx_node_laws.specs.Empty.{no_items, no_rules, no_active, no_endpoints, no_sets}

-- nothing stands in an empty map
none_there : {K X A : Type 0} (R : K → K → Ordering) (k : K) (x : X) → map.get {R = R} map.empty k ≡ Some x → A
none_there R k x h = let wrong : None ≡ Some x = sym (map.get-empty R k) ∙ h in cc

abbrev by_items : ItemKey → ItemKey → Ordering
by_items = item_cmp.cmp-value.it

abbrev by_ids : PolicyId → PolicyId → Ordering
by_ids = policy_cmp.cmp-value.it

module _ (dg : Digest) where
  module _ (node : List ℕ) where
    no_item : (k : ItemKey) → None ≡ item_at (empty_resources node) k
    no_item (item_key.Endpoint ns name) = sym (ap (option_map item.Endpoint) (map.get-empty by_items (item_key.Endpoint ns name)))
    no_item (item_key.NetSet ns name) = sym (ap (option_map item.NetSet) (map.get-empty by_items (item_key.NetSet ns name)))

    pub tied_at_first : IsTied dg (empty_resources node) no_items no_rules no_endpoints no_sets
    tied_at_first = record {
      kinds_endpoints = λ k e h. none_there by_items k e h;
      kinds_sets = λ k s h. none_there by_items k s h;
      items = λ k. map.get-empty by_items k ∙ ap (held_of k) (no_item k);
      parents = λ name. map.get-empty (slice_cmp nat_cmp) name ∙ sym (ap (option_map (λ (p : Profile). p.labels)) (map.get-empty (slice_cmp nat_cmp) name));
      policies = refl;
      profiles = refl;
      endpoints = λ k. map.get-empty by_items k ∙ sym (ap (served_profiles (empty_resources node)) (map.get-empty by_items k));
      tiers = refl;
      locals = λ k. map.get-empty by_items k ∙ sym (ap (served_known dg (empty_resources node)) (map.get-empty by_items k));
      contributors = λ k. map.get-empty by_items k ∙ no_item k;
    }

  composed_at_first : IsComposed no_items no_rules map.empty map.empty set.empty
  composed_at_first = record {
    policies_are = λ id. map.get-empty by_ids id ∙ sym (ap (acting no_items map.empty) (map.get-empty by_ids id));
    profiles_are = λ name.
        map.get-empty (slice_cmp nat_cmp) name
        ∙ sym (ap (λ (es : List (ItemKey × List (List ℕ))). cond (list_any (λ e. is_in e.1 name) es) (Some (map.get {R = slice_cmp nat_cmp} map.empty name)) None) (entries-empty by_items));
    pairs_are = λ id i. ap is_some (map.get-empty policy_pair_cmp (id, i)) ∙ sym (ap (λ o. concerns no_items map.empty o i) (map.get-empty by_ids id));
  }

  unused : {A : Type 0} (u : SetUse) → IsUsed no_active u → A
  unused u (inl who) = none_there by_ids who.0 who.1.0 who.1.1.0
  unused u (inr who) = none_there (slice_cmp nat_cmp) who.0 (Some who.1.0) who.1.1.0

  scanned_at_first : IsScanned dg no_active map.empty map.empty map.empty
  scanned_at_first = record {
    policies_are = sym (ap (λ (xs : List (PolicyId × Policy)). collected (each (policy_entry dg) xs)) (entries-empty by_ids));
    profiles_are = sym (ap (λ (xs : List (List ℕ × Option Profile)). collected (each (profile_entry dg) xs)) (entries-empty (slice_cmp nat_cmp)));
    uses_are = λ j. filled map.empty (each (use_entry dg)
        (flat_map (λ (x : PolicyId × Policy). policy_uses x.1) (sym (entries-empty by_ids) j)
        ++ flat_map (λ (x : List ℕ × Option Profile). uses_if_there x.1) (sym (entries-empty (slice_cmp nat_cmp)) j)));
    apart = record {
      policies_apart = λ i j p q h k same. none_there by_ids i p h;
      profiles_apart = λ s t p q h k same. none_there (slice_cmp nat_cmp) s p h;
      uses_apart = λ u v h k same. unused u h;
    };
  }

  pub told_at_first : IsTold dg no_items no_rules map.empty map.empty set.empty no_active no_endpoints no_sets empty_view map.empty
  told_at_first = record {
    composed = composed_at_first;
    scanned_policies = refl;
    scanned_profiles = refl;
    scanned = scanned_at_first;
    known = λ id. map.get-empty by_ids id ∙ sym (ap (option_map (known_policy (policy_key dg id))) (map.get-empty by_ids id));
    paired = refl;
    resolved = nothing_wanted no_endpoints refl;
    used = refl;
    matched = λ name u h i. none_there (slice_cmp nat_cmp) name u h;
    members_are = none_used no_sets refl;
  }
