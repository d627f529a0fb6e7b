-- Lists that have what is to stand at each place are those of the policies that apply, so the rows made from them are those that
-- are wanted.
use Rattle.std.proofs.Common.{◌≡◌, ℕ, Bool, true, false, cond, ◌&&◌, List, [], ◌∷◌, map, filter, Option, Some, None, unwrap_or, T, refl, sym, ap, ◌∙◌}
use Rattle.std.specs.declared.cmp.Ordering.TheVariants.{Less, Equal, Greater}
use Rattle.std.specs.Ordering.{is_eq}
use Rattle.std.specs.Cmp.Lexicographic.{nat_list_cmp_total}
use Rattle.std.specs.FinMap as maps
use Rattle.fx_base.specs.Extended.{extended, collected}
use Rattle.fx_base.specs.Set as set
use Rattle.fx_base.specs.Grouped.{same_text}
use Rattle.fx_base.proofs.AtKey.{get_insert, get_remove}
use Rattle.fx_base.proofs.Entries.{entries-empty}
use Rattle.fx_model.specs.Messages.{Named}
use Rattle.fx_model.specs.Pairs.{policy_pair_cmp}
use Rattle.fx_model.specs.declared.ids.ItemKey.{ItemKey}
use Rattle.fx_model.specs.declared.ids.PolicyId.{PolicyId}
use Rattle.fx_model.specs.declared.policy.Tier.{Tier}
use Rattle.fx_model.specs.declared.tier_order.TierStand.{TierStand}
use Rattle.fx_model.specs.declared.tier_order.PolicyPlace.{PolicyPlace}
use Rattle.fx_model.specs.declared.view.ViewEndpoint.{ViewEndpoint}
use Rattle.fx_model.specs.contracts.ids.ItemKeyOrd.TheImpl as item_cmp
use Rattle.fx_model.specs.contracts.ids.PolicyIdOrd.TheImpl as policy_cmp
use Rattle.fx_model.specs.contracts.tier_order.PolicyPlaceOrd.TheImpl as place_cmp
use Rattle.fx_model.specs.Directions.{Direction, Ingress, Egress}
use Rattle.fx_model.specs.TierOrder.{Tiers, order_of, tier_stand, policy_place, tier_by_tier, view_tier}
use Rattle.fx_model.proofs.Orders.{policy_total, exact_policy, place_total, exact_place}
use Rattle.fx_resolver.specs.declared.inputs.Inputs.{Inputs}
use Rattle.fx_resolver.specs.declared.known.KnownEndpoint.{KnownEndpoint}
use Rattle.fx_resolver.specs.declared.known.KnownPolicy.{KnownPolicy}
use Rattle.fx_resolver.specs.declared.rows.Rows.{Rows}
use Rattle.fx_resolver.specs.declared.state.State.{State}
use Rattle.fx_resolver.specs.Indexes.{same_id}
use Rattle.fx_resolver.specs.Kept.{IsKept, IsKeptState}
use Rattle.fx_resolver.specs.Known.{KnownPolicies}
use Rattle.fx_resolver.specs.Lists.{AllLists, AreLists, Keys, no_lists, item_lists, list_of, row_in}
use Rattle.fx_resolver.specs.Placed.{TierStands, same_place, stands_of, with_stand, placed, shown, at_place}
use Rattle.fx_resolver.specs.Resolved.{is_on, applies_to, key_in_place, keys_for, endpoint_row, endpoint_entry, wanted_endpoints, IsResolved}
use Rattle.fx_resolver.specs.Rows.{rows_by}
use Rattle.fx_resolver.proofs.Moves.{over, some_over, unless_id}
use Rattle.fx_resolver.proofs.RowLemmas.{rows_same}
use Rattle.fx_base.proofs.Cases.{none_some}
use Rattle.fx_base.proofs.Keyed.{one_key}
use Rattle.fx_base.proofs.Sorted.{gone, rest_sorted}

no_key : (b : Bool) → ◌≡◌ {A = Option (List ℕ)} (cond b None None) None
no_key true = refl
no_key false = refl

module _ (n : Inputs) (d : Direction) (i : ItemKey) where
  -- what this value of a policy puts at a place
  abbrev value_at : PolicyPlace → Option KnownPolicy → Option (List ℕ)
  value_at q o = cond (set.contains n.pairs (q.id, i)) (shown d (placed (stands_of n.tiers) q.id o) q) None

  -- the place of an entry, as the policy of this id would have it
  abbrev place_of : PolicyId → KnownPolicy → PolicyPlace
  place_of id p = policy_place (tier_stand (maps.get n.tiers p.tier)) p.tier p.order id

  -- one entry more, if it applies
  abbrev one_more : Keys → PolicyId × KnownPolicy → Keys
  one_more m e = cond (applies_to n d i e) (maps.insert m (place_of e.0 e.1) e.1.key) m

  on_same : (q : PolicyPlace) (id : PolicyId) (p : KnownPolicy) → shown d (placed (stands_of n.tiers) id (Some p)) q ≡ cond (is_on d p && same_place q (place_of id p)) (Some p.key) None
  on_same q id p = by_direction d
    where
      by_direction : (c : Direction) → shown c (placed (stands_of n.tiers) id (Some p)) q ≡ cond (is_on c p && same_place q (place_of id p)) (Some p.key) None
      by_direction Ingress = refl
      by_direction Egress = refl

  own_value : (q : PolicyPlace) (e : PolicyId × KnownPolicy) → same_id q.id e.0 ≡ true → value_at q (Some e.1) ≡ cond (set.contains n.pairs (e.0, i)) (cond (is_on d e.1 && same_place q (place_of e.0 e.1)) (Some e.1.key) None) None
  own_value q e h =
      ap (λ (id : PolicyId). cond (set.contains n.pairs (id, i)) (shown d (placed (stands_of n.tiers) id (Some e.1)) q) None) (one_key exact_policy q.id e.0 h)
      ∙ ap (λ o. cond (set.contains n.pairs (e.0, i)) o None) (on_same q e.0 e.1)

  get_one : (m : Keys) (q : PolicyPlace) (e : PolicyId × KnownPolicy) → maps.get (one_more m e) q ≡ over (cond (same_id q.id e.0) (value_at q (Some e.1)) None) (maps.get m q)
  get_one m q e =
      elim (same_id q.id e.0) as (λ b. same_id q.id e.0 ≡ b → maps.get (one_more m e) q ≡ over (cond b (value_at q (Some e.1)) None) (maps.get m q)) [
        | true ↦ λ h. put_if (is_on d e.1) (set.contains n.pairs (e.0, i)) ∙ ap (λ o. over o (maps.get m q)) (sym (own_value q e h))
        | false ↦ λ h. passed (applies_to n d i e) (unless_id q (place_of e.0 e.1) h)
      ] refl
    where
      put_if : (on pair : Bool) → maps.get (cond (on && pair) (maps.insert m (place_of e.0 e.1) e.1.key) m) q ≡ over (cond pair (cond (on && same_place q (place_of e.0 e.1)) (Some e.1.key) None) None) (maps.get m q)
      put_if true true = maps.get-insert place_total m (place_of e.0 e.1) e.1.key q ∙ some_over (same_place q (place_of e.0 e.1)) e.1.key (maps.get m q)
      put_if true false = refl
      put_if false true = refl
      put_if false false = refl

      passed : (b : Bool) → same_place q (place_of e.0 e.1) ≡ false → maps.get (cond b (maps.insert m (place_of e.0 e.1) e.1.key) m) q ≡ maps.get m q
      passed true other = maps.get-insert place_total m (place_of e.0 e.1) e.1.key q ∙ ap (λ c. cond c (Some e.1.key) (maps.get m q)) other
      passed false other = refl

  no_value : (q : PolicyPlace) → value_at q None ≡ None
  no_value q = no_key (set.contains n.pairs (q.id, i))

  one_applies : (m : Keys) (e : PolicyId × KnownPolicy) (es : List (PolicyId × KnownPolicy)) → extended m (map (key_in_place n) (filter (applies_to n d i) (e ∷ es))) ≡ extended (one_more m e) (map (key_in_place n) (filter (applies_to n d i) es))
  one_applies m e es = by_test (applies_to n d i e)
    where
      by_test : (b : Bool) → extended m (map (key_in_place n) (cond b (e ∷ filter (applies_to n d i) es) (filter (applies_to n d i) es))) ≡ extended (cond b (maps.insert m (place_of e.0 e.1) e.1.key) m) (map (key_in_place n) (filter (applies_to n d i) es))
      by_test true = refl
      by_test false = refl

  keys_at : (es : List (PolicyId × KnownPolicy)) → T (maps.is_sorted policy_cmp.cmp-value.it es) → (m : Keys) (q : PolicyPlace)
      → maps.get (extended m (map (key_in_place n) (filter (applies_to n d i) es))) q ≡ over (value_at q (maps.find policy_cmp.cmp-value.it q.id es)) (maps.get m q)
  keys_at [] s m q = ap (λ o. over o (maps.get m q)) (sym (no_value q))
  keys_at (e ∷ es) s m q =
      ap (λ k. maps.get k q) (one_applies m e es)
      ∙ keys_at es (rest_sorted policy_cmp.cmp-value.it e es s) (one_more m e) q
      ∙ ap (over (value_at q (maps.find policy_cmp.cmp-value.it q.id es))) (get_one m q e)
      ∙ elim (policy_cmp.cmp-value.it q.id e.0) as (λ r. policy_cmp.cmp-value.it q.id e.0 ≡ r → over (value_at q (maps.find policy_cmp.cmp-value.it q.id es)) (over (cond (is_eq r) (value_at q (Some e.1)) None) (maps.get m q))
      ≡ over (value_at q (cond (is_eq r) (Some e.1) (maps.find policy_cmp.cmp-value.it q.id es))) (maps.get m q)) [
        | Less ↦ λ p. refl
        | Equal ↦ λ p. ap (λ o. over o (over (value_at q (Some e.1)) (maps.get m q))) (ap (value_at q) (gone policy_cmp.cmp-value.it exact_policy e es s q.id p) ∙ no_value q)
        | Greater ↦ λ p. refl
      ] refl

  over_nothing : (o : Option (List ℕ)) → over o None ≡ o
  over_nothing None = refl
  over_nothing (Some k) = refl

  get_keys : (q : PolicyPlace) → maps.get {R = place_cmp.cmp-value.it} (collected (keys_for n d i)) q ≡ at_place (stands_of n.tiers) n.policies n.pairs d i q
  get_keys q =
      keys_at (maps.entries n.policies) (maps.entries_sorted n.policies) maps.empty q
      ∙ (λ j. over (value_at q (sym (maps.get-entries n.policies q.id) j)) (maps.get-empty place_cmp.cmp-value.it q j))
      ∙ over_nothing (value_at q (maps.get n.policies q.id))

  pub list_is : (lists : AllLists) → AreLists (stands_of n.tiers) n.policies n.pairs lists → list_of d (item_lists lists i) ≡ collected (keys_for n d i)
  list_is lists are = maps.same_map place_total exact_place (list_of d (item_lists lists i)) (collected (keys_for n d i)) (λ q. are d i q ∙ sym (get_keys q))

pub row_is_wanted : (n : Inputs) (lists : AllLists) → AreLists (stands_of n.tiers) n.policies n.pairs lists → (i : ItemKey) (e : KnownEndpoint) → row_in lists i e ≡ endpoint_row n i e
row_is_wanted n lists are i e = λ j. record (row_in lists i e) {
  ingress = map view_tier (tier_by_tier (maps.entries (list_is n Ingress i lists are j)));
  egress = map view_tier (tier_by_tier (maps.entries (list_is n Egress i lists are j)));
}

-- what was told is what is wanted
pub told_is_wanted : (n : Inputs) (rows : Rows) → IsKept (stands_of n.tiers) n.policies n.pairs n.endpoints rows → rows.told ≡ wanted_endpoints n
told_is_wanted n rows kept = kept.told_is ∙ rows_same (row_in rows.lists) (endpoint_row n) n.endpoints (row_is_wanted n rows.lists kept.lists_are)

-- so a sink that is resolved has what was told, and a sink that has what was told is resolved
pub sink_is_told : {n : Inputs} {s t : State} {endpoints : Named ViewEndpoint} → s.inputs ≡ n → IsKeptState s → IsResolved n endpoints → t ≡ s → endpoints ≡ t.rows.told
sink_is_told {s = s} is kept resolved same = resolved ∙ ap wanted_endpoints (sym is) ∙ sym (told_is_wanted s.inputs s.rows kept) ∙ ap (λ (u : State). u.rows.told) (sym same)

pub sink_is_resolved : {endpoints : Named ViewEndpoint} (s : State) → IsKeptState s → endpoints ≡ s.rows.told → IsResolved s.inputs endpoints
sink_is_resolved s kept told = told ∙ told_is_wanted s.inputs s.rows kept

-- ---- tiers at other orders

order_in : (b : Bool) (o x : Option Tier) → tier_stand (cond b o x) ≡ cond b (tier_stand o) (tier_stand x)
order_in true o x = refl
order_in false o x = refl

module _ (tiers : Tiers) (name : List ℕ) where
  pub order_put : (t : Tier) → with_stand (stands_of tiers) name (tier_stand (Some t)) ≡ stands_of (maps.insert tiers name t)
  order_put t = λ j u. sym (ap tier_stand (get_insert tiers name t u) ∙ order_in (same_text u name) (Some t) (maps.get tiers u)) j

  pub order_gone : with_stand (stands_of tiers) name (tier_stand None) ≡ stands_of (maps.remove tiers name)
  order_gone = λ j u. sym (ap tier_stand (get_remove tiers name u) ∙ order_in (same_text u name) None (maps.get tiers u)) j

-- ---- at the start

no_list : (d : Direction) (q : PolicyPlace) → maps.get (list_of d no_lists) q ≡ None
no_list Ingress q = maps.get-empty place_cmp.cmp-value.it q
no_list Egress q = maps.get-empty place_cmp.cmp-value.it q

pub nothing_kept : IsKept (stands_of maps.empty) maps.empty set.empty maps.empty (record { lists = maps.empty; told = maps.empty })
nothing_kept = record {
  lists_are = λ d i q.
      ap (λ o. maps.get (list_of d (unwrap_or o no_lists)) q) (maps.get-empty item_cmp.cmp-value.it i) ∙ no_list d q
      ∙ sym (ap (λ o. cond (set.contains {R = policy_pair_cmp} set.empty (q.id, i)) (shown d (placed (stands_of maps.empty) q.id o) q) None) (maps.get-empty policy_cmp.cmp-value.it q.id) ∙ no_key (set.contains {R = policy_pair_cmp} set.empty (q.id, i)));
  told_is = sym (ap (λ es. collected (map (λ (x : ItemKey × KnownEndpoint). (x.1.iface, row_in maps.empty x.0 x.1)) es)) (entries-empty item_cmp.cmp-value.it));
  apart = λ i j e f there here same. none_some e (sym (maps.get-empty item_cmp.cmp-value.it i) ∙ there);
}

pub nothing_wanted : (n : Inputs) → n ≡ record { tiers = maps.empty; policies = maps.empty; endpoints = maps.empty; pairs = set.empty } → IsResolved n maps.empty
nothing_wanted n is =
    sym (ap (λ es. collected (map (endpoint_entry (record { tiers = maps.empty; policies = maps.empty; endpoints = maps.empty; pairs = set.empty })) es)) (entries-empty item_cmp.cmp-value.it))
    ∙ ap wanted_endpoints (sym is)
