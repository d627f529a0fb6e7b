-- What the tiers of the wanted view say of a packet is what those of the resources say.
use Rattle.std.proofs.Common.{◌≡◌, ℕ, Bool, true, false, cond, List, [], ◌∷◌, ◌++◌, map, Option, Some, None, refl, sym, ap, ◌∙◌}
use Rattle.std.specs.Prelude.{filter}
use Rattle.std.specs.List.{AllByRecursion, flat_map}
use Rattle.std.specs.Cmp.Lexicographic.{nat_list_cmp_total}
use Rattle.std.specs.FinMap as maps
use Rattle.fx_base.proofs.Found.{entries_found}
use Rattle.fx_names.specs.Digests.{Digest}
use Rattle.fx_model.specs.declared.ids.PolicyId.{PolicyId}
use Rattle.fx_model.specs.declared.packet.Packet.{Packet}
use Rattle.fx_model.specs.declared.policy.Policy.{Policy}
use Rattle.fx_model.specs.declared.resources.Endpoint.{Endpoint}
use Rattle.fx_model.specs.declared.resources.Resources.{Resources}
use Rattle.fx_model.specs.declared.tier_order.PolicyPlace.{PolicyPlace}
use Rattle.fx_model.specs.declared.chain.Reason.{Reason}
use Rattle.fx_model.specs.declared.chain.Reason.TheVariants as reason
use Rattle.fx_model.specs.declared.rules.Rule.{Rule}
use Rattle.fx_model.specs.declared.view.ViewPolicy.{ViewPolicy}
use Rattle.fx_model.specs.Directions.{Direction, Ingress, Egress}
use Rattle.fx_model.specs.Active.{applies, applying, is_active, active_policies}
use Rattle.fx_model.specs.Policy.{MetRule, met_rules, rules_of, met_policy, met_tier, tiers_for}
use Rattle.fx_model.specs.TierOrder.{TierHead, head_of, passes_at_end, place_in, tiers_of}
use Rattle.fx_model.specs.TierOrder as order
use Rattle.fx_model.specs.Views.{view_of, view_rule, view_policy, policy_key, policy_entry, key_in_place, view_tiers}
use Rattle.fx_model.specs.ViewPolicy.{met_view_rules, rules_of_policy, view_tier}
use Rattle.fx_model.proofs.Orders.{policy_total}
use Rattle.fx_laws.proofs.EntryLookups.{is, last, is_itself, is_same, get-collected}
use Rattle.fx_walk.proofs.TierLists.{AllHeads, AllInTiers, tiers_all, tiers_heads, tiers-map}

module _ (dg : Digest) (R : Resources) (apart : (a b : PolicyId) (p q : Policy) → maps.get R.policies a ≡ Some p → maps.get R.policies b ≡ Some q → policy_key dg a ≡ policy_key dg b → a ≡ b) where
  abbrev key : PolicyId × Policy → List ℕ
  key x = policy_key dg x.0

  abbrev in_place : PolicyId × Policy → PolicyPlace × (PolicyId × Policy)
  in_place x = (place_in R.tiers x, x)

  abbrev with_key : PolicyPlace × (PolicyId × Policy) → PolicyPlace × List ℕ
  with_key y = (y.0, key y.1)

  abbrev Stands : PolicyId × Policy → Type 0
  Stands x = maps.get R.policies x.0 ≡ Some x.1

  -- the last of these entries at a policy's key is its own, whatever was there before
  abbrev IsKept : List (PolicyId × Policy) → PolicyId × Policy → Type 0
  IsKept xs x = (o : Option ViewPolicy) → last (map (policy_entry dg) xs) (key x) o ≡ Some (view_policy dg x.0 x.1)

  one_policy : (x y : PolicyId × Policy) → Stands x → Stands y → key x ≡ key y → view_policy dg y.0 y.1 ≡ view_policy dg x.0 x.1
  one_policy x y s t same =
      let ids : x.0 ≡ y.0 = apart x.0 y.0 x.1 y.1 s t same in
      let values : Some x.1 ≡ Some y.1 = sym s ∙ ap (maps.get R.policies) ids ∙ t in
      let policies : x.1 ≡ y.1 = cc in
      λ i. view_policy dg (sym ids i) (sym policies i)

  -- once it is there, it stays
  stays : (xs : List (PolicyId × Policy)) (x : PolicyId × Policy) → Stands x → AllByRecursion Stands xs → last (map (policy_entry dg) xs) (key x) (Some (view_policy dg x.0 x.1)) ≡ Some (view_policy dg x.0 x.1)
  stays [] x s there = refl
  stays (y ∷ ys) x s there = by_test (stays ys x s there.1) (is (key x) (key y)) refl
    where
      by_test : last (map (policy_entry dg) ys) (key x) (Some (view_policy dg x.0 x.1)) ≡ Some (view_policy dg x.0 x.1) → (b : Bool) → is (key x) (key y) ≡ b → last (map (policy_entry dg) ys) (key x) (cond b (Some (view_policy dg y.0 y.1)) (Some (view_policy dg x.0 x.1))) ≡ Some (view_policy dg x.0 x.1)
      by_test rest true t = ap (λ (v : ViewPolicy). last (map (policy_entry dg) ys) (key x) (Some v)) (one_policy x y s there.0 (is_same (key x) (key y) t)) ∙ rest
      by_test rest false t = rest

  abbrev active_of : List (PolicyId × Policy) → List (PolicyId × Policy)
  active_of xs = filter (λ x. is_active R x.1) xs

  standing : (xs : List (PolicyId × Policy)) → AllByRecursion Stands xs → AllByRecursion Stands (active_of xs)
  standing [] h = tt
  standing (x ∷ xs) h =
      elim (is_active R x.1) as (λ b. AllByRecursion Stands (cond b (x ∷ active_of xs) (active_of xs))) [
        | true ↦ (h.0, standing xs h.1)
        | false ↦ standing xs h.1
      ]

  module _ (d : Direction) (e : Endpoint) (active : (p : Policy) → applies R d p e ≡ true → is_active R p ≡ true) where
    abbrev applying_of : List (PolicyId × Policy) → List (PolicyId × Policy)
    applying_of xs = filter (λ x. applies R d x.1 e) xs

    -- one more entry in front changes nothing at the keys behind it
    behind : (x : PolicyId × Policy) (xs ys : List (PolicyId × Policy)) → AllByRecursion (IsKept xs) ys → AllByRecursion (IsKept (x ∷ xs)) ys
    behind x xs [] h = tt
    behind x xs (y ∷ ys) h = (λ o. h.0 (cond (is (key y) (key x)) (Some (view_policy dg x.0 x.1)) o), behind x xs ys h.1)

    first : (x : PolicyId × Policy) (xs : List (PolicyId × Policy)) → Stands x → AllByRecursion Stands xs → IsKept (x ∷ xs) x
    first x xs s there o =
        ap (λ b. last (map (policy_entry dg) xs) (key x) (cond b (Some (view_policy dg x.0 x.1)) o)) (is_itself (key x)) ∙ stays xs x s there

    kept : (xs : List (PolicyId × Policy)) → AllByRecursion Stands xs → AllByRecursion (IsKept (active_of xs)) (applying_of xs)
    kept [] there = tt
    kept (x ∷ xs) there = by_tests (kept xs there.1) (applies R d x.1 e) (is_active R x.1) refl refl
      where
        by_tests : AllByRecursion (IsKept (active_of xs)) (applying_of xs) → (b c : Bool) → applies R d x.1 e ≡ b → is_active R x.1 ≡ c → AllByRecursion (IsKept (cond c (x ∷ active_of xs) (active_of xs))) (cond b (x ∷ applying_of xs) (applying_of xs))
        by_tests rest true true p q = (first x (active_of xs) there.0 (standing xs there.1), behind x (active_of xs) (applying_of xs) rest)
        by_tests rest true false p q = let wrong : true ≡ false = sym (active x.1 p) ∙ q in cc
        by_tests rest false true p q = behind x (active_of xs) (applying_of xs) rest
        by_tests rest false false p q = rest

    -- what holds of the active policies holds of those that apply
    among_applying : (P : PolicyId × Policy → Type 0) (xs : List (PolicyId × Policy)) → AllByRecursion P (active_of xs) → AllByRecursion P (applying_of xs)
    among_applying P [] h = tt
    among_applying P (x ∷ xs) h = by_tests (among_applying P xs) (applies R d x.1 e) (is_active R x.1) refl refl h
      where
        by_tests : (AllByRecursion P (active_of xs) → AllByRecursion P (applying_of xs)) → (b c : Bool) → applies R d x.1 e ≡ b → is_active R x.1 ≡ c → AllByRecursion P (cond c (x ∷ active_of xs) (active_of xs)) → AllByRecursion P (cond b (x ∷ applying_of xs) (applying_of xs))
        by_tests rest true true p q g = (g.0, rest g.1)
        by_tests rest true false p q g = let wrong : true ≡ false = sym (active x.1 p) ∙ q in cc
        by_tests rest false true p q g = rest g.1
        by_tests rest false false p q g = rest g

    -- rules of which this holds say in the view what they say among the resources
    module _ (a : Packet) (AreSo : List Rule → Type 0) (rules_same : (why : ℕ → Reason) (place : ℕ) (rs : List Rule) → AreSo rs → met_view_rules (view_of dg R).sets a why place (map (view_rule dg) rs) ≡ met_rules R a why place rs) where
      -- the view's policy at its key says what the policy says
      abbrev SaysSo : PolicyId × Policy → Type 0
      SaysSo x = rules_of_policy (view_of dg R).sets d a (maps.get (view_of dg R).policies (key x)) ≡ met_policy R d a x

      view_rules : (c : Direction) (x : PolicyId × Policy) → AreSo (rules_of c x.1) → rules_of_policy (view_of dg R).sets c a (Some (view_policy dg x.0 x.1)) ≡ met_policy R c a x
      view_rules Ingress x so = rules_same (reason.Policy x.0) 1 x.1.ingress so
      view_rules Egress x so = rules_same (reason.Policy x.0) 1 x.1.egress so

      says : (xs : List (PolicyId × Policy)) → AllByRecursion (IsKept (active_policies R)) xs → AllByRecursion (λ x. AreSo (rules_of d x.1)) xs → AllByRecursion SaysSo xs
      says [] h so = tt
      says (x ∷ xs) h so = (
        ap (rules_of_policy (view_of dg R).sets d a) (get-collected nat_list_cmp_total (map (policy_entry dg) (active_policies R)) (key x) ∙ h.0 None) ∙ view_rules d x so.0,
        says xs h.1 so.1,
      )

      says_placed : (xs : List (PolicyId × Policy)) → AllByRecursion SaysSo xs → AllByRecursion (λ (y : PolicyPlace × (PolicyId × Policy)). SaysSo y.1) (map in_place xs)
      says_placed [] h = tt
      says_placed (x ∷ xs) h = (h.0, says_placed xs h.1)

      policies_say : (xs : List (PolicyId × Policy)) → AllByRecursion SaysSo xs → flat_map (λ k. rules_of_policy (view_of dg R).sets d a (maps.get (view_of dg R).policies k)) (map key xs) ≡ flat_map (met_policy R d a) xs
      policies_say [] h = refl
      policies_say (x ∷ xs) h =
          ap (λ (l : List MetRule). l ++ flat_map (λ k. rules_of_policy (view_of dg R).sets d a (maps.get (view_of dg R).policies k)) (map key xs)) h.0
          ∙ ap (λ (l : List MetRule). met_policy R d a x ++ l) (policies_say xs h.1)

      -- what the places say of a tier's end is what the tier of that name says
      abbrev EndsSo : TierHead → Type 0
      EndsSo t = t.pass_at_end ≡ passes_at_end (maps.get R.tiers t.name)

      ends_so : (xs : List (PolicyId × Policy)) → AllByRecursion (λ (y : PolicyPlace × (PolicyId × Policy)). EndsSo (head_of y.0)) (map in_place xs)
      ends_so [] = tt
      ends_so (x ∷ xs) = (refl, ends_so xs)

      tiers_say : (ts : List (TierHead × List (PolicyId × Policy))) → AllHeads EndsSo ts → AllInTiers SaysSo ts → map (view_tier (view_of dg R) d a) (map order.view_tier (map (λ t. (t.0, map key t.1)) ts)) ≡ map (met_tier R d a) ts
      tiers_say [] e h = refl
      tiers_say (t ∷ ts) e h =
          let head : view_tier (view_of dg R) d a (order.view_tier (t.0, map key t.1)) ≡ met_tier R d a t = λ i. record { name = t.0.name; pass_at_end = e.0 i; rules = policies_say t.1 h.0 i } in
          let tail : map (view_tier (view_of dg R) d a) (map order.view_tier (map (λ (u : TierHead × List (PolicyId × Policy)). (u.0, map key u.1)) ts)) ≡ map (met_tier R d a) ts = tiers_say ts e.1 h.1 in
          λ i. head i ∷ tail i

      keyed : (xs : List (PolicyId × Policy)) → map (key_in_place dg R) xs ≡ map with_key (map in_place xs)
      keyed [] = refl
      keyed (x ∷ xs) = ap (λ (l : List (PolicyPlace × List ℕ)). key_in_place dg R x ∷ l) (keyed xs)

      -- the endpoint's tiers in the view say what those of the resources say
      pub tiers_same : AllByRecursion (λ x. AreSo (rules_of d x.1)) (active_policies R) → map (view_tier (view_of dg R) d a) (view_tiers dg R d e) ≡ tiers_for R d e a
      tiers_same so =
          let xs = applying R d e in
          let all = says xs (kept (maps.entries R.policies) (entries_found policy_total R.policies)) (among_applying (λ (x : PolicyId × Policy). AreSo (rules_of d x.1)) (maps.entries R.policies) so) in
          let pairs = map in_place xs in
          ap (λ (es : List (PolicyPlace × List ℕ)). map (view_tier (view_of dg R) d a) (map order.view_tier (tiers_of es))) (keyed xs)
          ∙ ap (λ (ts : List (TierHead × List (List ℕ))). map (view_tier (view_of dg R) d a) (map order.view_tier ts)) (tiers-map key pairs)
          ∙ tiers_say (tiers_of pairs) (tiers_heads EndsSo pairs (ends_so xs)) (tiers_all SaysSo pairs (says_placed xs all))
