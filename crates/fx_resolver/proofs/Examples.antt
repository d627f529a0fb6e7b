-- Worked examples: which tiers an endpoint has.
use Rattle.std.proofs.Common.{◌≡◌, ℕ, ℤ, Bool, true, false, ◌&&◌, List, [], ◌∷◌, map, filter, Option, Some, None, is_some, refl, sym, ap, ◌∙◌}
use Rattle.std.specs.Prelude.{pos, codes}
use Rattle.std.specs.Cmp.{IsTotalOrder}
use Rattle.std.specs.Cmp.Lexicographic.{slice_cmp, nat_list_cmp_total}
use Rattle.std.specs.Ordering.{nat_cmp}
use Rattle.std.specs.declared.cmp.Ordering.{Ordering}
use Rattle.std.specs.FinMap as maps
use Rattle.fx_base.specs.Extended.{extended, collected}
use Rattle.fx_base.proofs.Entries.{entries-empty}
use Rattle.fx_model.specs.Pairs.{policy_pair_cmp}
use Rattle.fx_model.specs.declared.ids.ItemKey.{ItemKey}
use Rattle.fx_model.specs.declared.ids.ItemKey.TheVariants.{Endpoint}
use Rattle.fx_model.specs.declared.ids.PolicyId.{PolicyId}
use Rattle.fx_model.specs.declared.ids.PolicyId.TheVariants.{Global, Namespaced}
use Rattle.fx_model.specs.declared.policy.Tier.{Tier}
use Rattle.fx_model.specs.declared.tier_order.PolicyPlace.{PolicyPlace}
use Rattle.fx_model.specs.declared.view.ViewTier.{ViewTier}
use Rattle.fx_model.specs.contracts.ids.PolicyIdOrd.TheImpl as policy_cmp
use Rattle.fx_model.specs.contracts.tier_order.PolicyPlaceOrd.TheImpl as place_cmp
use Rattle.fx_model.specs.Directions.{Direction, Ingress, Egress}
use Rattle.fx_model.specs.TierOrder.{tier_stand, policy_place, tier_by_tier, view_tier}
use Rattle.fx_model.proofs.Orders.{place_total, policy_total, policy_pairs_total}
use Rattle.fx_resolver.specs.declared.inputs.Inputs.{Inputs}
use Rattle.fx_resolver.specs.declared.known.KnownPolicy.{KnownPolicy}
use Rattle.fx_resolver.specs.Resolved.{is_on, tiers_for}

-- ---- inputs from lists

-- entries one after another, each in its place
abbrev put_all : {K X : Type 0} → (K → K → Ordering) → List (K × X) → List (K × X) → List (K × X)
put_all R ds [] = ds
put_all R ds (e ∷ es) = put_all R (maps.put R e.0 e.1 ds) es

module _ {K X : Type 0} {R : K → K → Ordering} (o : IsTotalOrder R) where
  extended-is : (m : maps.FinMap R X) (es : List (K × X)) → maps.entries (extended m es) ≡ put_all R (maps.entries m) es
  extended-is m [] = refl
  extended-is m (e ∷ es) = extended-is (maps.insert m e.0 e.1) es ∙ ap (λ ds. put_all R ds es) (maps.entries-insert o m e.0 e.1)

  collected-is : (es : List (K × X)) → maps.entries {R = R} (collected es) ≡ put_all R [] es
  collected-is es = extended-is maps.empty es ∙ ap (λ ds. put_all R ds es) (entries-empty R)

  get-is : (es : List (K × X)) (q : K) → maps.get {R = R} (collected es) q ≡ maps.find R q (put_all R [] es)
  get-is es q = maps.get-entries (collected es) q ∙ ap (maps.find R q) (collected-is es)

abbrev Pair : Type 0
Pair = PolicyId × ItemKey

module _ (tiers : List (List ℕ × Tier)) (policies : List (PolicyId × KnownPolicy)) (pairs : List (Pair × Unit {0})) where
  abbrev inputs : Inputs
  inputs = record { tiers = collected tiers; policies = collected policies; endpoints = maps.empty; pairs = collected pairs }

  abbrev tiers_by : (List ℕ → Option Tier) → (Pair → Bool) → List (PolicyId × KnownPolicy) → Direction → ItemKey → List (PolicyPlace × List ℕ)
  tiers_by tier_at applies all d i = map (λ x. (policy_place (tier_stand (tier_at x.1.tier)) x.1.tier x.1.order x.0, x.1.key)) (filter (λ x. is_on d x.1 && applies (x.0, i)) all)

  -- the tiers as they compute
  abbrev computed : Direction → ItemKey → List ViewTier
  computed d i = map view_tier (tier_by_tier (put_all place_cmp.cmp-value.it [] (tiers_by
      (λ t. maps.find (slice_cmp nat_cmp) t (put_all (slice_cmp nat_cmp) [] tiers))
      (λ p. is_some (maps.find policy_pair_cmp p (put_all policy_pair_cmp [] pairs)))
      (put_all policy_cmp.cmp-value.it [] policies) d i)))

  tiers-are : (d : Direction) (i : ItemKey) → tiers_for inputs d i ≡ computed d i
  tiers-are d i =
      (λ j. map view_tier (tier_by_tier (maps.entries {R = place_cmp.cmp-value.it} (collected (tiers_by (λ t. get-is nat_list_cmp_total tiers t j) (λ p. is_some (get-is policy_pairs_total pairs p j)) (collected-is policy_total policies j) d i)))))
      ∙ ap (λ es. map view_tier (tier_by_tier es)) (collected-is place_total (tiers_by
      (λ t. maps.find (slice_cmp nat_cmp) t (put_all (slice_cmp nat_cmp) [] tiers))
      (λ p. is_some (maps.find policy_pair_cmp p (put_all policy_pair_cmp [] pairs)))
      (put_all policy_cmp.cmp-value.it [] policies) d i))

-- ---- what the examples are made of

abbrev web : ItemKey
web = Endpoint (codes "shop") (codes "web")

abbrev gnp : List ℕ → PolicyId
gnp name = Global name

abbrev both_ways : List ℕ → List ℕ → Option ℤ → KnownPolicy
both_ways key tier order = record { key = key; tier = tier; order = order; on_ingress = true; on_egress = true }

abbrev order : Option ℤ → Tier
order o = record { order = o; pass_at_end = false }

-- the policies with these keys in a tier that denies at its end, and in one that passes
abbrev denying : List ℕ → List (List ℕ) → ViewTier
denying name keys = record { name = name; pass_at_end = false; policies = keys }

abbrev passing : List ℕ → List (List ℕ) → ViewTier
passing name keys = record { name = name; pass_at_end = true; policies = keys }

-- every policy applies to the endpoint
abbrev with_web : List (PolicyId × KnownPolicy) → List (Pair × Unit {0})
with_web [] = []
with_web (x ∷ xs) = ((x.0, web), tt) ∷ with_web xs

-- ---- tiers go by their orders, those of one order by their names; one that nobody defined counts as one without an order

abbrev some_tiers : List (List ℕ × Tier)
some_tiers = (codes "b", order (Some (pos 5))) ∷ (codes "c", order (Some (pos 5))) ∷ (codes "e", order None) ∷ (codes "f", order (Some (pos 3))) ∷ []

abbrev one_in_each : List (PolicyId × KnownPolicy)
one_in_each =
    (gnp (codes "p"), both_ways (codes "1") (codes "a") None)
    ∷ (gnp (codes "q"), both_ways (codes "2") (codes "c") None)
    ∷ (gnp (codes "r"), both_ways (codes "3") (codes "b") None)
    ∷ (gnp (codes "s"), both_ways (codes "4") (codes "e") None)
    ∷ (gnp (codes "t"), both_ways (codes "5") (codes "f") None)
    ∷ []

pub tiers_in_order : tiers_for (inputs some_tiers one_in_each (with_web one_in_each)) Ingress web
    ≡ denying (codes "f") (codes "5" ∷ []) ∷ denying (codes "b") (codes "3" ∷ []) ∷ denying (codes "c") (codes "2" ∷ []) ∷ denying (codes "a") (codes "1" ∷ []) ∷ denying (codes "e") (codes "4" ∷ []) ∷ []
tiers_in_order = tiers-are some_tiers one_in_each (with_web one_in_each) Ingress web

-- ---- in a tier, policies go by their orders, with those that have none last, and those of one order by the text of the id, in which
-- `np/a-b/c` comes before `np/a/z`

abbrev in_one_tier : List (PolicyId × KnownPolicy)
in_one_tier =
    (Namespaced (codes "a") (codes "z"), both_ways (codes "1") (codes "t") (Some (pos 7)))
    ∷ (Namespaced (codes "a-b") (codes "c"), both_ways (codes "2") (codes "t") (Some (pos 7)))
    ∷ (gnp (codes "a"), both_ways (codes "3") (codes "t") None)
    ∷ (gnp (codes "x"), both_ways (codes "4") (codes "t") (Some (pos 6)))
    ∷ []

pub policies_in_order : tiers_for (inputs [] in_one_tier (with_web in_one_tier)) Egress web ≡ denying (codes "t") (codes "4" ∷ codes "2" ∷ codes "1" ∷ codes "3" ∷ []) ∷ []
policies_in_order = tiers-are [] in_one_tier (with_web in_one_tier) Egress web

-- ---- a policy counts only in the directions that are on, for the endpoints to which it applies; a tier without any takes no part

abbrev one_way : List (PolicyId × KnownPolicy)
one_way =
    (gnp (codes "p"), record (both_ways (codes "1") (codes "s") None) { on_egress = false })
    ∷ (gnp (codes "q"), record (both_ways (codes "2") (codes "t") None) { on_ingress = false })
    ∷ (gnp (codes "r"), both_ways (codes "3") (codes "t") None)
    ∷ []

abbrev two_pairs : List (Pair × Unit {0})
two_pairs = ((gnp (codes "p"), web), tt) ∷ ((gnp (codes "q"), web), tt) ∷ []

pub only_ingress : tiers_for (inputs [] one_way two_pairs) Ingress web ≡ denying (codes "s") (codes "1" ∷ []) ∷ []
only_ingress = tiers-are [] one_way two_pairs Ingress web

pub only_egress : tiers_for (inputs [] one_way two_pairs) Egress web ≡ denying (codes "t") (codes "2" ∷ []) ∷ []
only_egress = tiers-are [] one_way two_pairs Egress web

-- ---- a tier whose default action is Pass passes at its end, wherever its policies stand

abbrev one_passes : List (List ℕ × Tier)
one_passes = (codes "b", record { order = Some (pos 5); pass_at_end = true }) ∷ (codes "c", order (Some (pos 6))) ∷ []

abbrev two_in_one : List (PolicyId × KnownPolicy)
two_in_one =
    (gnp (codes "p"), both_ways (codes "1") (codes "b") None)
    ∷ (gnp (codes "q"), both_ways (codes "2") (codes "c") None)
    ∷ (gnp (codes "r"), both_ways (codes "3") (codes "b") (Some (pos 1)))
    ∷ []

pub passes_at_its_end : tiers_for (inputs one_passes two_in_one (with_web two_in_one)) Ingress web
    ≡ passing (codes "b") (codes "3" ∷ codes "1" ∷ []) ∷ denying (codes "c") (codes "2" ∷ []) ∷ []
passes_at_its_end = tiers-are one_passes two_in_one (with_web two_in_one) Ingress web
