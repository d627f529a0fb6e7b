-- The order in which tiers and policies apply. From Calico's resource reference (`projectcalico.org/v3`), Tier and GlobalNetworkPolicy,
-- `order`: lower orders come first, and what has none comes last. What has one order is told apart by its name: a tier by its name's
-- bytes, and a policy by the bytes of the text of its id.
use Rattle.std.specs.Prelude.{ℕ, ℤ, Bool, false, List, [], ◌∷◌, ◌++◌, if◌then◌else◌, Option, Some, None}
use Rattle.std.specs.Ordering.{nat_cmp, int_cmp, bool_cmp, ordering_then}
use Rattle.std.specs.declared.cmp.Ordering.{Ordering}
use Rattle.std.specs.declared.cmp.Ordering.TheVariants.{Less, Equal, Greater}
use Rattle.std.specs.Cmp.Lexicographic.{slice_cmp}
use Rattle.std.specs.Str.{bytes_eq}
use Rattle.std.specs.FinMap as maps
use Rattle.fx_base.specs.Extended.{collected}
use Rattle.fx_model.specs.declared.ids.PolicyId.{PolicyId}
use Rattle.fx_model.specs.declared.policy.Policy.{Policy}
use Rattle.fx_model.specs.declared.policy.Tier.{Tier}
use Rattle.fx_model.specs.declared.tier_order.Order.{Order}
use Rattle.fx_model.specs.declared.tier_order.Order.TheVariants.{At, Last}
use Rattle.fx_model.specs.declared.tier_order.PolicyPlace.{PolicyPlace}
use Rattle.fx_model.specs.declared.tier_order.TierStand.{TierStand}
use Rattle.fx_model.specs.contracts.ids.PolicyIdOrd.TheImpl as id_cmp
use Rattle.fx_model.specs.contracts.tier_order.PolicyPlaceOrd.TheImpl as place_cmp
use Rattle.fx_model.specs.declared.view.ViewTier.{ViewTier}
use Rattle.fx_model.specs.PolicyIdTexts.{policy_id_text}

abbrev pub Tiers : Type 0
Tiers = maps.FinMap (slice_cmp nat_cmp) Tier

-- ---- places

-- lower numbers come first, and what has none comes last
abbrev pub orders_compared : Order → Order → Ordering
orders_compared (At m) (At n) = int_cmp m n
orders_compared (At m) Last = Less
orders_compared Last (At n) = Greater
orders_compared Last Last = Equal

-- What a tier does at its end decides nothing, since all places of a tier share it.
-- The id itself comes last, so that no two policies have one place; ids of one text are one id wherever namespaces hold no `/`.
abbrev pub places_compared : PolicyPlace → PolicyPlace → Ordering
places_compared a b =
    ordering_then (orders_compared a.tier_order b.tier_order)
    (ordering_then (slice_cmp nat_cmp a.tier b.tier)
    (ordering_then (bool_cmp a.pass_at_end b.pass_at_end)
    (ordering_then (orders_compared a.order b.order)
    (ordering_then (slice_cmp nat_cmp a.text b.text) (id_cmp.cmp-value.it a.id b.id)))))

abbrev pub order_of : Option ℤ → Order
order_of None = Last
order_of (Some n) = At n

-- a tier that nobody defined counts as one without an order
abbrev pub tier_order : Option Tier → Order
tier_order None = Last
tier_order (Some t) = order_of t.order

-- whether the default action is Pass; a tier that nobody defined denies
abbrev pub passes_at_end : Option Tier → Bool
passes_at_end None = false
passes_at_end (Some t) = t.pass_at_end

abbrev pub tier_stand : Option Tier → TierStand
tier_stand t = record { order = tier_order t; pass_at_end = passes_at_end t }

abbrev pub policy_place : TierStand → List ℕ → Option ℤ → PolicyId → PolicyPlace
policy_place at tier order id =
    record { tier_order = at.order; tier = tier; pass_at_end = at.pass_at_end; order = order_of order; text = policy_id_text id; id = id }

abbrev pub place_in : Tiers → PolicyId × Policy → PolicyPlace
place_in tiers x = policy_place (tier_stand (maps.get tiers x.1.tier)) x.1.tier x.1.order x.0

-- ---- what stands at places, tier by tier

-- a tier as the places in it name it
pub record TierHead : Type 0 where
  pub name : List ℕ
  pub pass_at_end : Bool

abbrev pub head_of : PolicyPlace → TierHead
head_of p = record { name = p.tier; pass_at_end = p.pass_at_end }

-- one more in front: in the first tier where that is its own, else in a tier by itself
abbrev pub onto_tiers : {X : Type 0} → TierHead → X → List (TierHead × List X) → List (TierHead × List X)
onto_tiers tier x [] = (tier, x ∷ []) ∷ []
onto_tiers tier x (t ∷ ts) = if bytes_eq tier.name t.0.name then (tier, x ∷ t.1) ∷ ts else (tier, x ∷ []) ∷ t ∷ ts

-- cut where the tier changes: each tier with what stands in it
abbrev pub tier_by_tier : {X : Type 0} → List (PolicyPlace × X) → List (TierHead × List X)
tier_by_tier [] = []
tier_by_tier (e ∷ es) = onto_tiers (head_of e.0) e.1 (tier_by_tier es)

-- by ascending places, which compare as `places_compared` tells (the law `places_compare_as_stated`)
abbrev pub in_order : {X : Type 0} → List (PolicyPlace × X) → List (PolicyPlace × X)
in_order es = maps.entries {R = place_cmp.cmp-value.it} (collected es)

abbrev pub tiers_of : {X : Type 0} → List (PolicyPlace × X) → List (TierHead × List X)
tiers_of es = tier_by_tier (in_order es)

-- ---- tiers of a view

abbrev pub view_tier : TierHead × List (List ℕ) → ViewTier
view_tier t = record { name = t.0.name; pass_at_end = t.0.pass_at_end; policies = t.1 }

-- a tier with one key more, or the tier and the key in a tier behind it
abbrev pub grown : TierHead → List ℕ → ViewTier → List ViewTier
grown tier key t = if bytes_eq t.name tier.name then record t { policies = t.policies ++ key ∷ [] } ∷ [] else t ∷ view_tier (tier, key ∷ []) ∷ []

-- the last tier has grown
abbrev pub pushed : TierHead → List ℕ → List ViewTier → List ViewTier
pushed tier key [] = view_tier (tier, key ∷ []) ∷ []
pushed tier key (t ∷ []) = grown tier key t
pushed tier key (t ∷ u ∷ ts) = t ∷ pushed tier key (u ∷ ts)
