-- Places compare as it is stated.
use Rattle.std.proofs.Common.{◌≡◌, refl}
use Rattle.std.specs.Ordering.{nat_cmp, bool_cmp, ordering_then}
use Rattle.std.specs.Cmp.Lexicographic.{slice_cmp}
use Rattle.fx_model.specs.declared.tier_order.Order.{Order}
use Rattle.fx_model.specs.declared.tier_order.Order.TheVariants.{At, Last}
use Rattle.fx_model.specs.declared.tier_order.PolicyPlace.{PolicyPlace}
use Rattle.fx_model.specs.contracts.ids.PolicyIdOrd.TheImpl as id_cmp
use Rattle.fx_model.specs.contracts.tier_order.OrderOrd.TheImpl as order_cmp
use Rattle.fx_model.specs.contracts.tier_order.PolicyPlaceOrd.TheImpl as place_cmp
use Rattle.fx_model.specs.TierOrder.{orders_compared, places_compared}

orders : (a b : Order) → order_cmp.cmp-value.it a b ≡ orders_compared a b
orders (At m) (At n) = refl
orders (At m) Last = refl
orders Last (At n) = refl
orders Last Last = refl

pub compared : (a b : PolicyPlace) → place_cmp.cmp-value.it a b ≡ places_compared a b
compared a b = λ i.
    ordering_then (orders a.tier_order b.tier_order i)
    (ordering_then (slice_cmp nat_cmp a.tier b.tier)
    (ordering_then (bool_cmp a.pass_at_end b.pass_at_end)
    (ordering_then (orders a.order b.order i)
    (ordering_then (slice_cmp nat_cmp a.text b.text) (id_cmp.cmp-value.it a.id b.id)))))
