-- `==` tells all orders and places apart, and a clone is its source.
use Rattle.std.specs.Prelude.{◌≡◌, true}
use Rattle.fx_base.specs.Same.{same_bytes, same_truths, both_pass}
use Rattle.fx_model.specs.SameIds.{same_policy_id, copies_policy_id}
use Rattle.fx_model.specs.declared.tier_order.Order.{Order}
use Rattle.fx_model.specs.declared.tier_order.Order.TheVariants.{At, Last}
use Rattle.fx_model.specs.contracts.tier_order.OrderPartialEq.TheImpl as order_eq
use Rattle.fx_model.specs.declared.tier_order.PolicyPlace.{PolicyPlace}
use Rattle.fx_model.specs.declared.tier_order.TierStand.{TierStand}
use Rattle.fx_model.specs.contracts.tier_order.TierStandPartialEq.TheImpl as stand_eq
use Rattle.fx_model.specs.contracts.tier_order.PolicyPlacePartialEq.TheImpl as place_eq
use Rattle.fx_model.specs.contracts.tier_order.PolicyPlaceClone.TheImpl as place_clone
use Rattle.std.specs.Cmp.{signed_Decides}
use Rattle.std.proofs.Common.{refl}

pub same_order : (x y : Order) → order_eq.eq-value.it x y ≡ true → x ≡ y
same_order (At m) (At n) e = λ i. At ((signed_Decides m n).0 e i)
same_order Last Last e = refl
same_order (At m) Last e = cc
same_order Last (At n) e = cc

pub same_stand : (x y : TierStand) → stand_eq.eq-value.it x y ≡ true → x ≡ y
same_stand x y e =
    let p = both_pass _ _ e in
    λ i. record { order = same_order x.order y.order p.0 i; pass_at_end = same_truths x.pass_at_end y.pass_at_end p.1 i }

pub same_place : (x y : PolicyPlace) → place_eq.eq-value.it x y ≡ true → x ≡ y
same_place x y e =
    let p = both_pass _ _ e in
    let q = both_pass _ _ p.1 in
    let r = both_pass _ _ q.1 in
    let s = both_pass _ _ r.1 in
    let t = both_pass _ _ s.1 in
    λ i. record {
      tier_order = same_order x.tier_order y.tier_order p.0 i;
      tier = same_bytes x.tier y.tier q.0 i;
      pass_at_end = same_truths x.pass_at_end y.pass_at_end r.0 i;
      order = same_order x.order y.order s.0 i;
      text = same_bytes x.text y.text t.0 i;
      id = same_policy_id x.id y.id t.1 i;
    }

pub copies_place : (x y : PolicyPlace) → place_clone.is_clone-value.it x y → y ≡ x
copies_place x y h = λ i. record {
  tier_order = h.0 i;
  tier = h.1.0 i;
  pass_at_end = h.1.1.0 i;
  order = h.1.1.1.0 i;
  text = h.1.1.1.1.0 i;
  id = copies_policy_id x.id y.id h.1.1.1.1.1 i;
}
