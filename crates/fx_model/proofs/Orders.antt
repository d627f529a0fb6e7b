-- Keys, members and pairs of keys that compare alike are one.
use Rattle.std.specs.Cmp.{IsTotalOrder}
use Rattle.std.specs.FinMap.{IsAntisymmetric}
use Rattle.fx_base.specs.Same.{exact_by}
use Rattle.std.proofs.Common.{ℕ, List}
use Rattle.std.specs.Ordering.{nat_cmp}
use Rattle.std.specs.Cmp.Lexicographic.{slice_cmp, nat_list_cmp_total}
use Rattle.std.proofs.lemmas.Cmp.{on_total, then_total}
use Rattle.std.proofs.lemmas.Map.Lookups.{exact_pairs}
use Rattle.fx_base.proofs.KeyCases.{bytes_exact}
use Rattle.fx_model.specs.Pairs.{pair_cmp, policy_pair_cmp}
use Rattle.fx_model.specs.declared.ids.ItemKey.{ItemKey}
use Rattle.fx_model.specs.declared.ids.PolicyId.{PolicyId}
use Rattle.fx_model.specs.contracts.ids.PolicyIdPartialEq.TheImpl as policy_eq
use Rattle.fx_model.specs.contracts.ids.PolicyIdOrd.TheImpl as policy_cmp
use Rattle.fx_model.specs.contracts.ids.PolicyIdOrd.TheImpl.Laws as policy_laws
use Rattle.fx_model.specs.contracts.tier_order.PolicyPlacePartialEq.TheImpl as place_eq
use Rattle.fx_model.specs.contracts.tier_order.PolicyPlaceOrd.TheImpl as place_cmp
use Rattle.fx_model.specs.contracts.tier_order.PolicyPlaceOrd.TheImpl.Laws as place_laws
use Rattle.fx_model.specs.SameIds.{same_item, same_policy_id, same_key}
use Rattle.fx_model.specs.SamePlaces.{same_place}
use Rattle.fx_model.specs.SameMember.{same_member}
use Rattle.fx_model.specs.contracts.ids.ItemKeyPartialEq.TheImpl as item_eq
use Rattle.fx_model.specs.contracts.ids.ItemKeyOrd.TheImpl as item_cmp
use Rattle.fx_model.specs.contracts.ids.ItemKeyOrd.TheImpl.Laws as item_laws
use Rattle.fx_model.specs.contracts.ids.KeyPartialEq.TheImpl as key_eq
use Rattle.fx_model.specs.contracts.ids.KeyOrd.TheImpl as key_cmp
use Rattle.fx_model.specs.contracts.ids.KeyOrd.TheImpl.Laws as key_laws
use Rattle.fx_model.specs.contracts.member.MemberPartialEq.TheImpl as member_eq
use Rattle.fx_model.specs.contracts.member.MemberOrd.TheImpl as member_cmp
use Rattle.fx_model.specs.contracts.member.MemberOrd.TheImpl.Laws as member_laws

pub item_total : IsTotalOrder item_cmp.cmp-value.it
item_total = item_laws.total-law

pub exact_item : IsAntisymmetric item_cmp.cmp-value.it
exact_item = exact_by item_eq.eq-value.it item_cmp.cmp-value.it item_laws.matches_eq-law same_item

pub key_total : IsTotalOrder key_cmp.cmp-value.it
key_total = key_laws.total-law

pub exact_key : IsAntisymmetric key_cmp.cmp-value.it
exact_key = exact_by key_eq.eq-value.it key_cmp.cmp-value.it key_laws.matches_eq-law same_key

pub member_total : IsTotalOrder member_cmp.cmp-value.it
member_total = member_laws.total-law

pub exact_member : IsAntisymmetric member_cmp.cmp-value.it
exact_member = exact_by member_eq.eq-value.it member_cmp.cmp-value.it member_laws.matches_eq-law same_member

pub policy_total : IsTotalOrder policy_cmp.cmp-value.it
policy_total = policy_laws.total-law

pub exact_policy : IsAntisymmetric policy_cmp.cmp-value.it
exact_policy = exact_by policy_eq.eq-value.it policy_cmp.cmp-value.it policy_laws.matches_eq-law same_policy_id

pub place_total : IsTotalOrder place_cmp.cmp-value.it
place_total = place_laws.total-law

pub exact_place : IsAntisymmetric place_cmp.cmp-value.it
exact_place = exact_by place_eq.eq-value.it place_cmp.cmp-value.it place_laws.matches_eq-law same_place

pub pairs_total : IsTotalOrder pair_cmp
pairs_total = then_total (on_total (λ (p : List ℕ × ItemKey). p.0) nat_list_cmp_total) (on_total (λ (p : List ℕ × ItemKey). p.1) item_laws.total-law)

pub exact_pair : IsAntisymmetric pair_cmp
exact_pair = exact_pairs (slice_cmp nat_cmp) item_cmp.cmp-value.it bytes_exact exact_item

pub policy_pairs_total : IsTotalOrder policy_pair_cmp
policy_pairs_total = then_total (on_total (λ (p : PolicyId × ItemKey). p.0) policy_laws.total-law) (on_total (λ (p : PolicyId × ItemKey). p.1) item_laws.total-law)

pub exact_policy_pair : IsAntisymmetric policy_pair_cmp
exact_policy_pair = exact_pairs policy_cmp.cmp-value.it item_cmp.cmp-value.it exact_policy exact_item
