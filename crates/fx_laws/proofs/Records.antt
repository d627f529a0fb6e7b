-- Resources by the records at their keys: what an update makes of them, and when two resources are one.
use Rattle.std.proofs.Common.{◌≡◌, ℕ, true, false, cond, List, [], ◌∷◌, Option, Some, None, refl, sym, ap, ◌∙◌, subst}
use Rattle.std.specs.Prelude.{option_map}
use Rattle.std.specs.List.{list_all}
use Rattle.std.specs.Ordering.{eq_by_cmp, is_eq}
use Rattle.std.specs.declared.cmp.Ordering.{Ordering}
use Rattle.std.specs.declared.cmp.Ordering.TheVariants.{Less, Equal, Greater}
use Rattle.std.specs.Cmp.{IsTotalOrder, tied_itself}
use Rattle.std.specs.Cmp.Lexicographic.{nat_list_cmp_total}
use Rattle.std.specs.FinMap as maps
use Rattle.std.specs.FinMap.{FinMap, IsAntisymmetric}
use Rattle.fx_base.specs.Same.{both_pass}
use Rattle.fx_base.proofs.KeyCases.{bytes_exact}
use Rattle.fx_names.specs.Digests.{Digest}
use Rattle.fx_model.specs.declared.ids.ItemKey.{ItemKey}
use Rattle.fx_model.specs.declared.ids.ItemKey.TheVariants as item_key
use Rattle.fx_model.specs.declared.ids.Key.{Key}
use Rattle.fx_model.specs.declared.ids.Key.TheVariants as key
use Rattle.fx_model.specs.declared.ids.PolicyId.{PolicyId}
use Rattle.fx_model.specs.contracts.ids.KeyOrd.TheImpl.Laws as key_laws
use Rattle.fx_model.specs.declared.policy.NetSet.{NetSet}
use Rattle.fx_model.specs.declared.policy.Policy.{Policy}
use Rattle.fx_model.specs.declared.policy.Tier.{Tier}
use Rattle.fx_model.specs.declared.resources.Endpoint.{Endpoint}
use Rattle.fx_model.specs.declared.resources.Profile.{Profile}
use Rattle.fx_model.specs.declared.resources.Item.{Item}
use Rattle.fx_model.specs.declared.resources.Item.TheVariants as item
use Rattle.fx_model.specs.declared.resources.Resources.{Resources}
use Rattle.fx_model.specs.declared.resources.Update.{Update}
use Rattle.fx_model.specs.declared.resources.Update.TheVariants as update
use Rattle.fx_model.specs.SameIds.{same_key}
use Rattle.fx_model.specs.Resources.{after, after_put, after_delete, put_endpoint, put_profile, put_tier, put_policy, put_net_set}
use Rattle.fx_model.specs.Formed.{is_formed, is_formed_item_key, is_formed_policy_id}
use Rattle.fx_model.specs.Claims.{claims_at, listed_claims, named_claims, given_policy_claims, without}
use Rattle.fx_model.specs.Batches.{after_all}
use Rattle.fx_model.specs.Steps.{is_key, is_change, record_at, record_after, record_in, record_claims}
use Rattle.fx_model.proofs.Orders.{item_total, exact_item, policy_total, exact_policy, key_total}
use Rattle.fx_laws.proofs.FormedLemmas.{not_formed}

-- ---- keys

pub is_key-itself : (k : Key) → is_key k k ≡ true
is_key-itself k = key_laws.matches_eq-law k k ∙ ap is_eq (tied_itself key_total k)

-- keys are one or not
pub same_or_other : (k l : Key) (P : Type 0) → (is_key k l ≡ true → k ≡ l → P) → (is_key k l ≡ false → (k ≡ l → ⊥) → P) → P
same_or_other k l P same other =
    elim (is_key k l) as (λ b. is_key k l ≡ b → P) [
      | true ↦ λ e. same e (same_key k l e)
      | false ↦ λ e. other e (λ is. let wrong : true ≡ false = sym (is_key-itself k) ∙ ap (is_key k) is ∙ e in cc)
    ] refl

-- ---- one map

module _ {K X : Type 0} {R : K → K → Ordering} (o : IsTotalOrder R) (exact : IsAntisymmetric R) (m : FinMap R X) where
  pub put_here : (k : K) (x : X) → maps.get (maps.insert m k x) k ≡ Some x
  put_here k x = maps.get-insert o m k x k ∙ ap (λ r. cond (is_eq r) (Some x) (maps.get m k)) (tied_itself o k)

  pub gone_here : (k : K) → maps.get (maps.remove m k) k ≡ None
  gone_here k = maps.get-remove o m k k ∙ ap (λ r. cond (is_eq r) None (maps.get m k)) (tied_itself o k)

  elsewhere : (k q : K) (y : Option X) → (q ≡ k → ⊥) → cond (eq_by_cmp R q k) y (maps.get m q) ≡ maps.get m q
  elsewhere k q y differ =
      elim (R q k) as (λ r. R q k ≡ r → cond (is_eq r) y (maps.get m q) ≡ maps.get m q) [
        | Less ↦ λ p. refl
        | Equal ↦ λ p. absurd (differ (exact q k p))
        | Greater ↦ λ p. refl
      ] refl

  pub put_elsewhere : (k q : K) (x : X) → (q ≡ k → ⊥) → maps.get (maps.insert m k x) q ≡ maps.get m q
  put_elsewhere k q x differ = maps.get-insert o m k x q ∙ elsewhere k q (Some x) differ

  pub gone_elsewhere : (k q : K) → (q ≡ k → ⊥) → maps.get (maps.remove m k) q ≡ maps.get m q
  gone_elsewhere k q differ = maps.get-remove o m k q ∙ elsewhere k q None differ

-- ---- the record at the key of an update

pub record-put : (R : Resources) (k : Key) (x : Item) → is_formed (update.Put k x) ≡ true → record_at (after_put R k x) k ≡ Some x
record-put R k (item.Endpoint e) formed = at_key k formed
  where
    at_key : (k : Key) → is_formed (update.Put k (item.Endpoint e)) ≡ true → record_at (after_put R k (item.Endpoint e)) k ≡ Some (item.Endpoint e)
    at_key (key.Item (item_key.Endpoint ns name)) formed = ap (option_map item.Endpoint) (put_here item_total exact_item R.endpoints (item_key.Endpoint ns name) e)
    at_key (key.Item (item_key.NetSet ns name)) formed = not_formed (is_formed_item_key (item_key.NetSet ns name)) formed
    at_key (key.Profile name) formed = cc
    at_key (key.Tier name) formed = cc
    at_key (key.Policy id) formed = not_formed (is_formed_policy_id id) formed
record-put R k (item.Profile p) formed = at_key k formed
  where
    at_key : (k : Key) → is_formed (update.Put k (item.Profile p)) ≡ true → record_at (after_put R k (item.Profile p)) k ≡ Some (item.Profile p)
    at_key (key.Item k) formed = not_formed (is_formed_item_key k) formed
    at_key (key.Profile name) formed = ap (option_map item.Profile) (put_here nat_list_cmp_total bytes_exact R.profiles name p)
    at_key (key.Tier name) formed = cc
    at_key (key.Policy id) formed = not_formed (is_formed_policy_id id) formed
record-put R k (item.Tier t) formed = at_key k formed
  where
    at_key : (k : Key) → is_formed (update.Put k (item.Tier t)) ≡ true → record_at (after_put R k (item.Tier t)) k ≡ Some (item.Tier t)
    at_key (key.Item k) formed = not_formed (is_formed_item_key k) formed
    at_key (key.Profile name) formed = cc
    at_key (key.Tier name) formed = ap (option_map item.Tier) (put_here nat_list_cmp_total bytes_exact R.tiers name t)
    at_key (key.Policy id) formed = not_formed (is_formed_policy_id id) formed
record-put R k (item.Policy p) formed = at_key k formed
  where
    at_key : (k : Key) → is_formed (update.Put k (item.Policy p)) ≡ true → record_at (after_put R k (item.Policy p)) k ≡ Some (item.Policy p)
    at_key (key.Item k) formed = not_formed (is_formed_item_key k) formed
    at_key (key.Profile name) formed = cc
    at_key (key.Tier name) formed = cc
    at_key (key.Policy id) formed = ap (option_map item.Policy) (put_here policy_total exact_policy R.policies id p)
record-put R k (item.NetSet s) formed = at_key k formed
  where
    at_key : (k : Key) → is_formed (update.Put k (item.NetSet s)) ≡ true → record_at (after_put R k (item.NetSet s)) k ≡ Some (item.NetSet s)
    at_key (key.Item (item_key.Endpoint ns name)) formed = not_formed (is_formed_item_key (item_key.Endpoint ns name)) formed
    at_key (key.Item (item_key.NetSet ns name)) formed = ap (option_map item.NetSet) (put_here item_total exact_item R.net_sets (item_key.NetSet ns name) s)
    at_key (key.Profile name) formed = cc
    at_key (key.Tier name) formed = cc
    at_key (key.Policy id) formed = not_formed (is_formed_policy_id id) formed

pub record-delete : (R : Resources) (k : Key) → record_at (after_delete R k) k ≡ None
record-delete R (key.Item (item_key.Endpoint ns name)) = ap (option_map item.Endpoint) (gone_here item_total exact_item R.endpoints (item_key.Endpoint ns name))
record-delete R (key.Item (item_key.NetSet ns name)) = ap (option_map item.NetSet) (gone_here item_total exact_item R.net_sets (item_key.NetSet ns name))
record-delete R (key.Profile name) = ap (option_map item.Profile) (gone_here nat_list_cmp_total bytes_exact R.profiles name)
record-delete R (key.Tier name) = ap (option_map item.Tier) (gone_here nat_list_cmp_total bytes_exact R.tiers name)
record-delete R (key.Policy id) = ap (option_map item.Policy) (gone_here policy_total exact_policy R.policies id)

-- ---- the records at other keys

pub record-put-other : (R : Resources) (k l : Key) (x : Item) → (l ≡ k → ⊥) → record_at (after_put R k x) l ≡ record_at R l
record-put-other R k l (item.Endpoint e) differ = at_key k l differ
  where
    at_key : (k l : Key) → (l ≡ k → ⊥) → record_at (put_endpoint R k e) l ≡ record_at R l
    at_key (key.Item (item_key.Endpoint ns name)) (key.Item (item_key.Endpoint ms q)) differ =
        ap (option_map item.Endpoint) (put_elsewhere item_total exact_item R.endpoints (item_key.Endpoint ns name) (item_key.Endpoint ms q) e (λ is. differ (ap key.Item is)))
    at_key (key.Item (item_key.Endpoint ns name)) (key.Item (item_key.NetSet ms q)) differ = refl
    at_key (key.Item (item_key.Endpoint ns name)) (key.Profile q) differ = refl
    at_key (key.Item (item_key.Endpoint ns name)) (key.Tier q) differ = refl
    at_key (key.Item (item_key.Endpoint ns name)) (key.Policy q) differ = refl
    at_key (key.Item (item_key.NetSet ns name)) l differ = refl
    at_key (key.Profile name) l differ = refl
    at_key (key.Tier name) l differ = refl
    at_key (key.Policy id) l differ = refl
record-put-other R k l (item.Profile p) differ = at_key k l differ
  where
    at_key : (k l : Key) → (l ≡ k → ⊥) → record_at (put_profile R k p) l ≡ record_at R l
    at_key (key.Profile name) (key.Item (item_key.Endpoint ms q)) differ = refl
    at_key (key.Profile name) (key.Item (item_key.NetSet ms q)) differ = refl
    at_key (key.Profile name) (key.Profile q) differ =
        ap (option_map item.Profile) (put_elsewhere nat_list_cmp_total bytes_exact R.profiles name q p (λ is. differ (ap key.Profile is)))
    at_key (key.Profile name) (key.Tier q) differ = refl
    at_key (key.Profile name) (key.Policy q) differ = refl
    at_key (key.Item k) l differ = refl
    at_key (key.Tier name) l differ = refl
    at_key (key.Policy id) l differ = refl
record-put-other R k l (item.Tier t) differ = at_key k l differ
  where
    at_key : (k l : Key) → (l ≡ k → ⊥) → record_at (put_tier R k t) l ≡ record_at R l
    at_key (key.Tier name) (key.Item (item_key.Endpoint ms q)) differ = refl
    at_key (key.Tier name) (key.Item (item_key.NetSet ms q)) differ = refl
    at_key (key.Tier name) (key.Profile q) differ = refl
    at_key (key.Tier name) (key.Tier q) differ =
        ap (option_map item.Tier) (put_elsewhere nat_list_cmp_total bytes_exact R.tiers name q t (λ is. differ (ap key.Tier is)))
    at_key (key.Tier name) (key.Policy q) differ = refl
    at_key (key.Item k) l differ = refl
    at_key (key.Profile name) l differ = refl
    at_key (key.Policy id) l differ = refl
record-put-other R k l (item.Policy p) differ = at_key k l differ
  where
    at_key : (k l : Key) → (l ≡ k → ⊥) → record_at (put_policy R k p) l ≡ record_at R l
    at_key (key.Policy id) (key.Item (item_key.Endpoint ms q)) differ = refl
    at_key (key.Policy id) (key.Item (item_key.NetSet ms q)) differ = refl
    at_key (key.Policy id) (key.Profile q) differ = refl
    at_key (key.Policy id) (key.Tier q) differ = refl
    at_key (key.Policy id) (key.Policy q) differ =
        ap (option_map item.Policy) (put_elsewhere policy_total exact_policy R.policies id q p (λ is. differ (ap key.Policy is)))
    at_key (key.Item k) l differ = refl
    at_key (key.Profile name) l differ = refl
    at_key (key.Tier name) l differ = refl
record-put-other R k l (item.NetSet s) differ = at_key k l differ
  where
    at_key : (k l : Key) → (l ≡ k → ⊥) → record_at (put_net_set R k s) l ≡ record_at R l
    at_key (key.Item (item_key.NetSet ns name)) (key.Item (item_key.Endpoint ms q)) differ = refl
    at_key (key.Item (item_key.NetSet ns name)) (key.Item (item_key.NetSet ms q)) differ =
        ap (option_map item.NetSet) (put_elsewhere item_total exact_item R.net_sets (item_key.NetSet ns name) (item_key.NetSet ms q) s (λ is. differ (ap key.Item is)))
    at_key (key.Item (item_key.NetSet ns name)) (key.Profile q) differ = refl
    at_key (key.Item (item_key.NetSet ns name)) (key.Tier q) differ = refl
    at_key (key.Item (item_key.NetSet ns name)) (key.Policy q) differ = refl
    at_key (key.Item (item_key.Endpoint ns name)) l differ = refl
    at_key (key.Profile name) l differ = refl
    at_key (key.Tier name) l differ = refl
    at_key (key.Policy id) l differ = refl

pub record-delete-other : (R : Resources) (k l : Key) → (l ≡ k → ⊥) → record_at (after_delete R k) l ≡ record_at R l
record-delete-other R (key.Item (item_key.Endpoint ns name)) (key.Item (item_key.Endpoint ms q)) differ =
    ap (option_map item.Endpoint) (gone_elsewhere item_total exact_item R.endpoints (item_key.Endpoint ns name) (item_key.Endpoint ms q) (λ is. differ (ap key.Item is)))
record-delete-other R (key.Item (item_key.Endpoint ns name)) (key.Item (item_key.NetSet ms q)) differ = refl
record-delete-other R (key.Item (item_key.Endpoint ns name)) (key.Profile q) differ = refl
record-delete-other R (key.Item (item_key.Endpoint ns name)) (key.Tier q) differ = refl
record-delete-other R (key.Item (item_key.Endpoint ns name)) (key.Policy q) differ = refl
record-delete-other R (key.Item (item_key.NetSet ns name)) (key.Item (item_key.Endpoint ms q)) differ = refl
record-delete-other R (key.Item (item_key.NetSet ns name)) (key.Item (item_key.NetSet ms q)) differ =
    ap (option_map item.NetSet) (gone_elsewhere item_total exact_item R.net_sets (item_key.NetSet ns name) (item_key.NetSet ms q) (λ is. differ (ap key.Item is)))
record-delete-other R (key.Item (item_key.NetSet ns name)) (key.Profile q) differ = refl
record-delete-other R (key.Item (item_key.NetSet ns name)) (key.Tier q) differ = refl
record-delete-other R (key.Item (item_key.NetSet ns name)) (key.Policy q) differ = refl
record-delete-other R (key.Profile name) (key.Item (item_key.Endpoint ms q)) differ = refl
record-delete-other R (key.Profile name) (key.Item (item_key.NetSet ms q)) differ = refl
record-delete-other R (key.Profile name) (key.Profile q) differ =
    ap (option_map item.Profile) (gone_elsewhere nat_list_cmp_total bytes_exact R.profiles name q (λ is. differ (ap key.Profile is)))
record-delete-other R (key.Profile name) (key.Tier q) differ = refl
record-delete-other R (key.Profile name) (key.Policy q) differ = refl
record-delete-other R (key.Tier name) (key.Item (item_key.Endpoint ms q)) differ = refl
record-delete-other R (key.Tier name) (key.Item (item_key.NetSet ms q)) differ = refl
record-delete-other R (key.Tier name) (key.Profile q) differ = refl
record-delete-other R (key.Tier name) (key.Tier q) differ =
    ap (option_map item.Tier) (gone_elsewhere nat_list_cmp_total bytes_exact R.tiers name q (λ is. differ (ap key.Tier is)))
record-delete-other R (key.Tier name) (key.Policy q) differ = refl
record-delete-other R (key.Policy id) (key.Item (item_key.Endpoint ms q)) differ = refl
record-delete-other R (key.Policy id) (key.Item (item_key.NetSet ms q)) differ = refl
record-delete-other R (key.Policy id) (key.Profile q) differ = refl
record-delete-other R (key.Policy id) (key.Tier q) differ = refl
record-delete-other R (key.Policy id) (key.Policy q) differ =
    ap (option_map item.Policy) (gone_elsewhere policy_total exact_policy R.policies id q (λ is. differ (ap key.Policy is)))

-- ---- the records after updates

mark_keeps : (R : Resources) (l : Key) → record_at (after R update.InSync) l ≡ record_at R l
mark_keeps R (key.Item (item_key.Endpoint ns name)) = refl
mark_keeps R (key.Item (item_key.NetSet ns name)) = refl
mark_keeps R (key.Profile name) = refl
mark_keeps R (key.Tier name) = refl
mark_keeps R (key.Policy id) = refl

pub delete-record : (R : Resources) (k l : Key) → record_at (after_delete R k) l ≡ record_after l (record_at R l) (update.Delete k)
delete-record R k l =
    same_or_other l k _
    (λ e is. subst (λ (q : Key). record_at (after_delete R k) q ≡ None) (sym is) (record-delete R k) ∙ ap (λ b. cond b None (record_at R l)) (sym e))
    (λ e differ. record-delete-other R k l differ ∙ ap (λ b. cond b None (record_at R l)) (sym e))

pub after-record : (R : Resources) (u : Update) (l : Key) → is_formed u ≡ true → record_at (after R u) l ≡ record_after l (record_at R l) u
after-record R update.InSync l formed = mark_keeps R l
after-record R (update.Put k x) l formed =
    same_or_other l k _
    (λ e is. subst (λ (q : Key). record_at (after_put R k x) q ≡ Some x) (sym is) (record-put R k x formed) ∙ ap (λ b. cond b (Some x) (record_at R l)) (sym e))
    (λ e differ. record-put-other R k l x differ ∙ ap (λ b. cond b (Some x) (record_at R l)) (sym e))
after-record R (update.Delete k) l formed = delete-record R k l

pub all-record : (R : Resources) (us : List Update) (l : Key) → list_all is_formed us ≡ true → record_at (after_all R us) l ≡ record_in l (record_at R l) us
all-record R [] l formed = refl
all-record R (u ∷ us) l formed =
    let both = both_pass (is_formed u) (list_all is_formed us) formed in
    all-record (after R u) us l both.1 ∙ ap (λ o. record_in l o us) (after-record R u l both.0)

-- ---- what no update of a key changes

-- the node, and what stands in a map of items at a key of the other kind
pub record IsFramed (R S : Resources) : Type 0 where
  pub node : S.node ≡ R.node
  pub endpoints : (ns : Option (List ℕ)) (name : List ℕ) → maps.get S.endpoints (item_key.NetSet ns name) ≡ maps.get R.endpoints (item_key.NetSet ns name)
  pub net_sets : (ns name : List ℕ) → maps.get S.net_sets (item_key.Endpoint ns name) ≡ maps.get R.net_sets (item_key.Endpoint ns name)

pub framed-itself : (R : Resources) → IsFramed R R
framed-itself R = record { node = refl; endpoints = λ ns name. refl; net_sets = λ ns name. refl }

pub framed-back : (R S : Resources) → IsFramed R S → IsFramed S R
framed-back R S f = record { node = sym f.node; endpoints = λ ns name. sym (f.endpoints ns name); net_sets = λ ns name. sym (f.net_sets ns name) }

pub framed-on : (R S T : Resources) → IsFramed R S → IsFramed S T → IsFramed R T
framed-on R S T f g = record {
  node = g.node ∙ f.node;
  endpoints = λ ns name. g.endpoints ns name ∙ f.endpoints ns name;
  net_sets = λ ns name. g.net_sets ns name ∙ f.net_sets ns name;
}

other_kind : (ns : Option (List ℕ)) (name ms q : List ℕ) → item_key.NetSet ns name ≡ item_key.Endpoint ms q → ⊥
other_kind ns name ms q is = cc

framed-endpoint : (R : Resources) (k : Key) (e : Endpoint) → IsFramed R (put_endpoint R k e)
framed-endpoint R (key.Item (item_key.Endpoint ms q)) e = record {
  node = refl;
  endpoints = λ ns name. put_elsewhere item_total exact_item R.endpoints (item_key.Endpoint ms q) (item_key.NetSet ns name) e (other_kind ns name ms q);
  net_sets = λ ns name. refl;
}
framed-endpoint R (key.Item (item_key.NetSet ms q)) e = framed-itself R
framed-endpoint R (key.Profile name) e = framed-itself R
framed-endpoint R (key.Tier name) e = framed-itself R
framed-endpoint R (key.Policy id) e = framed-itself R

framed-net_set : (R : Resources) (k : Key) (s : NetSet) → IsFramed R (put_net_set R k s)
framed-net_set R (key.Item (item_key.NetSet ms q)) s = record {
  node = refl;
  endpoints = λ ns name. refl;
  net_sets = λ ns name. put_elsewhere item_total exact_item R.net_sets (item_key.NetSet ms q) (item_key.Endpoint ns name) s (λ is. other_kind ms q ns name (sym is));
}
framed-net_set R (key.Item (item_key.Endpoint ms q)) s = framed-itself R
framed-net_set R (key.Profile name) s = framed-itself R
framed-net_set R (key.Tier name) s = framed-itself R
framed-net_set R (key.Policy id) s = framed-itself R

framed-profile : (R : Resources) (k : Key) (p : Profile) → IsFramed R (put_profile R k p)
framed-profile R (key.Item k) p = framed-itself R
framed-profile R (key.Profile name) p = record { node = refl; endpoints = λ ns name. refl; net_sets = λ ns name. refl }
framed-profile R (key.Tier name) p = framed-itself R
framed-profile R (key.Policy id) p = framed-itself R

framed-tier : (R : Resources) (k : Key) (t : Tier) → IsFramed R (put_tier R k t)
framed-tier R (key.Item k) t = framed-itself R
framed-tier R (key.Profile name) t = framed-itself R
framed-tier R (key.Tier name) t = record { node = refl; endpoints = λ ns name. refl; net_sets = λ ns name. refl }
framed-tier R (key.Policy id) t = framed-itself R

framed-policy : (R : Resources) (k : Key) (p : Policy) → IsFramed R (put_policy R k p)
framed-policy R (key.Item k) p = framed-itself R
framed-policy R (key.Profile name) p = framed-itself R
framed-policy R (key.Tier name) p = framed-itself R
framed-policy R (key.Policy id) p = record { node = refl; endpoints = λ ns name. refl; net_sets = λ ns name. refl }

pub framed-delete : (R : Resources) (k : Key) → IsFramed R (after_delete R k)
framed-delete R (key.Item (item_key.Endpoint ms q)) = record {
  node = refl;
  endpoints = λ ns name. gone_elsewhere item_total exact_item R.endpoints (item_key.Endpoint ms q) (item_key.NetSet ns name) (other_kind ns name ms q);
  net_sets = λ ns name. refl;
}
framed-delete R (key.Item (item_key.NetSet ms q)) = record {
  node = refl;
  endpoints = λ ns name. refl;
  net_sets = λ ns name. gone_elsewhere item_total exact_item R.net_sets (item_key.NetSet ms q) (item_key.Endpoint ns name) (λ is. other_kind ms q ns name (sym is));
}
framed-delete R (key.Profile name) = record { node = refl; endpoints = λ ns name. refl; net_sets = λ ns name. refl }
framed-delete R (key.Tier name) = record { node = refl; endpoints = λ ns name. refl; net_sets = λ ns name. refl }
framed-delete R (key.Policy id) = record { node = refl; endpoints = λ ns name. refl; net_sets = λ ns name. refl }

pub framed-after : (R : Resources) (u : Update) → IsFramed R (after R u)
framed-after R update.InSync = record { node = refl; endpoints = λ ns name. refl; net_sets = λ ns name. refl }
framed-after R (update.Put k (item.Endpoint e)) = framed-endpoint R k e
framed-after R (update.Put k (item.Profile p)) = framed-profile R k p
framed-after R (update.Put k (item.Tier t)) = framed-tier R k t
framed-after R (update.Put k (item.Policy p)) = framed-policy R k p
framed-after R (update.Put k (item.NetSet s)) = framed-net_set R k s
framed-after R (update.Delete k) = framed-delete R k

pub framed-all : (R : Resources) (us : List Update) → IsFramed R (after_all R us)
framed-all R [] = framed-itself R
framed-all R (u ∷ us) = framed-on R (after R u) (after_all (after R u) us) (framed-after R u) (framed-all (after R u) us)

pub framed-without : (R : Resources) (ks : List Key) → IsFramed R (without R ks)
framed-without R [] = framed-itself R
framed-without R (k ∷ ks) = framed-on R (after_delete R k) (without (after_delete R k) ks) (framed-delete R k) (framed-without (after_delete R k) ks)

-- ---- in sync

mark_stays : (R : Resources) (k : Key) → (after_delete R k).in_sync ≡ R.in_sync
mark_stays R (key.Item (item_key.Endpoint ns name)) = refl
mark_stays R (key.Item (item_key.NetSet ns name)) = refl
mark_stays R (key.Profile name) = refl
mark_stays R (key.Tier name) = refl
mark_stays R (key.Policy id) = refl

mark_stays-endpoint : (R : Resources) (k : Key) (e : Endpoint) → (put_endpoint R k e).in_sync ≡ R.in_sync
mark_stays-endpoint R (key.Item (item_key.Endpoint ns name)) e = refl
mark_stays-endpoint R (key.Item (item_key.NetSet ns name)) e = refl
mark_stays-endpoint R (key.Profile name) e = refl
mark_stays-endpoint R (key.Tier name) e = refl
mark_stays-endpoint R (key.Policy id) e = refl

mark_stays-net_set : (R : Resources) (k : Key) (s : NetSet) → (put_net_set R k s).in_sync ≡ R.in_sync
mark_stays-net_set R (key.Item (item_key.Endpoint ns name)) s = refl
mark_stays-net_set R (key.Item (item_key.NetSet ns name)) s = refl
mark_stays-net_set R (key.Profile name) s = refl
mark_stays-net_set R (key.Tier name) s = refl
mark_stays-net_set R (key.Policy id) s = refl

mark_stays-profile : (R : Resources) (k : Key) (p : Profile) → (put_profile R k p).in_sync ≡ R.in_sync
mark_stays-profile R (key.Item k) p = refl
mark_stays-profile R (key.Profile name) p = refl
mark_stays-profile R (key.Tier name) p = refl
mark_stays-profile R (key.Policy id) p = refl

mark_stays-tier : (R : Resources) (k : Key) (t : Tier) → (put_tier R k t).in_sync ≡ R.in_sync
mark_stays-tier R (key.Item k) t = refl
mark_stays-tier R (key.Profile name) t = refl
mark_stays-tier R (key.Tier name) t = refl
mark_stays-tier R (key.Policy id) t = refl

mark_stays-policy : (R : Resources) (k : Key) (p : Policy) → (put_policy R k p).in_sync ≡ R.in_sync
mark_stays-policy R (key.Item k) p = refl
mark_stays-policy R (key.Profile name) p = refl
mark_stays-policy R (key.Tier name) p = refl
mark_stays-policy R (key.Policy id) p = refl

-- only the mark changes whether the resources are in sync
mark_stays-after : (R : Resources) (u : Update) → is_change u ≡ true → (after R u).in_sync ≡ R.in_sync
mark_stays-after R update.InSync is = cc
mark_stays-after R (update.Put k (item.Endpoint e)) is = mark_stays-endpoint R k e
mark_stays-after R (update.Put k (item.Profile p)) is = mark_stays-profile R k p
mark_stays-after R (update.Put k (item.Tier t)) is = mark_stays-tier R k t
mark_stays-after R (update.Put k (item.Policy p)) is = mark_stays-policy R k p
mark_stays-after R (update.Put k (item.NetSet s)) is = mark_stays-net_set R k s
mark_stays-after R (update.Delete k) is = mark_stays R k

pub mark_stays-all : (R : Resources) (us : List Update) → list_all is_change us ≡ true → (after_all R us).in_sync ≡ R.in_sync
mark_stays-all R [] all = refl
mark_stays-all R (u ∷ us) all =
    let both = both_pass (is_change u) (list_all is_change us) all in
    mark_stays-all (after R u) us both.1 ∙ mark_stays-after R u both.0

-- ---- when two resources are one

abbrev endpoint_in : Option Item → Option Endpoint
endpoint_in None = None
endpoint_in (Some (item.Endpoint e)) = Some e
endpoint_in (Some (item.Profile p)) = None
endpoint_in (Some (item.Tier t)) = None
endpoint_in (Some (item.Policy p)) = None
endpoint_in (Some (item.NetSet s)) = None

endpoint_back : (o : Option Endpoint) → endpoint_in (option_map item.Endpoint o) ≡ o
endpoint_back None = refl
endpoint_back (Some e) = refl

abbrev net_set_in : Option Item → Option NetSet
net_set_in None = None
net_set_in (Some (item.Endpoint e)) = None
net_set_in (Some (item.Profile p)) = None
net_set_in (Some (item.Tier t)) = None
net_set_in (Some (item.Policy p)) = None
net_set_in (Some (item.NetSet s)) = Some s

net_set_back : (o : Option NetSet) → net_set_in (option_map item.NetSet o) ≡ o
net_set_back None = refl
net_set_back (Some s) = refl

abbrev profile_in : Option Item → Option Profile
profile_in None = None
profile_in (Some (item.Endpoint e)) = None
profile_in (Some (item.Profile p)) = Some p
profile_in (Some (item.Tier t)) = None
profile_in (Some (item.Policy p)) = None
profile_in (Some (item.NetSet s)) = None

profile_back : (o : Option Profile) → profile_in (option_map item.Profile o) ≡ o
profile_back None = refl
profile_back (Some p) = refl

abbrev tier_in : Option Item → Option Tier
tier_in None = None
tier_in (Some (item.Endpoint e)) = None
tier_in (Some (item.Profile p)) = None
tier_in (Some (item.Tier t)) = Some t
tier_in (Some (item.Policy p)) = None
tier_in (Some (item.NetSet s)) = None

tier_back : (o : Option Tier) → tier_in (option_map item.Tier o) ≡ o
tier_back None = refl
tier_back (Some t) = refl

abbrev policy_in : Option Item → Option Policy
policy_in None = None
policy_in (Some (item.Endpoint e)) = None
policy_in (Some (item.Profile p)) = None
policy_in (Some (item.Tier t)) = None
policy_in (Some (item.Policy p)) = Some p
policy_in (Some (item.NetSet s)) = None

policy_back : (o : Option Policy) → policy_in (option_map item.Policy o) ≡ o
policy_back None = refl
policy_back (Some p) = refl

module _ (R S : Resources) (frame : IsFramed S R) (records : (l : Key) → record_at R l ≡ record_at S l) where
  endpoint_at : (q : ItemKey) → maps.get R.endpoints q ≡ maps.get S.endpoints q
  endpoint_at (item_key.Endpoint ns name) =
      sym (endpoint_back (maps.get R.endpoints (item_key.Endpoint ns name))) ∙ ap endpoint_in (records (key.Item (item_key.Endpoint ns name))) ∙ endpoint_back (maps.get S.endpoints (item_key.Endpoint ns name))
  endpoint_at (item_key.NetSet ns name) = frame.endpoints ns name

  net_set_at : (q : ItemKey) → maps.get R.net_sets q ≡ maps.get S.net_sets q
  net_set_at (item_key.Endpoint ns name) = frame.net_sets ns name
  net_set_at (item_key.NetSet ns name) =
      sym (net_set_back (maps.get R.net_sets (item_key.NetSet ns name))) ∙ ap net_set_in (records (key.Item (item_key.NetSet ns name))) ∙ net_set_back (maps.get S.net_sets (item_key.NetSet ns name))

  same_endpoints : R.endpoints ≡ S.endpoints
  same_endpoints = maps.same_map item_total exact_item _ _ endpoint_at

  same_net_sets : R.net_sets ≡ S.net_sets
  same_net_sets = maps.same_map item_total exact_item _ _ net_set_at

  same_profiles : R.profiles ≡ S.profiles
  same_profiles = maps.same_map nat_list_cmp_total bytes_exact _ _ (λ q. sym (profile_back (maps.get R.profiles q)) ∙ ap profile_in (records (key.Profile q)) ∙ profile_back (maps.get S.profiles q))

  same_tiers : R.tiers ≡ S.tiers
  same_tiers = maps.same_map nat_list_cmp_total bytes_exact _ _ (λ q. sym (tier_back (maps.get R.tiers q)) ∙ ap tier_in (records (key.Tier q)) ∙ tier_back (maps.get S.tiers q))

  same_policies : R.policies ≡ S.policies
  same_policies = maps.same_map policy_total exact_policy _ _ (λ q. sym (policy_back (maps.get R.policies q)) ∙ ap policy_in (records (key.Policy q)) ∙ policy_back (maps.get S.policies q))

  -- but for whether they are in sync
  pub alike : R ≡ record S { in_sync = R.in_sync }
  alike = λ i. record {
    node = frame.node i;
    in_sync = R.in_sync;
    endpoints = same_endpoints i;
    net_sets = same_net_sets i;
    profiles = same_profiles i;
    tiers = same_tiers i;
    policies = same_policies i;
  }

  pub alike-in_sync : R.in_sync ≡ S.in_sync → R ≡ S
  alike-in_sync same = alike ∙ ap (λ b. record S { in_sync = b }) same

-- ---- claims

listed-record : (dg : Digest) (node ns name : List ℕ) (o : Option Endpoint) → listed_claims dg node (item_key.Endpoint ns name) o ≡ record_claims dg node (key.Item (item_key.Endpoint ns name)) (option_map item.Endpoint o)
listed-record dg node ns name None = refl
listed-record dg node ns name (Some e) = refl

net_set-record : (dg : Digest) (node : List ℕ) (ns : Option (List ℕ)) (name : List ℕ) (o : Option NetSet) → [] ≡ record_claims dg node (key.Item (item_key.NetSet ns name)) (option_map item.NetSet o)
net_set-record dg node ns name None = refl
net_set-record dg node ns name (Some s) = refl

named-record : (dg : Digest) (node name : List ℕ) (o : Option Profile) → named_claims dg name o ≡ record_claims dg node (key.Profile name) (option_map item.Profile o)
named-record dg node name None = refl
named-record dg node name (Some p) = refl

tier-record : (dg : Digest) (node name : List ℕ) (o : Option Tier) → [] ≡ record_claims dg node (key.Tier name) (option_map item.Tier o)
tier-record dg node name None = refl
tier-record dg node name (Some t) = refl

given-record : (dg : Digest) (node : List ℕ) (id : PolicyId) (o : Option Policy) → given_policy_claims dg id o ≡ record_claims dg node (key.Policy id) (option_map item.Policy o)
given-record dg node id None = refl
given-record dg node id (Some p) = refl

-- what stands at a key claims what its record does
pub claims-record : (dg : Digest) (R : Resources) (k : Key) → claims_at dg R k ≡ record_claims dg R.node k (record_at R k)
claims-record dg R (key.Item (item_key.Endpoint ns name)) = listed-record dg R.node ns name (maps.get R.endpoints (item_key.Endpoint ns name))
claims-record dg R (key.Item (item_key.NetSet ns name)) = net_set-record dg R.node ns name (maps.get R.net_sets (item_key.NetSet ns name))
claims-record dg R (key.Profile name) = named-record dg R.node name (maps.get R.profiles name)
claims-record dg R (key.Tier name) = tier-record dg R.node name (maps.get R.tiers name)
claims-record dg R (key.Policy id) = given-record dg R.node id (maps.get R.policies id)
