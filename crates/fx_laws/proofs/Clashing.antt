-- The first clash of one update: of a put it is that of what is put, and a delete has none.
use Rattle.std.proofs.Common.{◌≡◌, [], Some, None, cond, refl, ap, ◌∙◌}
use Rattle.std.proofs.lemmas.List.{append-nil}
use Rattle.std.specs.Ordering.{is_eq}
use Rattle.std.specs.declared.cmp.Ordering.{Ordering}
use Rattle.std.specs.Cmp.{IsTotalOrder, tied_itself}
use Rattle.std.specs.Cmp.Lexicographic.{nat_list_cmp_total}
use Rattle.std.specs.FinMap.{FinMap, get, insert, remove, get-insert, get-remove}
use Rattle.std.proofs.Common.{true}
use Rattle.fx_names.specs.Digests.{Digest}
use Rattle.fx_names.specs.Claims.{first_clash}
use Rattle.fx_model.specs.declared.ids.ItemKey.TheVariants as item_key
use Rattle.fx_model.specs.declared.ids.Key.{Key}
use Rattle.fx_model.specs.declared.ids.Key.TheVariants as key
use Rattle.fx_model.specs.declared.resources.Item.{Item}
use Rattle.fx_model.specs.declared.resources.Item.TheVariants as item
use Rattle.fx_model.specs.declared.resources.Resources.{Resources}
use Rattle.fx_model.specs.declared.resources.Update.TheVariants as update
use Rattle.fx_model.specs.Resources.{after_put, after_delete}
use Rattle.fx_model.specs.Formed.{is_formed_item_key, is_formed_policy_id, is_formed}
use Rattle.fx_model.specs.Claims.{claims_of, listed_claims, named_claims, given_policy_claims, claims_at, all_claims, clash}
use Rattle.fx_model.proofs.Orders.{item_total, policy_total}
use Rattle.fx_laws.proofs.FormedLemmas.{not_formed}

module _ {K X : Type 0} {R : K → K → Ordering} (o : IsTotalOrder R) (m : FinMap R X) (k : K) where
  at_put : (x : X) → get (insert m k x) k ≡ Some x
  at_put x = get-insert o m k x k ∙ ap (λ r. cond (is_eq r) (Some x) (get m k)) (tied_itself o k)

  at_removed : get (remove m k) k ≡ None
  at_removed = get-remove o m k k ∙ ap (λ r. cond (is_eq r) None (get m k)) (tied_itself o k)

module _ (dg : Digest) (R : Resources) where
  -- what is put claims what it does by itself
  pub claims_at-put : (k : Key) (x : Item) → is_formed (update.Put k x) ≡ true → claims_at dg (after_put R k x) k ≡ claims_of dg R.node k x
  claims_at-put k (item.Endpoint e) formed = at_key k formed
    where
      at_key : (k : Key) → is_formed (update.Put k (item.Endpoint e)) ≡ true → claims_at dg (after_put R k (item.Endpoint e)) k ≡ claims_of dg R.node k (item.Endpoint e)
      at_key (key.Item (item_key.Endpoint ns name)) formed = let k = item_key.Endpoint ns name in ap (listed_claims dg R.node k) (at_put item_total R.endpoints k e)
      at_key (key.Item (item_key.NetSet ns name)) formed = not_formed (is_formed_item_key (item_key.NetSet ns name)) formed
      at_key (key.Profile name) formed = cc
      at_key (key.Tier name) formed = cc
      at_key (key.Policy id) formed = not_formed (is_formed_policy_id id) formed
  claims_at-put k (item.Profile p) formed = at_key k formed
    where
      at_key : (k : Key) → is_formed (update.Put k (item.Profile p)) ≡ true → claims_at dg (after_put R k (item.Profile p)) k ≡ claims_of dg R.node k (item.Profile p)
      at_key (key.Item k) formed = not_formed (is_formed_item_key k) formed
      at_key (key.Profile name) formed = ap (named_claims dg name) (at_put nat_list_cmp_total R.profiles name p)
      at_key (key.Tier name) formed = cc
      at_key (key.Policy id) formed = not_formed (is_formed_policy_id id) formed
  claims_at-put k (item.Tier t) formed = at_key k formed
    where
      at_key : (k : Key) → is_formed (update.Put k (item.Tier t)) ≡ true → claims_at dg (after_put R k (item.Tier t)) k ≡ claims_of dg R.node k (item.Tier t)
      at_key (key.Item k) formed = not_formed (is_formed_item_key k) formed
      at_key (key.Profile name) formed = cc
      at_key (key.Tier name) formed = refl
      at_key (key.Policy id) formed = not_formed (is_formed_policy_id id) formed
  claims_at-put k (item.Policy p) formed = at_key k formed
    where
      at_key : (k : Key) → is_formed (update.Put k (item.Policy p)) ≡ true → claims_at dg (after_put R k (item.Policy p)) k ≡ claims_of dg R.node k (item.Policy p)
      at_key (key.Item k) formed = not_formed (is_formed_item_key k) formed
      at_key (key.Profile name) formed = cc
      at_key (key.Tier name) formed = cc
      at_key (key.Policy id) formed = ap (given_policy_claims dg id) (at_put policy_total R.policies id p)
  claims_at-put k (item.NetSet s) formed = at_key k formed
    where
      at_key : (k : Key) → is_formed (update.Put k (item.NetSet s)) ≡ true → claims_at dg (after_put R k (item.NetSet s)) k ≡ claims_of dg R.node k (item.NetSet s)
      at_key (key.Item (item_key.Endpoint ns name)) formed = not_formed (is_formed_item_key (item_key.Endpoint ns name)) formed
      at_key (key.Item (item_key.NetSet ns name)) formed = refl
      at_key (key.Profile name) formed = cc
      at_key (key.Tier name) formed = cc
      at_key (key.Policy id) formed = not_formed (is_formed_policy_id id) formed

  claims_at-delete : (k : Key) → claims_at dg (after_delete R k) k ≡ []
  claims_at-delete (key.Item (item_key.Endpoint ns name)) = let k = item_key.Endpoint ns name in ap (listed_claims dg R.node k) (at_removed item_total R.endpoints k)
  claims_at-delete (key.Item (item_key.NetSet ns name)) = refl
  claims_at-delete (key.Profile name) = ap (named_claims dg name) (at_removed nat_list_cmp_total R.profiles name)
  claims_at-delete (key.Tier name) = refl
  claims_at-delete (key.Policy id) = ap (given_policy_claims dg id) (at_removed policy_total R.policies id)

  pub clash-put : (k : Key) (x : Item) → is_formed (update.Put k x) ≡ true → clash dg R (update.Put k x) ≡ first_clash (all_claims dg (after_delete R k)) (claims_of dg R.node k x)
  clash-put k x formed = ap (first_clash (all_claims dg (after_delete R k))) (append-nil (claims_at dg (after_put R k x) k) ∙ claims_at-put k x formed)

  pub clash-delete : (k : Key) → clash dg R (update.Delete k) ≡ None
  clash-delete k = ap (first_clash (all_claims dg (after_delete R k))) (append-nil (claims_at dg (after_delete R k) k) ∙ claims_at-delete k)
