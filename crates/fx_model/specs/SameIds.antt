-- `==` tells all ids and keys apart, and a clone is its source.
use Rattle.std.specs.Prelude.{◌≡◌, true, nat_eq, Some, None}
use Rattle.std.specs.Cmp.Lexicographic.{pointwise}
use Rattle.std.specs.Option.{option_eq}
use Rattle.fx_base.specs.Same.{same_bytes, both_pass, same_option}
use Rattle.fx_model.specs.declared.ids.PolicyId.{PolicyId}
use Rattle.fx_model.specs.declared.ids.PolicyId.TheVariants.{Global, Namespaced, Kube}
use Rattle.fx_model.specs.contracts.ids.PolicyIdPartialEq.TheImpl as policy_eq
use Rattle.fx_model.specs.contracts.ids.PolicyIdClone.TheImpl as policy_clone
use Rattle.fx_model.specs.declared.ids.ItemKey.{ItemKey}
use Rattle.fx_model.specs.declared.ids.ItemKey.TheVariants.{Endpoint, NetSet}
use Rattle.fx_model.specs.contracts.ids.ItemKeyPartialEq.TheImpl as item_eq
use Rattle.fx_model.specs.contracts.ids.ItemKeyClone.TheImpl as item_clone
use Rattle.fx_model.specs.declared.ids.Key.{Key}
use Rattle.fx_model.specs.declared.ids.Key.TheVariants as key
use Rattle.fx_model.specs.contracts.ids.KeyPartialEq.TheImpl as key_eq
use Rattle.fx_model.specs.contracts.ids.KeyClone.TheImpl as key_clone

pub same_policy_id : (x y : PolicyId) → policy_eq.eq-value.it x y ≡ true → x ≡ y
same_policy_id (Global a) (Global b) e = λ i. Global (same_bytes a b e i)
same_policy_id (Namespaced a b) (Namespaced c d) e = let p = both_pass (pointwise nat_eq a c) (pointwise nat_eq b d) e in λ i. Namespaced (same_bytes a c p.0 i) (same_bytes b d p.1 i)
same_policy_id (Kube a b) (Kube c d) e = let p = both_pass (pointwise nat_eq a c) (pointwise nat_eq b d) e in λ i. Kube (same_bytes a c p.0 i) (same_bytes b d p.1 i)
same_policy_id _ _ e = cc

pub copies_policy_id : (x y : PolicyId) → policy_clone.is_clone-value.it x y → y ≡ x
copies_policy_id (Global a) (Global b) h = λ i. Global (h i)
copies_policy_id (Namespaced a b) (Namespaced c d) h = λ i. Namespaced (h.0 i) (h.1 i)
copies_policy_id (Kube a b) (Kube c d) h = λ i. Kube (h.0 i) (h.1 i)
copies_policy_id _ _ h = absurd h

pub same_item : (x y : ItemKey) → item_eq.eq-value.it x y ≡ true → x ≡ y
same_item (Endpoint a b) (Endpoint c d) e = let p = both_pass (pointwise nat_eq a c) (pointwise nat_eq b d) e in λ i. Endpoint (same_bytes a c p.0 i) (same_bytes b d p.1 i)
same_item (NetSet a b) (NetSet c d) e = let p = both_pass (option_eq (pointwise nat_eq) a c) (pointwise nat_eq b d) e in λ i. NetSet (same_option (pointwise nat_eq) same_bytes a c p.0 i) (same_bytes b d p.1 i)
same_item (Endpoint a b) (NetSet c d) e = cc
same_item (NetSet a b) (Endpoint c d) e = cc

pub copies_item : (x y : ItemKey) → item_clone.is_clone-value.it x y → y ≡ x
copies_item (Endpoint a b) (Endpoint c d) h = λ i. Endpoint (h.0 i) (h.1 i)
copies_item (NetSet None b) (NetSet None d) h = λ i. NetSet None (h.1 i)
copies_item (NetSet (Some a) b) (NetSet (Some c) d) h = λ i. NetSet (Some (h.0 i)) (h.1 i)
copies_item (NetSet None b) (NetSet (Some c) d) h = absurd h.0
copies_item (NetSet (Some a) b) (NetSet None d) h = absurd h.0
copies_item (Endpoint a b) (NetSet c d) h = absurd h
copies_item (NetSet a b) (Endpoint c d) h = absurd h

pub same_key : (x y : Key) → key_eq.eq-value.it x y ≡ true → x ≡ y
same_key (key.Item a) (key.Item b) e = λ i. key.Item (same_item a b e i)
same_key (key.Profile a) (key.Profile b) e = λ i. key.Profile (same_bytes a b e i)
same_key (key.Tier a) (key.Tier b) e = λ i. key.Tier (same_bytes a b e i)
same_key (key.Policy a) (key.Policy b) e = λ i. key.Policy (same_policy_id a b e i)
same_key _ _ e = cc

pub copies_key : (x y : Key) → key_clone.is_clone-value.it x y → y ≡ x
copies_key (key.Item a) (key.Item b) h = λ i. key.Item (copies_item a b h i)
copies_key (key.Profile a) (key.Profile b) h = λ i. key.Profile (h i)
copies_key (key.Tier a) (key.Tier b) h = λ i. key.Tier (h i)
copies_key (key.Policy a) (key.Policy b) h = λ i. key.Policy (copies_policy_id a b h i)
copies_key _ _ h = absurd h
