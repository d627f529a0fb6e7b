-- Worked examples: how many tests updates call for.
use Rattle.std.proofs.Common.{◌≡◌, ℕ, true, false, cond, List, [], ◌∷◌, Some, None}
use Rattle.std.specs.Prelude.{codes}
use Rattle.std.specs.Cmp.Lexicographic.{slice_cmp, nat_list_cmp_total}
use Rattle.std.specs.Ordering.{nat_cmp, eq_by_cmp}
use Rattle.std.specs.FinMap as maps
use Rattle.fx_base.proofs.Entries.{entries-empty}
use Rattle.fx_selector.specs.Tree.{Tree, equal, has, negated}
use Rattle.fx_selector.specs.Truth.{LabelMap}
use Rattle.fx_model.specs.contracts.ids.ItemKeyOrd.TheImpl as item_cmp
use Rattle.fx_model.specs.contracts.ids.PolicyIdOrd.TheImpl as policy_cmp
use Rattle.fx_model.specs.declared.ids.ItemKey.{ItemKey}
use Rattle.fx_model.specs.declared.ids.ItemKey.TheVariants as item_key
use Rattle.fx_model.specs.declared.ids.Key.TheVariants as key
use Rattle.fx_model.specs.declared.ids.PolicyId.{PolicyId}
use Rattle.fx_model.specs.declared.ids.PolicyId.TheVariants as policy_id
use Rattle.fx_model.specs.declared.policy.Policy.{Policy}
use Rattle.fx_model.specs.declared.resources.Endpoint.{Endpoint}
use Rattle.fx_model.specs.declared.resources.Item.TheVariants as item
use Rattle.fx_model.specs.declared.resources.Profile.{Profile}
use Rattle.fx_model.specs.declared.resources.Resources.{Resources}
use Rattle.fx_model.specs.declared.resources.Update.{Update}
use Rattle.fx_model.specs.declared.resources.Update.TheVariants as update
use Rattle.fx_model.specs.declared.rules.Rule.{Rule}
use Rattle.fx_model.specs.Resources.{empty_resources}
use Rattle.fx_model.specs.Tests.{most_tests, least_tests}
use Rattle.fx_model.proofs.Orders.{item_total, policy_total}

-- maps that are put together compute
module _ {X : Type 0} where
  items-insert : (m : maps.FinMap item_cmp.cmp-value.it X) (k : ItemKey) (v : X) → maps.entries (maps.insert m k v) ≡ maps.put item_cmp.cmp-value.it k v (maps.entries m)
  items-insert m k v = maps.entries-insert item_total m k v

  policies-insert : (m : maps.FinMap policy_cmp.cmp-value.it X) (k : PolicyId) (v : X) → maps.entries (maps.insert m k v) ≡ maps.put policy_cmp.cmp-value.it k v (maps.entries m)
  policies-insert m k v = maps.entries-insert policy_total m k v

  texts-insert : (m : maps.FinMap (slice_cmp nat_cmp) X) (k : List ℕ) (v : X) → maps.entries (maps.insert m k v) ≡ maps.put (slice_cmp nat_cmp) k v (maps.entries m)
  texts-insert m k v = maps.entries-insert nat_list_cmp_total m k v

  item-insert : (m : maps.FinMap item_cmp.cmp-value.it X) (k : ItemKey) (v : X) (q : ItemKey) → maps.get (maps.insert m k v) q ≡ cond (eq_by_cmp item_cmp.cmp-value.it q k) (Some v) (maps.get m q)
  item-insert m k v q = maps.get-insert item_total m k v q

  text-insert : (m : maps.FinMap (slice_cmp nat_cmp) X) (k : List ℕ) (v : X) (q : List ℕ) → maps.get (maps.insert m k v) q ≡ cond (eq_by_cmp (slice_cmp nat_cmp) q k) (Some v) (maps.get m q)
  text-insert m k v q = maps.get-insert nat_list_cmp_total m k v q

  items-empty : maps.entries (maps.empty {X = X} {R = item_cmp.cmp-value.it}) ≡ []
  items-empty = entries-empty item_cmp.cmp-value.it

  policies-empty : maps.entries (maps.empty {X = X} {R = policy_cmp.cmp-value.it}) ≡ []
  policies-empty = entries-empty policy_cmp.cmp-value.it

  texts-empty : maps.entries (maps.empty {X = X} {R = slice_cmp nat_cmp}) ≡ []
  texts-empty = entries-empty (slice_cmp nat_cmp)

  item-empty : (q : ItemKey) → maps.get (maps.empty {X = X} {R = item_cmp.cmp-value.it}) q ≡ None
  item-empty q = maps.get-empty item_cmp.cmp-value.it q

  text-empty : (q : List ℕ) → maps.get (maps.empty {X = X} {R = slice_cmp nat_cmp}) q ≡ None
  text-empty q = maps.get-empty (slice_cmp nat_cmp) q

module _ {X : Type 0} where
  text-removed : (m : maps.FinMap (slice_cmp nat_cmp) X) (k q : List ℕ) → maps.get (maps.remove m k) q ≡ cond (eq_by_cmp (slice_cmp nat_cmp) q k) None (maps.get m q)
  text-removed m k q = maps.get-remove nat_list_cmp_total m k q

ruleset computed = (text-removed, items-insert, policies-insert, texts-insert, item-insert, text-insert, items-empty, policies-empty, texts-empty, item-empty, text-empty)

-- ---- what the examples are made of

abbrev role : List ℕ → LabelMap
role v = maps.insert maps.empty (codes "role") v

abbrev is_role : List ℕ → Tree
is_role v = equal (codes "role") v

abbrev w : ItemKey
w = item_key.Endpoint (codes "a") (codes "w")

abbrev endpoint : LabelMap → List (List ℕ) → Endpoint
endpoint labels profiles = record { node = codes "n"; iface = codes "cali1"; labels = labels; addresses = []; profiles = profiles; ports = [] }

abbrev put : LabelMap → Update
put labels = update.Put (key.Item w) (item.Endpoint (endpoint labels []))

abbrev g : PolicyId
g = policy_id.Global (codes "g")

abbrev policy : Tree → List Rule → Policy
policy t rules = record { tier = codes "default"; order = None; selector = t; on_ingress = true; on_egress = false; ingress = rules; egress = [] }

-- one endpoint and one policy
abbrev with_policy : Tree → LabelMap → Resources
with_policy t labels = record (empty_resources (codes "n")) {
  endpoints = maps.insert maps.empty w (endpoint labels []);
  policies = maps.insert maps.empty g (policy t []);
}

-- ---- an endpoint that gets the label that a policy's selector asks for

pub label_comes_most : most_tests (with_policy (is_role (codes "b")) (role (codes "a"))) (put (role (codes "b"))) ≡ 1
label_comes_most = simp computed

pub label_comes_least : least_tests (with_policy (is_role (codes "b")) (role (codes "a"))) (put (role (codes "b"))) ≡ 1
label_comes_least = simp computed

-- one that loses it may be tested, and need not be
pub label_goes_most : most_tests (with_policy (is_role (codes "b")) (role (codes "b"))) (put (role (codes "a"))) ≡ 1
label_goes_most = simp computed

pub label_goes_least : least_tests (with_policy (is_role (codes "b")) (role (codes "b"))) (put (role (codes "a"))) ≡ 0
label_goes_least = simp computed

-- a selector that needs nothing is met by all labels, and need not be tested where it held already
pub needs_nothing_most : most_tests (with_policy (negated (has (codes "x"))) (role (codes "a"))) (put (role (codes "b"))) ≡ 1
needs_nothing_most = simp computed

pub needs_nothing_least : least_tests (with_policy (negated (has (codes "x"))) (role (codes "a"))) (put (role (codes "b"))) ≡ 0
needs_nothing_least = simp computed

-- an update that touches no labels tests nothing
pub untouched : most_tests (with_policy (is_role (codes "b")) (role (codes "b"))) (update.Put (key.Tier (codes "t")) (item.Tier (record { order = None; pass_at_end = false }))) ≡ 0
untouched = simp computed

-- ---- a label that comes with a profile, and goes with it

abbrev labelled_b : Profile
labelled_b = record { labels = role (codes "b"); ingress = []; egress = [] }

abbrev listing : Resources
listing = record (with_policy (is_role (codes "b")) maps.empty) { endpoints = maps.insert maps.empty w (endpoint maps.empty (codes "open" ∷ [])) }

pub inherited_most : most_tests listing (update.Put (key.Profile (codes "open")) (item.Profile labelled_b)) ≡ 1
inherited_most = simp computed

pub inherited_least : least_tests listing (update.Put (key.Profile (codes "open")) (item.Profile labelled_b)) ≡ 1
inherited_least = simp computed

pub disinherited_least : least_tests (record listing { profiles = maps.insert maps.empty (codes "open") labelled_b }) (update.Delete (key.Profile (codes "open"))) ≡ 0
disinherited_least = simp computed

-- ---- a selector that comes, among two endpoints

abbrev v : ItemKey
v = item_key.Endpoint (codes "a") (codes "v")

abbrev two : Resources
two = record (empty_resources (codes "n")) {
  endpoints = maps.insert (maps.insert maps.empty w (endpoint (role (codes "b")) [])) v (endpoint (role (codes "c")) []);
}

abbrev put_policy : Tree → Update
put_policy t = update.Put (key.Policy g) (item.Policy (policy t []))

pub met_by_one : most_tests two (put_policy (is_role (codes "b"))) ≡ 1
met_by_one = simp computed

pub met_by_both : most_tests two (put_policy (negated (is_role (codes "b")))) ≡ 2
met_by_both = simp computed

pub holds_on_one : least_tests two (put_policy (negated (is_role (codes "b")))) ≡ 1
holds_on_one = simp computed
