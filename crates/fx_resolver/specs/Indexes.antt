-- What the node holds beside its inputs, so as to find things: sets of keys under keys.
use Rattle.std.specs.Prelude.{◌≡◌, ℕ, Bool, false, List, [], ◌∷◌, Option, Some, None}
use Rattle.std.specs.Ordering.{nat_cmp, eq_by_cmp}
use Rattle.std.specs.Cmp.Lexicographic.{slice_cmp}
use Rattle.std.specs.FinMap as maps
use Rattle.fx_base.specs.Grouped.{Grouped, has_key, same_text}
use Rattle.fx_base.specs.Set as set
use Rattle.fx_model.specs.Pairs.{PolicyPairs}
use Rattle.fx_model.specs.declared.ids.ItemKey.{ItemKey}
use Rattle.fx_model.specs.declared.ids.PolicyId.{PolicyId}
use Rattle.fx_model.specs.contracts.ids.ItemKeyOrd.TheImpl as item_cmp
use Rattle.fx_model.specs.contracts.ids.PolicyIdOrd.TheImpl as policy_cmp
use Rattle.fx_resolver.specs.declared.known.KnownPolicy.{KnownPolicy}
use Rattle.fx_resolver.specs.Known.{KnownPolicies}

abbrev pub same_id : PolicyId → PolicyId → Bool
same_id q id = eq_by_cmp policy_cmp.cmp-value.it q id

abbrev pub same_item : ItemKey → ItemKey → Bool
same_item i k = eq_by_cmp item_cmp.cmp-value.it i k

abbrev pub Items : Type 0
Items = set.Set item_cmp.cmp-value.it

abbrev pub Ids : Type 0
Ids = set.Set policy_cmp.cmp-value.it

-- ---- the policies of each tier

abbrev pub IdsByTier : Type 0
IdsByTier = Grouped (slice_cmp nat_cmp) policy_cmp.cmp-value.it

-- a policy that is there is in this tier
abbrev pub is_in_tier : List ℕ → Option KnownPolicy → Bool
is_in_tier t None = false
is_in_tier t (Some p) = same_text t p.tier

-- below each tier stand the policies that name it
abbrev pub AreByTier : IdsByTier → KnownPolicies → Type 0
AreByTier by_tier policies = (t : List ℕ) (id : PolicyId) → has_key (maps.get by_tier t) id ≡ is_in_tier t (maps.get policies id)

-- ---- the items of each policy, seen as pairs

abbrev pub ItemsByPolicy : Type 0
ItemsByPolicy = Grouped policy_cmp.cmp-value.it item_cmp.cmp-value.it

-- with the pairs of a policy and some items
abbrev pub with_items : PolicyId → List ItemKey → PolicyPairs → PolicyPairs
with_items id [] s = s
with_items id (i ∷ is) s = set.insert (with_items id is s) (id, i)

abbrev pub pairs_in : List (PolicyId × Items) → PolicyPairs
pairs_in [] = set.empty
pairs_in (e ∷ es) = with_items e.0 (set.items e.1) (pairs_in es)

abbrev pub pairs_of : ItemsByPolicy → PolicyPairs
pairs_of rows = pairs_in (maps.entries rows)
