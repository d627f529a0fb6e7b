-- What single steps make of what the sink has.
use Rattle.std.specs.Prelude.{◌≡◌, ℕ, Bool, false, cond, not, ◌&&◌, nat_eq, List, Option, Some, None}
use Rattle.std.specs.Ordering.{eq_by_cmp}
use Rattle.std.specs.Cmp.Lexicographic.{pointwise}
use Rattle.std.specs.declared.cmp.Ordering.{Ordering}
use Rattle.std.specs.FinMap as map
use Rattle.fx_base.specs.Set as set
use Rattle.fx_model.specs.Active.{has_types}
use Rattle.fx_model.specs.Pairs.{Pairs, PolicyPairs}
use Rattle.fx_model.specs.Sinks.{Policies}
use Rattle.fx_model.specs.declared.ids.ItemKey.{ItemKey}
use Rattle.fx_model.specs.declared.ids.PolicyId.{PolicyId}
use Rattle.fx_model.specs.declared.policy.Policy.{Policy}
use Rattle.fx_model.specs.contracts.ids.ItemKeyOrd.TheImpl as item_cmp
use Rattle.fx_model.specs.contracts.ids.PolicyIdOrd.TheImpl as policy_cmp
use Rattle.fx_active.specs.Inputs.{Endpoints}
use Rattle.fx_active.specs.Active.{text_of, holds_somewhere}

abbrev pub same_id : PolicyId → PolicyId → Bool
same_id q id = eq_by_cmp policy_cmp.cmp-value.it q id

abbrev pub same_item : ItemKey → ItemKey → Bool
same_item i k = eq_by_cmp item_cmp.cmp-value.it i k

-- the policy, if it has a type
abbrev pub typed : Option Policy → Option Policy
typed None = None
typed (Some p) = cond (has_types p) (Some p) None

-- with the value, or without one
abbrev pub insert_or_remove : {K X : Type 0} {R : K → K → Ordering} → map.FinMap R X → K → X → Bool → map.FinMap R X
insert_or_remove m k x b = cond b (map.insert m k x) (map.remove m k)

-- a policy that is there has a type and selects the item
abbrev pub selects : Pairs → ItemKey → Option Policy → Bool
selects matched item None = false
selects matched item (Some p) = has_types p && set.contains matched (text_of p, item)

-- a policy that is there has a type
abbrev pub is_typed : Option Policy → Bool
is_typed None = false
is_typed (Some p) = has_types p

-- a policy that is there has a type and this selector
abbrev pub has_typed_text : List ℕ → Option Policy → Bool
has_typed_text t None = false
has_typed_text t (Some p) = has_types p && pointwise nat_eq (text_of p) t

-- the selector of a policy that is there holds on some endpoint
abbrev pub holds_of : Endpoints → Pairs → Option Policy → Bool
holds_of endpoints matched None = false
holds_of endpoints matched (Some p) = holds_somewhere endpoints matched (text_of p)

-- with the pair, or as they are
abbrev pub beside : Pairs → List ℕ × ItemKey → Bool → Pairs
beside matched pair b = cond b (set.insert matched pair) matched

-- one policy's pairs are other ones
abbrev pub IsRowSet : PolicyId → (ItemKey → Bool) → PolicyPairs → PolicyPairs → Type 0
IsRowSet id row s s' = (q : PolicyId) (i : ItemKey) → set.contains s' (q, i) ≡ cond (same_id q id) (row i) (set.contains s (q, i))

-- the pairs of an item and the policies that it concerns are added or removed, and so are those policies that have no others
pub record IsUpdated (policies : Policies) (concerned others : PolicyId → Bool) (item : ItemKey) (added : Bool) (m : Policies) (s : PolicyPairs) (m' : Policies) (s' : PolicyPairs) : Type 0 where
  pub policies_now : (id : PolicyId) → map.get m' id ≡ cond (concerned id && not (others id)) (cond added (map.get policies id) None) (map.get m id)
  pub pairs_now : (id : PolicyId) (i : ItemKey) → set.contains s' (id, i) ≡ cond (concerned id && same_item i item) added (set.contains s (id, i))
