-- What the active rules told, over items, parents, policies, profiles and endpoints alone.
use Rattle.std.specs.Prelude.{◌≡◌, Bool, false, cond, ◌&&◌, Option, Some, None}
use Rattle.std.specs.List.{list_any}
use Rattle.std.specs.FinMap as map
use Rattle.fx_base.specs.Set as set
use Rattle.fx_selector.specs.Tree.{Tree}
use Rattle.fx_model.specs.Active.{has_types}
use Rattle.fx_model.specs.Pairs.{PolicyPairs}
use Rattle.fx_model.specs.Sinks.{Policies, Profiles}
use Rattle.fx_model.specs.declared.ids.ItemKey.{ItemKey}
use Rattle.fx_model.specs.declared.ids.PolicyId.{PolicyId}
use Rattle.fx_model.specs.declared.policy.Policy.{Policy}
use Rattle.fx_label_index.specs.declared.held.Inputs as index
use Rattle.fx_label_index.specs.Matched.{holds_on, labels_of}
use Rattle.fx_active.specs.Inputs.{Endpoints}
use Rattle.fx_active.specs.declared.inputs.Inputs as active
use Rattle.fx_active.specs.Active.{AreProfiles}

-- the selector holds on the effective labels of an item that is there
abbrev pub holds_at : index.Inputs → Tree → ItemKey → Bool
holds_at n tree i = holds_on tree (labels_of (map.get n.parents) (map.get n.items i))

-- the policy, while it has a type and its selector holds on some endpoint
abbrev pub acting : index.Inputs → Endpoints → Option Policy → Option Policy
acting n endpoints None = None
acting n endpoints (Some p) = cond (has_types p && list_any (λ i. holds_at n p.selector i) (map.keys endpoints)) (Some p) None

-- whether it has a type and its selector holds on this endpoint
abbrev pub concerns : index.Inputs → Endpoints → Option Policy → ItemKey → Bool
concerns n endpoints None i = false
concerns n endpoints (Some p) i = has_types p && (map.contains_key endpoints i && holds_at n p.selector i)

-- the policies that act on some endpoint, the profiles that endpoints list, and the pairs of a policy and an endpoint
pub record IsComposed (n : index.Inputs) (a : active.Inputs) (policies : Policies) (profiles : Profiles) (pairs : PolicyPairs) : Type 0 where
  pub policies_are : (id : PolicyId) → map.get policies id ≡ acting n a.endpoints (map.get a.policies id)
  pub profiles_are : AreProfiles a.profiles a.endpoints profiles
  pub pairs_are : (id : PolicyId) (i : ItemKey) → set.contains pairs (id, i) ≡ concerns n a.endpoints (map.get a.policies id) i
