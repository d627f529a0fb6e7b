-- What each node told is what it defines, and the inputs of the next one are what was told.
use Rattle.std.specs.Prelude.{◌≡◌, ℕ, List, Some, option_map}
use Rattle.std.specs.FinMap as map
use Rattle.fx_base.specs.Set as set
use Rattle.fx_selector.specs.Canonical.{canonical_text}
use Rattle.fx_names.specs.Digests.{Digest}
use Rattle.fx_model.specs.declared.ids.ItemKey.{ItemKey}
use Rattle.fx_model.specs.declared.ids.PolicyId.{PolicyId}
use Rattle.fx_model.specs.declared.set_use.SetUse.{SetUse}
use Rattle.fx_model.specs.declared.view.View.{View}
use Rattle.fx_model.specs.Pairs.{PolicyPairs}
use Rattle.fx_model.specs.Sinks.{Policies, Profiles, Uses}
use Rattle.fx_model.specs.Views.{policy_key}
use Rattle.fx_label_index.specs.declared.held.Inputs as index
use Rattle.fx_active.specs.declared.inputs.Inputs as active
use Rattle.fx_graph_rules.specs.Composed.{holds_at, IsComposed}
use Rattle.fx_scanner.specs.declared.inputs.Inputs as scanner
use Rattle.fx_scanner.specs.Scanned.{IsScanned}
use Rattle.fx_resolver.specs.declared.inputs.Inputs as resolver
use Rattle.fx_resolver.specs.Known.{known_policy}
use Rattle.fx_resolver.specs.Resolved.{IsResolved}
use Rattle.fx_members.specs.declared.inputs.Inputs as members
use Rattle.fx_members.specs.Members.{AreMembers}

-- The active rules tell policies and profiles to the scanner, and policies and pairs to the resolver. The scanner tells sets to the
-- members, whose items are those on which the sets' selectors hold. The view is what the scanner, the resolver and the members told.
pub record IsTold (dg : Digest) (n : index.Inputs) (a : active.Inputs) (policies : Policies) (profiles : Profiles) (pairs : PolicyPairs) (s : scanner.Inputs) (r : resolver.Inputs) (m : members.Inputs) (v : View) (uses : Uses) : Type 0 where
  pub composed : IsComposed n a policies profiles pairs
  pub scanned_policies : s.policies ≡ policies
  pub scanned_profiles : s.profiles ≡ profiles
  pub scanned : IsScanned dg s v.policies v.profiles uses
  pub known : (id : PolicyId) → map.get r.policies id ≡ option_map (known_policy (policy_key dg id)) (map.get policies id)
  pub paired : r.pairs ≡ pairs
  pub resolved : IsResolved r v.endpoints
  pub used : m.uses ≡ uses
  pub matched : (name : List ℕ) (u : SetUse) → map.get uses name ≡ Some u → (i : ItemKey) → set.contains m.matched (canonical_text u.selector, i) ≡ holds_at n u.selector i
  pub members_are : AreMembers m v.sets
