-- What the resources say of active policies and profiles, as the active rules tell it.
use Rattle.std.specs.Prelude.{◌≡◌, ℕ, Bool, false, cond, ◌&&◌, ◌||◌, List, Option, Some, None}
use Rattle.std.specs.FinMap as map
use Rattle.fx_base.specs.Set as set
use Rattle.fx_model.specs.declared.ids.ItemKey.{ItemKey}
use Rattle.fx_model.specs.declared.ids.PolicyId.{PolicyId}
use Rattle.fx_model.specs.declared.policy.Policy.{Policy}
use Rattle.fx_model.specs.declared.resources.Endpoint.{Endpoint}
use Rattle.fx_model.specs.declared.resources.Resources.{Resources}
use Rattle.fx_model.specs.Active.{applies, active_policies}
use Rattle.fx_model.specs.Directions.{Ingress, Egress}
use Rattle.fx_model.specs.Pairs.{PolicyPairs}
use Rattle.fx_model.specs.Resources.{is_served}
use Rattle.fx_model.specs.Sinks.{Policies, Profiles}
use Rattle.fx_model.specs.Views.{is_active_profile}

-- a policy that is there applies to a served endpoint in some direction
abbrev pub is_paired : Resources → Option Policy → Option Endpoint → Bool
is_paired R None e = false
is_paired R (Some p) None = false
is_paired R (Some p) (Some e) = is_served R e && (applies R Ingress p e || applies R Egress p e)

-- the active policies, the profiles that served endpoints list, each with the profile or with none, and the pairs of a policy and a
-- served endpoint to which it applies
pub record IsDefined (R : Resources) (policies : Policies) (profiles : Profiles) (pairs : PolicyPairs) : Type 0 where
  pub policies_are : map.entries policies ≡ active_policies R
  pub profiles_are : (name : List ℕ) → map.get profiles name ≡ cond (is_active_profile R name) (Some (map.get R.profiles name)) None
  pub pairs_are : (id : PolicyId) (i : ItemKey) → set.contains pairs (id, i) ≡ is_paired R (map.get R.policies id) (map.get R.endpoints i)
