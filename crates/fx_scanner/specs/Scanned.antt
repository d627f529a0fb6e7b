-- What the sink is to have. From Felix's documented calculation graph: the rule scanner tells the active policies and profiles with
-- their rules, in which names of sets stand for selectors and named ports, and the sets that these rules use, each while some rule
-- uses it.
use Rattle.std.specs.Prelude.{◌≡◌, ℕ, List, ◌++◌, map, Option, Some, None, []}
use Rattle.std.specs.List.{flat_map}
use Rattle.std.specs.FinMap as maps
use Rattle.fx_base.specs.Extended.{collected, filled}
use Rattle.fx_names.specs.Digests.{Digest}
use Rattle.fx_model.specs.Sets.{policy_uses, use_name}
use Rattle.fx_model.specs.Sinks.{Policies, Profiles, Uses, PoliciesByKey, ProfilesByKey}
use Rattle.fx_model.specs.Views.{policy_entry, profile_key, view_profile, uses_if_there}
use Rattle.fx_model.specs.declared.policy.Policy.{Policy}
use Rattle.fx_model.specs.declared.resources.Profile.{Profile}
use Rattle.fx_model.specs.declared.set_use.SetUse.{SetUse}
use Rattle.fx_model.specs.declared.view.ViewProfile.{ViewProfile}
use Rattle.fx_scanner.specs.declared.inputs.Inputs.{Inputs}
use Rattle.fx_scanner.specs.Apart.{IsApart}

-- a profile by its key, as missing where there is none
abbrev pub profile_entry : Digest → List ℕ × Option Profile → List ℕ × ViewProfile
profile_entry dg x = (profile_key dg x.0, view_profile dg x.0 x.1)

abbrev pub use_entry : Digest → SetUse → List ℕ × SetUse
use_entry dg u = (use_name dg u, u)

abbrev pub used_by_policies : Policies → List SetUse
used_by_policies policies = flat_map (λ x. policy_uses x.1) (maps.entries policies)

abbrev pub used_by_profiles : Profiles → List SetUse
used_by_profiles profiles = flat_map (λ x. uses_if_there x.1) (maps.entries profiles)

-- what the rules of all policies use, and then those of all profiles
abbrev pub all_uses : Inputs → List SetUse
all_uses n = used_by_policies n.policies ++ used_by_profiles n.profiles

-- the node's relation: what its sink has follows from its inputs, whose names do not clash
pub record IsScanned (dg : Digest) (n : Inputs) (policies : PoliciesByKey) (profiles : ProfilesByKey) (uses : Uses) : Type 0 where
  pub policies_are : policies ≡ collected (map (policy_entry dg) (maps.entries n.policies))
  pub profiles_are : profiles ≡ collected (map (profile_entry dg) (maps.entries n.profiles))
  pub uses_are : uses ≡ filled maps.empty (map (use_entry dg) (all_uses n))
  pub apart : IsApart dg n

-- ---- what single steps take and give

-- the uses of a policy that may be absent
abbrev pub uses_of_policy : Option Policy → List SetUse
uses_of_policy None = []
uses_of_policy (Some p) = policy_uses p

-- the profile of a name that is active, if it is there
abbrev pub profile_of : Option (Option Profile) → Option Profile
profile_of None = None
profile_of (Some o) = o
