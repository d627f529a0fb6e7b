-- When active policies and profiles have names of their own in the kernel. By iptables(8) and ipset(8) a name there is of one chain
-- or of one set.
use Rattle.std.specs.Prelude.{◌≡◌, ◌⊎◌, ℕ, List, Option, Some}
use Rattle.std.specs.List.{Contains}
use Rattle.std.specs.FinMap as maps
use Rattle.fx_names.specs.Digests.{Digest}
use Rattle.fx_model.specs.Sets.{policy_uses, profile_uses, use_name}
use Rattle.fx_model.specs.Views.{policy_key, profile_key}
use Rattle.fx_model.specs.declared.ids.PolicyId.{PolicyId}
use Rattle.fx_model.specs.declared.policy.Policy.{Policy}
use Rattle.fx_model.specs.declared.resources.Profile.{Profile}
use Rattle.fx_model.specs.declared.set_use.SetUse.{SetUse}
use Rattle.fx_scanner.specs.declared.inputs.Inputs.{Inputs}

abbrev pub IsUsedByPolicy : Inputs → SetUse → Type 0
IsUsedByPolicy n u = (id : PolicyId) × ((p : Policy) × ((maps.get n.policies id ≡ Some p) × (Contains (policy_uses p) u)))

abbrev pub IsUsedByProfile : Inputs → SetUse → Type 0
IsUsedByProfile n u = (name : List ℕ) × ((p : Profile) × ((maps.get n.profiles name ≡ Some (Some p)) × (Contains (profile_uses p) u)))

-- some rule of a policy or of a profile uses the set
abbrev pub IsUsed : Inputs → SetUse → Type 0
IsUsed n u = IsUsedByPolicy n u ⊎ IsUsedByProfile n u

-- policies have keys of their own, and so have profiles, and uses of one name are one use
pub record IsApart (dg : Digest) (n : Inputs) : Type 0 where
  pub policies_apart : (i j : PolicyId) (p q : Policy) → maps.get n.policies i ≡ Some p → maps.get n.policies j ≡ Some q → policy_key dg i ≡ policy_key dg j → i ≡ j
  pub profiles_apart : (s t : List ℕ) (p q : Option Profile) → maps.get n.profiles s ≡ Some p → maps.get n.profiles t ≡ Some q → profile_key dg s ≡ profile_key dg t → s ≡ t
  pub uses_apart : (u v : SetUse) → IsUsed n u → IsUsed n v → use_name dg u ≡ use_name dg v → u ≡ v

-- what is in the part is so in the whole
pub record IsPartOf (part whole : Inputs) : Type 0 where
  pub policies_in : (id : PolicyId) (p : Policy) → maps.get part.policies id ≡ Some p → maps.get whole.policies id ≡ Some p
  pub profiles_in : (name : List ℕ) (o : Option Profile) → maps.get part.profiles name ≡ Some o → maps.get whole.profiles name ≡ Some o
