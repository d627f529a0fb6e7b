-- What holds of resources whose claims on the kernel's names don't clash: no two served endpoints share an interface, no two of their
-- profiles share a key, and no two uses share a set.
use Rattle.std.specs.Prelude.{◌≡◌, ℕ, List, true, Some}
use Rattle.std.specs.List.{AllByRecursion}
use Rattle.std.specs.FinMap as maps
use Rattle.fx_names.specs.Digests.{Digest}
use Rattle.fx_model.specs.declared.ids.ItemKey.{ItemKey}
use Rattle.fx_model.specs.declared.ids.PolicyId.{PolicyId}
use Rattle.fx_model.specs.declared.policy.Policy.{Policy}
use Rattle.fx_model.specs.declared.resources.Endpoint.{Endpoint}
use Rattle.fx_model.specs.declared.resources.Profile.{Profile}
use Rattle.fx_model.specs.declared.resources.Resources.{Resources}
use Rattle.fx_model.specs.Claims.{IsClashFree}
use Rattle.fx_model.specs.Formed.{are_formed, have_workload_interfaces, is_formed_profile, is_formed_policy}
use Rattle.fx_model.specs.Policy.{is_workload}
use Rattle.fx_model.specs.Resources.{is_served}
use Rattle.fx_model.specs.Sets.{use_name, set_members}
use Rattle.fx_model.specs.Views.{view_of, wanted_uses, is_active_profile, profile_key, policy_key}

-- served endpoints stand each on its own interface; the rules of profiles and policies are formed; the profiles that served endpoints
-- list have each its own key, and so have policies; each set that the wanted rules use has the members of its use
pub record IsServedApart (dg : Digest) (R : Resources) : Type 0 where
  pub rules : (name : List ℕ) (p : Profile) → maps.get R.profiles name ≡ Some p → is_formed_profile p ≡ true
  pub apart : (k l : ItemKey) (e f : Endpoint) → maps.get R.endpoints k ≡ Some e → maps.get R.endpoints l ≡ Some f → is_served R e ≡ true → is_served R f ≡ true → e.iface ≡ f.iface → k ≡ l
  pub policies : (id : PolicyId) (p : Policy) → maps.get R.policies id ≡ Some p → is_formed_policy p ≡ true
  pub policies_apart : (a b : PolicyId) (p q : Policy) → maps.get R.policies a ≡ Some p → maps.get R.policies b ≡ Some q → policy_key dg a ≡ policy_key dg b → a ≡ b
  pub members : AllByRecursion (λ u. maps.get (view_of dg R).sets (use_name dg u) ≡ Some (set_members R u)) (wanted_uses R)
  pub keys_apart : (a b : List ℕ) → is_active_profile R a ≡ true → is_active_profile R b ≡ true → profile_key dg a ≡ profile_key dg b → a ≡ b

-- so it is of all resources that are read and whose updates are let through, however many endpoints run here and whatever their interfaces
abbrev pub ServedEndpointsAreApart : Type 0
ServedEndpointsAreApart = (dg : Digest) (R : Resources) → are_formed R ≡ true → IsClashFree dg R → IsServedApart dg R

-- where local endpoints stand on workloads' interfaces, those that are served do
abbrev pub ServedStandOnWorkloads : Type 0
ServedStandOnWorkloads =
    (R : Resources) → have_workload_interfaces R ≡ true → (k : ItemKey) (e : Endpoint) → maps.get R.endpoints k ≡ Some e → is_served R e ≡ true → is_workload e.iface ≡ true
