-- Inputs of one policy, one profile and one set at most.
use Rattle.std.specs.Prelude.{◌≡◌, ℕ, List, Option, Some}
use Rattle.std.specs.FinMap as maps
use Rattle.fx_model.specs.declared.ids.PolicyId.{PolicyId}
use Rattle.fx_model.specs.declared.policy.Policy.{Policy}
use Rattle.fx_model.specs.declared.resources.Profile.{Profile}
use Rattle.fx_model.specs.declared.set_use.SetUse.{SetUse}
use Rattle.fx_scanner.specs.declared.inputs.Inputs.{Inputs}
use Rattle.fx_scanner.specs.Apart.{IsUsed}

pub record IsAlone (id : PolicyId) (name : List ℕ) (u : SetUse) (n : Inputs) : Type 0 where
  pub policies_one : (i : PolicyId) (p : Policy) → maps.get n.policies i ≡ Some p → i ≡ id
  pub profiles_one : (s : List ℕ) (o : Option Profile) → maps.get n.profiles s ≡ Some o → s ≡ name
  pub uses_one : (v : SetUse) → IsUsed n v → v ≡ u
