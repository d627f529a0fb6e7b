-- What the scanner is given where the active rules told what the resources define.
use Rattle.std.proofs.Common.{◌≡◌, ℕ, Bool, true, false, cond, List, Option, Some, None, refl, sym, ap, ◌∙◌}
use Rattle.std.specs.FinMap as maps
use Rattle.fx_model.specs.declared.resources.Profile.{Profile}
use Rattle.fx_model.specs.declared.resources.Resources.{Resources}
use Rattle.fx_model.specs.Active.{active_policies}
use Rattle.fx_model.specs.Pairs.{PolicyPairs}
use Rattle.fx_model.specs.Sinks.{Policies, Profiles}
use Rattle.fx_model.specs.Views.{is_active_profile}
use Rattle.fx_scanner.specs.declared.inputs.Inputs as scanner
use Rattle.fx_node_laws.specs.Defined.{IsDefined}

pub record IsGiven (R : Resources) (s : scanner.Inputs) : Type 0 where
  pub policies_are : maps.entries s.policies ≡ active_policies R
  pub profiles_are : (name : List ℕ) → maps.get s.profiles name ≡ cond (is_active_profile R name) (Some (maps.get R.profiles name)) None

pub given : {R : Resources} {policies : Policies} {profiles : Profiles} {pairs : PolicyPairs} {s : scanner.Inputs} → IsDefined R policies profiles pairs → s.policies ≡ policies → s.profiles ≡ profiles → IsGiven R s
given d p q = record {
  policies_are = ap (λ (ps : Policies). maps.entries ps) p ∙ d.policies_are;
  profiles_are = λ name. ap (λ (qs : Profiles). maps.get qs name) q ∙ d.profiles_are name;
}

module _ {R : Resources} {s : scanner.Inputs} (g : IsGiven R s) where
  -- a profile that is active is given as it is there
  pub active_given : (name : List ℕ) → is_active_profile R name ≡ true → maps.get s.profiles name ≡ Some (maps.get R.profiles name)
  active_given name h = g.profiles_are name ∙ ap (λ b. cond b (Some (maps.get R.profiles name)) None) h

  -- and one that is given is active
  pub given_active : (name : List ℕ) (o : Option Profile) → maps.get s.profiles name ≡ Some o → (is_active_profile R name ≡ true) × (o ≡ maps.get R.profiles name)
  given_active name o h = by_test (is_active_profile R name) refl (sym (g.profiles_are name) ∙ h)
    where
      by_test : (b : Bool) → is_active_profile R name ≡ b → cond b (Some (maps.get R.profiles name)) None ≡ Some o → (is_active_profile R name ≡ true) × (o ≡ maps.get R.profiles name)
      by_test true is e = let same : o ≡ maps.get R.profiles name = cc in (is, same)
      by_test false is e = cc
