-- The policies and profiles that the scanner told are those of the view of the resources.
use Rattle.std.proofs.Common.{◌≡◌, ℕ, true, List, map, Option, Some, refl, sym, ap, ◌∙◌}
use Rattle.std.specs.Cmp.Lexicographic.{nat_list_cmp_total}
use Rattle.std.specs.FinMap as maps
use Rattle.fx_base.specs.Extended.{collected}
use Rattle.fx_base.proofs.Found.{each, entries_found, of_entries}
use Rattle.fx_base.proofs.KeyCases.{bytes_exact}
use Rattle.fx_names.specs.Digests.{Digest}
use Rattle.fx_laws.proofs.Uses.{all-map, each-map}
use Rattle.fx_model.specs.declared.ids.PolicyId.{PolicyId}
use Rattle.fx_model.specs.declared.policy.Policy.{Policy}
use Rattle.fx_model.specs.declared.resources.Profile.{Profile}
use Rattle.fx_model.specs.declared.resources.Resources.{Resources}
use Rattle.fx_model.specs.declared.view.ViewProfile.{ViewProfile}
use Rattle.fx_model.specs.Messages.{Named}
use Rattle.fx_model.specs.Sinks.{PoliciesByKey, ProfilesByKey, Uses}
use Rattle.fx_model.specs.Views.{profile_key, view_profile, is_active_profile, active_profiles, policy_entry, profile_entry, view_of}
use Rattle.fx_scanner.specs.declared.inputs.Inputs as scanner
use Rattle.fx_scanner.specs.Apart.{IsApart}
use Rattle.fx_scanner.specs.Scanned.{profile_entry as given_entry, IsScanned}
use Rattle.fx_node_laws.proofs.Given.{IsGiven, active_given, given_active}
use Rattle.fx_node_laws.proofs.Made.{of_among, each_among, keys_extended, at_collected, same_made}

module _ {dg : Digest} {R : Resources} {s : scanner.Inputs} (g : IsGiven R s) (apart : IsApart dg s) where
  -- a profile at its key
  abbrev IsProfile : List ℕ → ViewProfile → Type 0
  IsProfile k p = (name : List ℕ) × ((is_active_profile R name ≡ true) × ((profile_key dg name ≡ k) × (p ≡ view_profile dg name (maps.get R.profiles name))))

  one_profile : (k : List ℕ) (p q : ViewProfile) → IsProfile k p → IsProfile k q → p ≡ q
  one_profile k p q x y =
      let same : x.0 ≡ y.0 = apart.profiles_apart x.0 y.0 (maps.get R.profiles x.0) (maps.get R.profiles y.0) (active_given g x.0 x.1.0) (active_given g y.0 y.1.0) (x.1.1.0 ∙ sym y.1.1.0) in
      x.1.1.1 ∙ ap (λ (name : List ℕ). view_profile dg name (maps.get R.profiles name)) same ∙ sym y.1.1.1

  abbrev told : Named ViewProfile
  told = collected (map (given_entry dg) (maps.entries s.profiles))

  abbrev wanted : Named ViewProfile
  wanted = collected (map (profile_entry dg R) (active_profiles R))

  in_wanted : (name : List ℕ) → is_active_profile R name ≡ true → maps.contains_key wanted (profile_key dg name) ≡ true
  in_wanted = of_among (λ name. maps.contains_key wanted (profile_key dg name) ≡ true) (active_profiles R)
      (each-map (λ (e : List ℕ × ViewProfile). maps.contains_key wanted e.0 ≡ true) (profile_entry dg R) (active_profiles R) (keys_extended maps.empty (map (profile_entry dg R) (active_profiles R))))

  in_told : (name : List ℕ) → is_active_profile R name ≡ true → maps.contains_key told (profile_key dg name) ≡ true
  in_told name h =
      of_entries nat_list_cmp_total bytes_exact (λ x. maps.contains_key told (profile_key dg x.0) ≡ true) s.profiles name (maps.get R.profiles name)
      (each-map (λ (e : List ℕ × ViewProfile). maps.contains_key told e.0 ≡ true) (given_entry dg) (maps.entries s.profiles) (keys_extended maps.empty (map (given_entry dg) (maps.entries s.profiles))))
      (active_given g name h)

  told_entry : (x : List ℕ × Option Profile) → maps.get s.profiles x.0 ≡ Some x.1 → IsProfile (profile_key dg x.0) (view_profile dg x.0 x.1) × (maps.contains_key wanted (profile_key dg x.0) ≡ true)
  told_entry x at = let is = given_active g x.0 x.1 at in ((x.0, (is.0, (refl, ap (view_profile dg x.0) is.1))), in_wanted x.0 is.0)

  pub profiles_told : told ≡ wanted
  profiles_told = same_made IsProfile one_profile told wanted
      (at_collected (λ k p. IsProfile k p × (maps.contains_key wanted k ≡ true)) (map (given_entry dg) (maps.entries s.profiles))
      (all-map (λ (e : List ℕ × ViewProfile). IsProfile e.0 e.1 × (maps.contains_key wanted e.0 ≡ true)) (given_entry dg) (maps.entries s.profiles)
      (each (λ (x : List ℕ × Option Profile). maps.get s.profiles x.0 ≡ Some x.1) (λ x. IsProfile (profile_key dg x.0) (view_profile dg x.0 x.1) × (maps.contains_key wanted (profile_key dg x.0) ≡ true)) told_entry (maps.entries s.profiles) (entries_found nat_list_cmp_total s.profiles))))
      (at_collected (λ k p. IsProfile k p × (maps.contains_key told k ≡ true)) (map (profile_entry dg R) (active_profiles R))
      (all-map (λ (e : List ℕ × ViewProfile). IsProfile e.0 e.1 × (maps.contains_key told e.0 ≡ true)) (profile_entry dg R) (active_profiles R)
      (each_among (λ name. IsProfile (profile_key dg name) (view_profile dg name (maps.get R.profiles name)) × (maps.contains_key told (profile_key dg name) ≡ true)) (active_profiles R)
      (λ name h. ((name, (h, (refl, refl))), in_told name h)))))

module _ {dg : Digest} {R : Resources} {s : scanner.Inputs} {policies : PoliciesByKey} {profiles : ProfilesByKey} {uses : Uses} (g : IsGiven R s) (h : IsScanned dg s policies profiles uses) where
  pub policies_are : policies ≡ (view_of dg R).policies
  policies_are = h.policies_are ∙ ap (λ (xs : List (PolicyId × Policy)). collected (map (policy_entry dg) xs)) g.policies_are

  pub profiles_are : profiles ≡ (view_of dg R).profiles
  profiles_are = h.profiles_are ∙ profiles_told g h.apart
