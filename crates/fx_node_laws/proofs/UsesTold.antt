-- The uses that the scanner told are those of the rules that it was given, and those are the wanted ones.
use Rattle.std.proofs.Common.{◌≡◌, inl, inr, ℕ, true, List, map, Option, Some, refl, sym, ap, ◌∙◌, subst}
use Rattle.std.specs.List.{AllByRecursion, flat_map}
use Rattle.std.specs.Cmp.Lexicographic.{nat_list_cmp_total}
use Rattle.std.specs.FinMap as maps
use Rattle.std.proofs.lemmas.List.Elements.{All-contains, All-from_recursion}
use Rattle.fx_base.specs.Extended.{filled}
use Rattle.fx_base.proofs.Found.{each, entries_found, of_entries}
use Rattle.fx_base.proofs.FilledLemmas.{keys_filled, at_filled}
use Rattle.fx_base.proofs.KeyCases.{bytes_exact}
use Rattle.fx_names.specs.Digests.{Digest}
use Rattle.fx_laws.proofs.Uses.{all-append, all-first, all-second, all-flat_map, each-flat_map, all-map, each-map, uses-policies, uses-profiles}
use Rattle.fx_model.proofs.Orders.{policy_total, exact_policy}
use Rattle.fx_model.specs.declared.ids.PolicyId.{PolicyId}
use Rattle.fx_model.specs.declared.policy.Policy.{Policy}
use Rattle.fx_model.specs.declared.resources.Profile.{Profile}
use Rattle.fx_model.specs.declared.resources.Resources.{Resources}
use Rattle.fx_model.specs.declared.set_use.SetUse.{SetUse}
use Rattle.fx_model.specs.Active.{active_policies}
use Rattle.fx_model.specs.Sets.{policy_uses, profile_uses, use_name}
use Rattle.fx_model.specs.Sinks.{Uses}
use Rattle.fx_model.specs.Views.{active_profiles, uses_if_there, uses_of_profile, wanted_uses}
use Rattle.fx_scanner.specs.declared.inputs.Inputs as scanner
use Rattle.fx_scanner.specs.Apart.{IsUsed}
use Rattle.fx_scanner.specs.Scanned.{use_entry, used_by_policies, used_by_profiles, all_uses}
use Rattle.fx_scanner.proofs.ApartUses.{policy_used, profile_used, all_used}
use Rattle.fx_node_laws.proofs.Given.{IsGiven, active_given, given_active}
use Rattle.fx_node_laws.proofs.Made.{nothing_there, of_among, each_among}

-- ---- uses of the rules that the scanner is given

-- what holds of all uses holds of each
module _ (s : scanner.Inputs) (P : SetUse → Type 0) (all : AllByRecursion P (all_uses s)) where
  of_policies : AllByRecursion (λ x. AllByRecursion P (policy_uses x.1)) (maps.entries s.policies)
  of_policies =
      each-flat_map P (λ (x : PolicyId × Policy). policy_uses x.1) (maps.entries s.policies)
      (all-first P (used_by_policies s.policies) (used_by_profiles s.profiles) all)

  of_profiles : AllByRecursion (λ x. AllByRecursion P (uses_if_there x.1)) (maps.entries s.profiles)
  of_profiles =
      each-flat_map P (λ (x : List ℕ × Option Profile). uses_if_there x.1) (maps.entries s.profiles)
      (all-second P (used_by_policies s.policies) (used_by_profiles s.profiles) all)

  of_used : (u : SetUse) → IsUsed s u → P u
  of_used u (inl who) =
      All-contains P (policy_uses who.1.0) u
      (All-from_recursion P (policy_uses who.1.0) (of_entries policy_total exact_policy (λ x. AllByRecursion P (policy_uses x.1)) s.policies who.0 who.1.0 of_policies who.1.1.0)) who.1.1.1
  of_used u (inr who) =
      All-contains P (profile_uses who.1.0) u
      (All-from_recursion P (profile_uses who.1.0) (of_entries nat_list_cmp_total bytes_exact (λ x. AllByRecursion P (uses_if_there x.1)) s.profiles who.0 (Some who.1.0) of_profiles who.1.1.0)) who.1.1.1

module _ {R : Resources} {s : scanner.Inputs} (g : IsGiven R s) where
  -- what holds of all wanted uses holds of each that is used
  pub of_wanted : (P : SetUse → Type 0) → AllByRecursion P (wanted_uses R) → (u : SetUse) → IsUsed s u → P u
  of_wanted P all = of_used s P
      (all-append P (used_by_policies s.policies) (used_by_profiles s.profiles)
      (all-flat_map P (λ (x : PolicyId × Policy). policy_uses x.1) (maps.entries s.policies)
      (subst (λ (xs : List (PolicyId × Policy)). AllByRecursion (λ x. AllByRecursion P (policy_uses x.1)) xs) (sym g.policies_are) (uses-policies P R all)))
      (all-flat_map P (λ (x : List ℕ × Option Profile). uses_if_there x.1) (maps.entries s.profiles)
      (each (λ (x : List ℕ × Option Profile). maps.get s.profiles x.0 ≡ Some x.1) (λ x. AllByRecursion P (uses_if_there x.1))
      (λ x at. let is = given_active g x.0 x.1 at in
      subst (λ (o : Option Profile). AllByRecursion P (uses_if_there o)) (sym is.1)
      (of_among (λ name. AllByRecursion P (uses_of_profile R name)) (active_profiles R) (uses-profiles P R all) x.0 is.0))
      (maps.entries s.profiles) (entries_found nat_list_cmp_total s.profiles))))

  -- all wanted uses are used
  pub wanted_used : AllByRecursion (IsUsed s) (wanted_uses R)
  wanted_used =
      all-append (IsUsed s) (flat_map (λ (x : PolicyId × Policy). policy_uses x.1) (active_policies R)) (flat_map (uses_of_profile R) (active_profiles R))
      (all-flat_map (IsUsed s) (λ (x : PolicyId × Policy). policy_uses x.1) (active_policies R)
      (subst (λ (xs : List (PolicyId × Policy)). AllByRecursion (λ x. AllByRecursion (IsUsed s) (policy_uses x.1)) xs) g.policies_are
      (each (λ (x : PolicyId × Policy). maps.get s.policies x.0 ≡ Some x.1) (λ x. AllByRecursion (IsUsed s) (policy_uses x.1)) (λ x at. policy_used s x.0 x.1 at) (maps.entries s.policies) (entries_found policy_total s.policies))))
      (all-flat_map (IsUsed s) (uses_of_profile R) (active_profiles R)
      (each_among (λ name. AllByRecursion (IsUsed s) (uses_of_profile R name)) (active_profiles R) (λ name h. profile_used s name (maps.get R.profiles name) (active_given g name h))))

-- ---- uses by their names

module _ (dg : Digest) (s : scanner.Inputs) (uses : Uses) (filled_are : uses ≡ filled maps.empty (map (use_entry dg) (all_uses s))) where
  abbrev pub IsNamed : List ℕ → SetUse → Type 0
  IsNamed k u = IsUsed s u × (use_name dg u ≡ k)

  -- what was told under a name is a use of that name
  pub use_named : (k : List ℕ) (u : SetUse) → maps.get uses k ≡ Some u → IsNamed k u
  use_named k u h = at_filled IsNamed maps.empty (map (use_entry dg) (all_uses s)) (λ q x h. nothing_there q x h)
      (all-map (λ (e : List ℕ × SetUse). IsNamed e.0 e.1) (use_entry dg) (all_uses s) (each (IsUsed s) (λ u. IsNamed (use_name dg u) u) (λ u is. (is, refl)) (all_uses s) (all_used s)))
      k u (ap (λ (us : Uses). maps.get us k) (sym filled_are) ∙ h)

  -- and something was told under the name of each use
  pub in_uses : (u : SetUse) → IsUsed s u → maps.contains_key uses (use_name dg u) ≡ true
  in_uses u is =
      ap (λ (us : Uses). maps.contains_key us (use_name dg u)) filled_are
      ∙ of_used s (λ u. maps.contains_key (filled maps.empty (map (use_entry dg) (all_uses s))) (use_name dg u) ≡ true)
      (each-map (λ (e : List ℕ × SetUse). maps.contains_key (filled maps.empty (map (use_entry dg) (all_uses s))) e.0 ≡ true) (use_entry dg) (all_uses s) (keys_filled maps.empty (map (use_entry dg) (all_uses s))))
      u is
