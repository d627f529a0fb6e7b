-- Where no names clash that the resources claim, what the scanner is given has names of its own.
use Rattle.std.proofs.Common.{◌≡◌, inl, inr, ℕ, true, List, Some, sym, subst}
use Rattle.std.specs.List.{AllByRecursion}
use Rattle.std.specs.Cmp.Lexicographic.{nat_list_cmp_total}
use Rattle.std.specs.FinMap as maps
use Rattle.std.proofs.lemmas.List.Elements.{All-contains, All-from_recursion}
use Rattle.fx_base.specs.Same.{both_pass}
use Rattle.fx_base.proofs.Found.{entries_found, of_entries}
use Rattle.fx_base.proofs.KeyCases.{bytes_exact}
use Rattle.fx_names.specs.Digests.{Digest}
use Rattle.fx_laws.proofs.ClaimsOfKeys.{keys_apart}
use Rattle.fx_laws.proofs.FormedLemmas.{profiles_formed, policies_formed}
use Rattle.fx_laws.proofs.MadeUses.{IsUsed as IsClaimedUse, used_policy, used_profile, uses_apart}
use Rattle.fx_laws.proofs.PolicyKeys.{policies_apart}
use Rattle.fx_laws.proofs.Removing.{found_passes}
use Rattle.fx_model.proofs.Orders.{policy_total, exact_policy}
use Rattle.fx_model.specs.declared.ids.PolicyId.{PolicyId}
use Rattle.fx_model.specs.declared.policy.Policy.{Policy}
use Rattle.fx_model.specs.declared.resources.Profile.{Profile}
use Rattle.fx_model.specs.declared.resources.Resources.{Resources}
use Rattle.fx_model.specs.declared.set_use.SetUse.{SetUse}
use Rattle.fx_model.specs.Active.{is_active}
use Rattle.fx_model.specs.Claims.{IsClashFree}
use Rattle.fx_model.specs.Formed.{is_formed_policy_id, is_formed_policy, is_formed_policy_entry, is_formed_profile, are_formed}
use Rattle.fx_model.specs.Sets.{policy_uses, profile_uses}
use Rattle.fx_scanner.specs.declared.inputs.Inputs as scanner
use Rattle.fx_scanner.specs.Apart.{IsUsed, IsApart}
use Rattle.fx_node_laws.proofs.Given.{IsGiven, given_active}
use Rattle.fx_node_laws.proofs.Lists.{all_filtered}

module _ (dg : Digest) {R : Resources} {s : scanner.Inputs} (formed : are_formed R ≡ true) (free : IsClashFree dg R) (g : IsGiven R s) where
  -- a policy and a profile that are given are those that are there
  policy_there : (id : PolicyId) (p : Policy) → maps.get s.policies id ≡ Some p → maps.get R.policies id ≡ Some p
  policy_there id p at =
      (of_entries policy_total exact_policy (λ x. (maps.get R.policies x.0 ≡ Some x.1) × (is_active R x.1 ≡ true)) s.policies id p
      (subst (λ (xs : List (PolicyId × Policy)). AllByRecursion (λ x. (maps.get R.policies x.0 ≡ Some x.1) × (is_active R x.1 ≡ true)) xs) (sym g.policies_are)
      (all_filtered (λ (x : PolicyId × Policy). maps.get R.policies x.0 ≡ Some x.1) (λ x. is_active R x.1) (maps.entries R.policies) (entries_found policy_total R.policies)))
      at).0

  profile_there : (name : List ℕ) (p : Profile) → maps.get s.profiles name ≡ Some (Some p) → maps.get R.profiles name ≡ Some p
  profile_there name p at = sym (given_active g name (Some p) at).1

  policy_formed : (id : PolicyId) (p : Policy) → maps.get R.policies id ≡ Some p → (is_formed_policy_id id ≡ true) × (is_formed_policy p ≡ true)
  policy_formed id p at = both_pass (is_formed_policy_id id) (is_formed_policy p) (found_passes policy_total exact_policy is_formed_policy_entry R.policies (policies_formed R formed) id p at)

  profile_formed : (name : List ℕ) (p : Profile) → maps.get R.profiles name ≡ Some p → is_formed_profile p ≡ true
  profile_formed name p at = found_passes nat_list_cmp_total bytes_exact (λ x. is_formed_profile x.1) R.profiles (profiles_formed R formed) name p at

  -- each set that is used is claimed
  claimed : (u : SetUse) → IsUsed s u → IsClaimedUse dg R u
  claimed u (inl who) =
      let p = who.1.0 in
      let at = policy_there who.0 p who.1.1.0 in
      All-contains (IsClaimedUse dg R) (policy_uses p) u (All-from_recursion (IsClaimedUse dg R) (policy_uses p) (used_policy dg R who.0 p (policy_formed who.0 p at).1 at)) who.1.1.1
  claimed u (inr who) =
      let p = who.1.0 in
      let at = profile_there who.0 p who.1.1.0 in
      All-contains (IsClaimedUse dg R) (profile_uses p) u (All-from_recursion (IsClaimedUse dg R) (profile_uses p) (used_profile dg R who.0 p (profile_formed who.0 p at) at)) who.1.1.1

  pub rules_apart : IsApart dg s
  rules_apart = record {
    policies_apart = λ i j p q h k keys.
        let at = policy_there i p h in
        let there = policy_there j q k in
        policies_apart dg R free i j p q at there (policy_formed i p at).0 (policy_formed j q there).0 keys;
    profiles_apart = λ a b o x h k keys. keys_apart dg R free a b (given_active g a o h).0 (given_active g b x k).0 keys;
    uses_apart = λ u v h k names. uses_apart dg R free u v (claimed u h) (claimed v k) names;
  }
