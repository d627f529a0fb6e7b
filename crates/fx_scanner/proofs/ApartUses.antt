-- Inputs that don't clash have uses that don't, and fewer of them don't either.
use Rattle.std.proofs.Common.{◌≡◌, inl, inr, ℕ, Bool, true, false, not, ◌&&◌, List, ◌++◌, Option, Some, None, refl}
use Rattle.std.specs.List.{AllByRecursion, Contains}
use Rattle.std.specs.Cmp.Lexicographic.{nat_list_cmp_total}
use Rattle.std.proofs.lemmas.List.Elements.{All-contains_itself, recursion_from_All}
use Rattle.std.specs.FinMap as maps
use Rattle.fx_base.proofs.Found.{each, entries_found}
use Rattle.fx_names.specs.Digests.{Digest}
use Rattle.fx_model.proofs.Orders.{policy_total}
use Rattle.fx_model.specs.Sets.{policy_uses, profile_uses, use_name}
use Rattle.fx_model.specs.Views.{uses_if_there}
use Rattle.fx_model.specs.declared.ids.PolicyId.{PolicyId}
use Rattle.fx_model.specs.declared.policy.Policy.{Policy}
use Rattle.fx_model.specs.declared.resources.Profile.{Profile}
use Rattle.fx_model.specs.declared.set_use.SetUse.{SetUse}
use Rattle.fx_scanner.specs.declared.inputs.Inputs.{Inputs}
use Rattle.fx_scanner.specs.Apart.{IsUsed, IsApart, IsPartOf}
use Rattle.fx_scanner.specs.Scanned.{used_by_policies, used_by_profiles, all_uses}
use Rattle.fx_scanner.specs.Told.{has_name, clashes, AreApartFrom}
use Rattle.fx_scanner.specs.Uses.{same_use, times}
use Rattle.fx_scanner.proofs.Texts.{one_text, fails, not_both}
use Rattle.fx_scanner.proofs.Bags.{none_from_all, not_false}
use Rattle.fx_scanner.proofs.ByKeys.{left_other, left_put}
use Rattle.fx_scanner.proofs.Entering.{all_both, all_flat}
use Rattle.fx_scanner.proofs.InputBags.{without_policy, without_profile}
use Rattle.fx_scanner.proofs.SameUses.{from_one_use}

-- ---- parts

pub used_in_whole : (part whole : Inputs) → IsPartOf part whole → (u : SetUse) → IsUsed part u → IsUsed whole u
used_in_whole part whole within u (inl who) = inl (who.0, (who.1.0, (within.policies_in who.0 who.1.0 who.1.1.0, who.1.1.1)))
used_in_whole part whole within u (inr who) = inr (who.0, (who.1.0, (within.profiles_in who.0 (Some who.1.0) who.1.1.0, who.1.1.1)))

pub fewer : (dg : Digest) (part whole : Inputs) → IsPartOf part whole → IsApart dg whole → IsApart dg part
fewer dg part whole within apart = record {
  policies_apart = λ i j p q g h. apart.policies_apart i j p q (within.policies_in i p g) (within.policies_in j q h);
  profiles_apart = λ s t p q g h. apart.profiles_apart s t p q (within.profiles_in s p g) (within.profiles_in t q h);
  uses_apart = λ u v g h. apart.uses_apart u v (used_in_whole part whole within u g) (used_in_whole part whole within v h);
}

module _ (n : Inputs) (id : PolicyId) where
  pub less_policy : IsPartOf (without_policy n id) n
  less_policy = record {
    policies_in = λ j p h. (left_other policy_total n.policies id j p h).1;
    profiles_in = λ name o h. h;
  }

  pub other_policies : (p : Policy) → IsPartOf (without_policy n id) (record n { policies = maps.insert n.policies id p })
  other_policies p = record {
    policies_in = λ j q h. left_put policy_total n.policies id p j q h;
    profiles_in = λ name o h. h;
  }

module _ (n : Inputs) (name : List ℕ) where
  pub less_profile : IsPartOf (without_profile n name) n
  less_profile = record {
    policies_in = λ id p h. h;
    profiles_in = λ t o h. (left_other nat_list_cmp_total n.profiles name t o h).1;
  }

  pub other_profiles : (x : Option Profile) → IsPartOf (without_profile n name) (record n { profiles = maps.insert n.profiles name x })
  other_profiles x = record {
    policies_in = λ id p h. h;
    profiles_in = λ t o h. left_put nat_list_cmp_total n.profiles name x t o h;
  }

-- ---- all uses are used

in_itself : (us : List SetUse) → AllByRecursion (Contains us) us
in_itself us = recursion_from_All (Contains us) us (All-contains_itself us)

module _ (n : Inputs) where
  pub policy_used : (id : PolicyId) (p : Policy) → maps.get n.policies id ≡ Some p → AllByRecursion (IsUsed n) (policy_uses p)
  policy_used id p is = each (Contains (policy_uses p)) (IsUsed n) (λ u within. inl (id, (p, (is, within)))) (policy_uses p) (in_itself (policy_uses p))

  pub profile_used : (name : List ℕ) (o : Option Profile) → maps.get n.profiles name ≡ Some o → AllByRecursion (IsUsed n) (uses_if_there o)
  profile_used name None is = tt
  profile_used name (Some p) is = each (Contains (profile_uses p)) (IsUsed n) (λ u within. inr (name, (p, (is, within)))) (profile_uses p) (in_itself (profile_uses p))

  pub all_used : AllByRecursion (IsUsed n) (all_uses n)
  all_used =
      all_both (IsUsed n) (used_by_policies n.policies) (used_by_profiles n.profiles)
      (all_flat (IsUsed n) (λ (x : PolicyId × Policy). policy_uses x.1) (maps.entries n.policies)
      (each (λ (e : PolicyId × Policy). maps.get n.policies e.0 ≡ Some e.1) (λ (x : PolicyId × Policy). AllByRecursion (IsUsed n) (policy_uses x.1)) (λ x is. policy_used x.0 x.1 is) (maps.entries n.policies) (entries_found policy_total n.policies)))
      (all_flat (IsUsed n) (λ (x : List ℕ × Option Profile). uses_if_there x.1) (maps.entries n.profiles)
      (each (λ (e : List ℕ × Option Profile). maps.get n.profiles e.0 ≡ Some e.1) (λ (x : List ℕ × Option Profile). AllByRecursion (IsUsed n) (uses_if_there x.1)) (λ x is. profile_used x.0 x.1 is) (maps.entries n.profiles) (entries_found nat_list_cmp_total n.profiles)))

-- what a part uses, the whole uses
pub part_used : (part whole : Inputs) → IsPartOf part whole → AllByRecursion (IsUsed whole) (all_uses part)
part_used part whole within = each (IsUsed part) (IsUsed whole) (used_in_whole part whole within) (all_uses part) (all_used part)

-- ---- no clashes

module _ (dg : Digest) (n : Inputs) (apart : IsApart dg n) where
  both_tests : (a b : Bool) → (a && b) ≡ true → (a ≡ true) × (b ≡ true)
  both_tests true b h = (refl, h)
  both_tests false b h = cc

  no_clash : (u v : SetUse) → IsUsed n u → IsUsed n v → clashes dg u v ≡ false
  no_clash u v used_u used_v =
      fails (clashes dg u v) (λ h.
      let parts = both_tests (has_name dg (use_name dg u) v) (not (same_use u v)) h in
      not_both (not (same_use u v)) parts.1 (not_false (same_use u v) (from_one_use u v (apart.uses_apart u v used_u used_v (one_text (use_name dg u) (use_name dg v) parts.0)))))

  pub none_clash : (us : List SetUse) → AllByRecursion (IsUsed n) us → (u : SetUse) → IsUsed n u → times (clashes dg u) us ≡ 0
  none_clash us all u used = none_from_all (clashes dg u) us (each (IsUsed n) (λ v. clashes dg u v ≡ false) (λ v used_v. no_clash u v used used_v) us all)

  pub apart_from : (us others : List SetUse) → AllByRecursion (IsUsed n) us → AllByRecursion (IsUsed n) others → AreApartFrom dg us others
  apart_from us others all rest =
      each (IsUsed n) (λ u. times (clashes dg u) (us ++ others) ≡ 0) (none_clash (us ++ others) (all_both (IsUsed n) us others all rest)) us all

  pub apart_all : AllByRecursion (λ u. times (clashes dg u) (all_uses n) ≡ 0) (all_uses n)
  apart_all = each (IsUsed n) (λ u. times (clashes dg u) (all_uses n) ≡ 0) (none_clash (all_uses n) (all_used n)) (all_uses n) (all_used n)
