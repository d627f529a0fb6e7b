-- What the node makes of its inputs, after one of them is put or removed.
use Rattle.std.proofs.Common.{◌≡◌, ℕ, List, ◌++◌, map, Option, Some, None, IsSome, inl, inr, sym, ap, ◌∙◌, subst}
use Rattle.std.specs.Ordering.{nat_cmp}
use Rattle.std.specs.Cmp.Lexicographic.{slice_cmp, nat_list_cmp_total}
use Rattle.std.specs.FinMap as maps
use Rattle.fx_base.specs.Extended.{collected, filled}
use Rattle.fx_base.proofs.AtKey.{get_empty}
use Rattle.fx_base.proofs.Entries.{entries-empty}
use Rattle.fx_base.proofs.KeyCases.{bytes_exact}
use Rattle.fx_names.specs.Digests.{Digest}
use Rattle.fx_model.proofs.Orders.{policy_total, exact_policy}
use Rattle.fx_model.specs.Sets.{policy_uses}
use Rattle.fx_model.specs.Sinks.{Uses, PoliciesByKey, ProfilesByKey}
use Rattle.fx_model.specs.Views.{policy_entry, policy_key, view_policy, profile_key, view_profile, uses_if_there}
use Rattle.fx_model.specs.contracts.ids.PolicyIdOrd.TheImpl as policy_cmp
use Rattle.fx_model.specs.declared.ids.PolicyId.{PolicyId}
use Rattle.fx_model.specs.declared.policy.Policy.{Policy}
use Rattle.fx_model.specs.declared.resources.Profile.{Profile}
use Rattle.fx_model.specs.declared.set_use.SetUse.{SetUse}
use Rattle.fx_scanner.specs.declared.inputs.Inputs.{Inputs}
use Rattle.fx_scanner.specs.Apart.{IsUsed, IsApart}
use Rattle.fx_scanner.specs.Scanned.{profile_entry, use_entry, all_uses, uses_of_policy, profile_of, IsScanned}
use Rattle.fx_scanner.specs.Told.{AreCounts, AreTold, AreHeld, AreApartFrom}
use Rattle.fx_scanner.specs.Uses.{Counts}
use Rattle.fx_scanner.proofs.ApartUses.{fewer, less_policy, other_policies, less_profile, other_profiles, policy_used, profile_used, part_used, apart_from, apart_all}
use Rattle.fx_scanner.proofs.ByKeys.{AreAll, collected_are, are_collected, put_are, gone_are, key_is_there, get_put, remove_absent}
use Rattle.fx_scanner.proofs.FilledUses.{filled_told, told_filled}
use Rattle.fx_scanner.proofs.InputBags.{no_inputs, no_uses, without_policy, policy_apart, policy_with, without_profile, profile_apart, profile_with}
use Rattle.fx_scanner.proofs.TellSteps.{held_same}
use Rattle.fx_base.proofs.Cases.{none_some}

module _ (dg : Digest) where
  abbrev ArePolicies : Inputs → PoliciesByKey → Type 0
  ArePolicies n P = AreAll policy_total exact_policy (policy_key dg) (view_policy dg) n.policies P

  abbrev AreProfiles : Inputs → ProfilesByKey → Type 0
  AreProfiles n Q = AreAll nat_list_cmp_total bytes_exact (profile_key dg) (view_profile dg) n.profiles Q

  module _ (n : Inputs) (P : PoliciesByKey) (Q : ProfilesByKey) (U : Uses) (is : IsScanned dg n P Q U) where
    policies_of : ArePolicies n P
    policies_of = subst (ArePolicies n) (sym is.policies_are) (collected_are policy_total exact_policy (policy_key dg) (view_policy dg) n.policies is.apart.policies_apart)

    profiles_of : AreProfiles n Q
    profiles_of = subst (AreProfiles n) (sym is.profiles_are) (collected_are nat_list_cmp_total bytes_exact (profile_key dg) (view_profile dg) n.profiles is.apart.profiles_apart)

    held_all : (counts : Counts) → AreCounts counts (all_uses n) → AreHeld dg counts U (all_uses n)
    held_all counts counted = record {
      counts_are = counted;
      told_are = subst (λ u. AreTold dg u (all_uses n)) (sym is.uses_are) (filled_told dg (all_uses n) (apart_all dg n is.apart));
    }

    -- ---- a policy
    module _ (id : PolicyId) where
      pub policy_held : (counts : Counts) → AreCounts counts (all_uses n) → AreHeld dg counts U (uses_of_policy (maps.get n.policies id) ++ all_uses (without_policy n id))
      policy_held counts counted = held_same dg counts U (all_uses n) (uses_of_policy (maps.get n.policies id) ++ all_uses (without_policy n id)) (policy_apart n id) (held_all counts counted)

      module _ (x : Policy) (counts : Counts) (U' : Uses) (held : AreHeld dg counts U' (policy_uses x ++ all_uses (without_policy n id))) where
        policy_held_then : AreHeld dg counts U' (all_uses (record n { policies = maps.insert n.policies id x }))
        policy_held_then = held_same dg counts U' (policy_uses x ++ all_uses (without_policy n id)) (all_uses (record n { policies = maps.insert n.policies id x })) (policy_with n id x) held

        pub policy_counted : AreCounts counts (all_uses (record n { policies = maps.insert n.policies id x }))
        policy_counted = policy_held_then.counts_are

        pub policy_put : IsApart dg (record n { policies = maps.insert n.policies id x }) → (P' : PoliciesByKey) (Q' : ProfilesByKey) → P' ≡ maps.insert P (policy_key dg id) (view_policy dg id x) → Q' ≡ Q → IsScanned dg (record n { policies = maps.insert n.policies id x }) P' Q' U'
        policy_put apart P' Q' now same = record {
          policies_are =
              now
              ∙ are_collected policy_total exact_policy (policy_key dg) (view_policy dg) (maps.insert n.policies id x) apart.policies_apart (maps.insert P (policy_key dg id) (view_policy dg id x))
              (put_are policy_total exact_policy (policy_key dg) (view_policy dg) n.policies id x P apart.policies_apart policies_of);
          profiles_are = same ∙ is.profiles_are;
          uses_are = told_filled dg U' (all_uses (record n { policies = maps.insert n.policies id x })) policy_held_then.told_are;
          apart = apart;
        }

      module _ (x : Policy) (stood : maps.get n.policies id ≡ Some x) where
        pub policy_there : IsSome (maps.get P (policy_key dg id))
        policy_there = key_is_there policy_total exact_policy (policy_key dg) (view_policy dg) n.policies id x P stood policies_of

        pub policy_gone : (counts : Counts) (U' : Uses) → AreHeld dg counts U' (all_uses (without_policy n id)) → (P' : PoliciesByKey) (Q' : ProfilesByKey) → P' ≡ maps.remove P (policy_key dg id) → Q' ≡ Q → IsScanned dg (without_policy n id) P' Q' U'
        policy_gone counts U' held P' Q' now same =
            let left = fewer dg (without_policy n id) n (less_policy n id) is.apart in
            record {
              policies_are =
                  now
                  ∙ are_collected policy_total exact_policy (policy_key dg) (view_policy dg) (maps.remove n.policies id) left.policies_apart (maps.remove P (policy_key dg id))
                  (gone_are policy_total exact_policy (policy_key dg) (view_policy dg) n.policies id x P is.apart.policies_apart stood policies_of);
              profiles_are = same ∙ is.profiles_are;
              uses_are = told_filled dg U' (all_uses (without_policy n id)) held.told_are;
              apart = left;
            }

    -- ---- a profile
    module _ (name : List ℕ) where
      pub profile_held : (counts : Counts) → AreCounts counts (all_uses n) → AreHeld dg counts U (uses_if_there (profile_of (maps.get n.profiles name)) ++ all_uses (without_profile n name))
      profile_held counts counted = held_same dg counts U (all_uses n) (uses_if_there (profile_of (maps.get n.profiles name)) ++ all_uses (without_profile n name)) (profile_apart n name) (held_all counts counted)

      module _ (x : Option Profile) (counts : Counts) (U' : Uses) (held : AreHeld dg counts U' (uses_if_there x ++ all_uses (without_profile n name))) where
        profile_held_then : AreHeld dg counts U' (all_uses (record n { profiles = maps.insert n.profiles name x }))
        profile_held_then = held_same dg counts U' (uses_if_there x ++ all_uses (without_profile n name)) (all_uses (record n { profiles = maps.insert n.profiles name x })) (profile_with n name x) held

        pub profile_counted : AreCounts counts (all_uses (record n { profiles = maps.insert n.profiles name x }))
        profile_counted = profile_held_then.counts_are

        pub profile_put : IsApart dg (record n { profiles = maps.insert n.profiles name x }) → (P' : PoliciesByKey) (Q' : ProfilesByKey) → P' ≡ P → Q' ≡ maps.insert Q (profile_key dg name) (view_profile dg name x) → IsScanned dg (record n { profiles = maps.insert n.profiles name x }) P' Q' U'
        profile_put apart P' Q' same now = record {
          policies_are = same ∙ is.policies_are;
          profiles_are =
              now
              ∙ are_collected nat_list_cmp_total bytes_exact (profile_key dg) (view_profile dg) (maps.insert n.profiles name x) apart.profiles_apart (maps.insert Q (profile_key dg name) (view_profile dg name x))
              (put_are nat_list_cmp_total bytes_exact (profile_key dg) (view_profile dg) n.profiles name x Q apart.profiles_apart profiles_of);
          uses_are = told_filled dg U' (all_uses (record n { profiles = maps.insert n.profiles name x })) profile_held_then.told_are;
          apart = apart;
        }

      module _ (x : Option Profile) (stood : maps.get n.profiles name ≡ Some x) where
        pub profile_there : IsSome (maps.get Q (profile_key dg name))
        profile_there = key_is_there nat_list_cmp_total bytes_exact (profile_key dg) (view_profile dg) n.profiles name x Q stood profiles_of

        pub profile_gone : (counts : Counts) (U' : Uses) → AreHeld dg counts U' (all_uses (without_profile n name)) → (P' : PoliciesByKey) (Q' : ProfilesByKey) → P' ≡ P → Q' ≡ maps.remove Q (profile_key dg name) → IsScanned dg (without_profile n name) P' Q' U'
        profile_gone counts U' held P' Q' same now =
            let left = fewer dg (without_profile n name) n (less_profile n name) is.apart in
            record {
              policies_are = same ∙ is.policies_are;
              profiles_are =
                  now
                  ∙ are_collected nat_list_cmp_total bytes_exact (profile_key dg) (view_profile dg) (maps.remove n.profiles name) left.profiles_apart (maps.remove Q (profile_key dg name))
                  (gone_are nat_list_cmp_total bytes_exact (profile_key dg) (view_profile dg) n.profiles name x Q is.apart.profiles_apart stood profiles_of);
              uses_are = told_filled dg U' (all_uses (without_profile n name)) held.told_are;
              apart = left;
            }

  -- ---- new rules clash with no others

  pub policy_apart_from : (n : Inputs) (id : PolicyId) (x : Policy) → IsApart dg (record n { policies = maps.insert n.policies id x }) → AreApartFrom dg (policy_uses x) (all_uses (without_policy n id))
  policy_apart_from n id x apart =
      let now : Inputs = record n { policies = maps.insert n.policies id x } in
      apart_from dg now apart (policy_uses x) (all_uses (without_policy n id)) (policy_used now id x (get_put policy_total n.policies id x)) (part_used (without_policy n id) now (other_policies n id x))

  pub profile_apart_from : (n : Inputs) (name : List ℕ) (x : Option Profile) → IsApart dg (record n { profiles = maps.insert n.profiles name x }) → AreApartFrom dg (uses_if_there x) (all_uses (without_profile n name))
  profile_apart_from n name x apart =
      let now : Inputs = record n { profiles = maps.insert n.profiles name x } in
      apart_from dg now apart (uses_if_there x) (all_uses (without_profile n name)) (profile_used now name x (get_put nat_list_cmp_total n.profiles name x)) (part_used (without_profile n name) now (other_profiles n name x))

-- ---- what isn't there

pub no_policy : (n : Inputs) (id : PolicyId) → maps.get n.policies id ≡ None → n ≡ without_policy n id
no_policy n id none = λ j. record n { policies = sym (remove_absent policy_total n.policies id exact_policy none) j }

pub no_profile : (n : Inputs) (name : List ℕ) → maps.get n.profiles name ≡ None → n ≡ without_profile n name
no_profile n name none = λ j. record n { profiles = sym (remove_absent nat_list_cmp_total n.profiles name bytes_exact none) j }

-- ---- at the start

pub none_used : {A : Type 0} (u : SetUse) → IsUsed no_inputs u → A
none_used u (inl who) = none_some who.1.0 (sym (maps.get-empty policy_cmp.cmp-value.it who.0) ∙ who.1.1.0)
none_used u (inr who) = none_some (Some who.1.0) (sym (get_empty who.0) ∙ who.1.1.0)

apart_at_first : (dg : Digest) → IsApart dg no_inputs
apart_at_first dg = record {
  policies_apart = λ i j p q h _ _. none_some p (sym (maps.get-empty policy_cmp.cmp-value.it i) ∙ h);
  profiles_apart = λ s t p q h _ _. none_some p (sym (get_empty s) ∙ h);
  uses_apart = λ u v h _ _. none_used u h;
}

pub nothing_scanned : (n : Inputs) → n ≡ no_inputs → (dg : Digest) → IsScanned dg n maps.empty maps.empty maps.empty
nothing_scanned n none dg = subst (λ m. IsScanned dg m maps.empty maps.empty maps.empty) (sym none) (record {
  policies_are = sym (ap (λ es. collected (map (policy_entry dg) es)) (entries-empty policy_cmp.cmp-value.it));
  profiles_are = sym (ap (λ es. collected (map (profile_entry dg) es)) (entries-empty (slice_cmp nat_cmp)));
  uses_are = sym (ap (λ us. filled maps.empty (map (use_entry dg) us)) no_uses);
  apart = apart_at_first dg;
})
