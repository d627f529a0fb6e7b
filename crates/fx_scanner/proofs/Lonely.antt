-- One policy, one profile and one set clash with nothing.
use Rattle.std.proofs.Common.{◌≡◌, inl, inr, ℕ, List, Option, Some, sym, ap, ◌∙◌, subst}
use Rattle.std.specs.List.{AllByRecursion, Contains}
use Rattle.std.specs.Cmp.Lexicographic.{nat_list_cmp_total}
use Rattle.std.proofs.lemmas.List.Elements.{All-contains, All-from_recursion}
use Rattle.std.specs.FinMap as maps
use Rattle.std.specs.Ordering.{eq_by_cmp}
use Rattle.fx_base.proofs.AtKey.{get_empty}
use Rattle.fx_base.proofs.KeyCases.{bytes_exact}
use Rattle.fx_names.specs.Digests.{Digest}
use Rattle.fx_model.proofs.Orders.{policy_total, exact_policy}
use Rattle.fx_model.specs.Sets.{policy_uses, profile_uses}
use Rattle.fx_model.specs.Views.{uses_if_there}
use Rattle.fx_model.specs.contracts.ids.PolicyIdOrd.TheImpl as policy_cmp
use Rattle.fx_model.specs.declared.ids.PolicyId.{PolicyId}
use Rattle.fx_model.specs.declared.policy.Policy.{Policy}
use Rattle.fx_model.specs.declared.resources.Profile.{Profile}
use Rattle.fx_model.specs.declared.set_use.SetUse.{SetUse}
use Rattle.fx_scanner.specs.declared.inputs.Inputs.{Inputs}
use Rattle.fx_scanner.specs.Alone.{IsAlone}
use Rattle.fx_scanner.specs.Apart.{IsUsed, IsApart, IsPartOf}
use Rattle.fx_scanner.specs.Uses.{same_text}
use Rattle.fx_scanner.proofs.ApartUses.{used_in_whole, less_policy, less_profile}
use Rattle.fx_scanner.proofs.ByKeys.{one_key, get_put, other_put}
use Rattle.fx_scanner.proofs.InputBags.{no_inputs, without_policy, without_profile}
use Rattle.fx_scanner.proofs.Scanning.{none_used}
use Rattle.fx_scanner.proofs.Texts.{whether}
use Rattle.fx_base.proofs.Cases.{same_some, none_some}

module _ (id : PolicyId) (name : List ℕ) (u : SetUse) where
  pub alone_apart : (dg : Digest) (n : Inputs) → IsAlone id name u n → IsApart dg n
  alone_apart dg n is = record {
    policies_apart = λ i j p q g h _. is.policies_one i p g ∙ sym (is.policies_one j q h);
    profiles_apart = λ s t p q g h _. is.profiles_one s p g ∙ sym (is.profiles_one t q h);
    uses_apart = λ v w g h _. is.uses_one v g ∙ sym (is.uses_one w h);
  }

  pub alone_part : (part whole : Inputs) → IsPartOf part whole → IsAlone id name u whole → IsAlone id name u part
  alone_part part whole within is = record {
    policies_one = λ i p h. is.policies_one i p (within.policies_in i p h);
    profiles_one = λ s o h. is.profiles_one s o (within.profiles_in s o h);
    uses_one = λ v h. is.uses_one v (used_in_whole part whole within v h);
  }

  pub alone_at_first : (n : Inputs) → n ≡ no_inputs → IsAlone id name u n
  alone_at_first n none = subst (IsAlone id name u) (sym none) (record {
    policies_one = λ i p h. none_some p (sym (maps.get-empty policy_cmp.cmp-value.it i) ∙ h);
    profiles_one = λ s o h. none_some o (sym (get_empty s) ∙ h);
    uses_one = λ v h. none_used v h;
  })

  one_of_these : (us : List SetUse) → AllByRecursion (λ v. v ≡ u) us → (v : SetUse) → Contains us v → v ≡ u
  one_of_these us all v within = All-contains (λ w. w ≡ u) us v (All-from_recursion (λ w. w ≡ u) us all) within

  module _ (n : Inputs) (is : IsAlone id name u n) where
    pub alone_with_policy : (p : Policy) → AllByRecursion (λ v. v ≡ u) (policy_uses p) → IsAlone id name u (record n { policies = maps.insert n.policies id p })
    alone_with_policy p all = record {
      policies_one = λ i q h.
          whether (eq_by_cmp policy_cmp.cmp-value.it i id)
          (λ same. one_key exact_policy i id same)
          (λ other. is.policies_one i q (sym (other_put policy_total n.policies id p i other) ∙ h));
      profiles_one = is.profiles_one;
      uses_one = by_kind;
    }
      where
        by_kind : (v : SetUse) → IsUsed (record n { policies = maps.insert n.policies id p }) v → v ≡ u
        by_kind v (inr who) = is.uses_one v (inr who)
        by_kind v (inl who) =
            whether (eq_by_cmp policy_cmp.cmp-value.it who.0 id)
            (λ same.
            let own : p ≡ who.1.0 = same_some p who.1.0 (sym (get_put policy_total n.policies id p) ∙ ap (maps.get (maps.insert n.policies id p)) (sym (one_key exact_policy who.0 id same)) ∙ who.1.1.0) in
            one_of_these (policy_uses who.1.0) (subst (λ (q : Policy). AllByRecursion (λ v. v ≡ u) (policy_uses q)) own all) v who.1.1.1)
            (λ other. is.uses_one v (inl (who.0, (who.1.0, (sym (other_put policy_total n.policies id p who.0 other) ∙ who.1.1.0, who.1.1.1)))))

    pub alone_with_profile : (x : Option Profile) → AllByRecursion (λ v. v ≡ u) (uses_if_there x) → IsAlone id name u (record n { profiles = maps.insert n.profiles name x })
    alone_with_profile x all = record {
      policies_one = is.policies_one;
      profiles_one = λ s o h.
          whether (same_text s name)
          (λ same. one_key bytes_exact s name same)
          (λ other. is.profiles_one s o (sym (other_put nat_list_cmp_total n.profiles name x s other) ∙ h));
      uses_one = by_kind;
    }
      where
        by_kind : (v : SetUse) → IsUsed (record n { profiles = maps.insert n.profiles name x }) v → v ≡ u
        by_kind v (inl who) = is.uses_one v (inl who)
        by_kind v (inr who) =
            whether (same_text who.0 name)
            (λ same.
            let own : x ≡ Some who.1.0 = same_some x (Some who.1.0) (sym (get_put nat_list_cmp_total n.profiles name x) ∙ ap (maps.get (maps.insert n.profiles name x)) (sym (one_key bytes_exact who.0 name same)) ∙ who.1.1.0) in
            one_of_these (profile_uses who.1.0) (subst (λ (o : Option Profile). AllByRecursion (λ v. v ≡ u) (uses_if_there o)) own all) v who.1.1.1)
            (λ other. is.uses_one v (inr (who.0, (who.1.0, (sym (other_put nat_list_cmp_total n.profiles name x who.0 other) ∙ who.1.1.0, who.1.1.1)))))

    pub alone_without_policy : IsAlone id name u (without_policy n id)
    alone_without_policy = alone_part (without_policy n id) n (less_policy n id) is

    pub alone_without_profile : IsAlone id name u (without_profile n name)
    alone_without_profile = alone_part (without_profile n name) n (less_profile n name) is
