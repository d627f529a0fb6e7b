-- What all inputs use, as one of them is put or removed.
use Rattle.std.proofs.Common.{◌≡◌, ℕ, ◌+◌, Bool, unwrap_or, List, [], ◌∷◌, ◌++◌, Option, Some, None, refl, sym, ap, ◌∙◌, arith}
use Rattle.std.specs.List.{flat_map}
use Rattle.std.specs.declared.cmp.Ordering.{Ordering}
use Rattle.std.specs.Cmp.{IsTotalOrder}
use Rattle.std.specs.Ordering.{nat_cmp}
use Rattle.std.specs.Cmp.Lexicographic.{slice_cmp, nat_list_cmp_total}
use Rattle.std.specs.FinMap as maps
use Rattle.std.specs.FinMap.{FinMap, IsAntisymmetric}
use Rattle.fx_base.proofs.AtKey.{get_empty}
use Rattle.fx_base.proofs.Entries.{entries-empty}
use Rattle.fx_base.proofs.KeyCases.{bytes_exact}
use Rattle.fx_base.proofs.SumOver.{sum_over, sum_at, sum-insert, sum-remove}
use Rattle.fx_model.proofs.Orders.{policy_total, exact_policy}
use Rattle.fx_model.specs.Sets.{policy_uses}
use Rattle.fx_model.specs.Views.{uses_if_there}
use Rattle.fx_model.specs.contracts.ids.PolicyIdOrd.TheImpl as policy_cmp
use Rattle.fx_model.specs.declared.ids.PolicyId.{PolicyId}
use Rattle.fx_model.specs.declared.policy.Policy.{Policy}
use Rattle.fx_model.specs.declared.resources.Profile.{Profile}
use Rattle.fx_model.specs.declared.set_use.SetUse.{SetUse}
use Rattle.fx_scanner.specs.declared.inputs.Inputs.{Inputs}
use Rattle.fx_scanner.specs.declared.state.State.{State}
use Rattle.fx_scanner.specs.Kept.{IsKeptState}
use Rattle.fx_scanner.specs.Scanned.{used_by_policies, used_by_profiles, all_uses, uses_of_policy, profile_of}
use Rattle.fx_scanner.specs.Uses.{has_key, times, count_at}
use Rattle.fx_scanner.proofs.Bags.{AreSame, times-append}

times-flat : {A : Type 0} (p : SetUse → Bool) (f : A → List SetUse) (xs : List A) → times p (flat_map f xs) ≡ sum_over (λ x. times p (f x)) xs
times-flat p f [] = refl
times-flat p f (x ∷ xs) = times-append p (f x) (flat_map f xs) ∙ ap (λ n. times p (f x) + n) (times-flat p f xs)

-- ---- entries that use sets
module _ {K X : Type 0} {R : K → K → Ordering} (o : IsTotalOrder R) (exact : IsAntisymmetric R) (f : X → List SetUse) where
  abbrev used : FinMap R X → List SetUse
  used m = flat_map (λ (e : K × X). f e.1) (maps.entries m)

  abbrev used_at : Option X → List SetUse
  used_at None = []
  used_at (Some x) = f x

  at_key : (p : SetUse → Bool) (k : K) (v : Option X) → sum_at (λ (e : K × X). times p (f e.1)) k v ≡ times p (used_at v)
  at_key p k None = refl
  at_key p k (Some x) = refl

  used_apart : (m : FinMap R X) (k : K) (p : SetUse → Bool) → times p (used m) ≡ times p (used_at (maps.get m k)) + times p (used (maps.remove m k))
  used_apart m k p =
      times-flat p (λ (e : K × X). f e.1) (maps.entries m)
      ∙ sum-remove o exact (λ (e : K × X). times p (f e.1)) m k
      ∙ (λ j. at_key p k (maps.get m k) j + sym (times-flat p (λ (e : K × X). f e.1) (maps.entries (maps.remove m k))) j)

  used_put : (m : FinMap R X) (k : K) (x : X) (p : SetUse → Bool) → times p (used (maps.insert m k x)) ≡ times p (f x) + times p (used (maps.remove m k))
  used_put m k x p =
      times-flat p (λ (e : K × X). f e.1) (maps.entries (maps.insert m k x))
      ∙ sum-insert o exact (λ (e : K × X). times p (f e.1)) m k x
      ∙ ap (λ n. times p (f x) + n) (sym (times-flat p (λ (e : K × X). f e.1) (maps.entries (maps.remove m k))))

joined : (a b c : ℕ) → a + b + c ≡ a + (b + c)
joined a b c = omega arith

moved : (a b c : ℕ) → c + (a + b) ≡ a + (c + b)
moved a b c = omega arith

-- ---- policies
module _ (n : Inputs) (id : PolicyId) where
  abbrev pub without_policy : Inputs
  without_policy = record n { policies = maps.remove n.policies id }

  policy_at : (p : SetUse → Bool) (v : Option Policy) → times p (used_at policy_total exact_policy policy_uses v) ≡ times p (uses_of_policy v)
  policy_at p None = refl
  policy_at p (Some x) = refl

  pub policy_apart : AreSame (all_uses n) (uses_of_policy (maps.get n.policies id) ++ all_uses without_policy)
  policy_apart p =
      times-append p (used_by_policies n.policies) (used_by_profiles n.profiles)
      ∙ ap (λ k. k + times p (used_by_profiles n.profiles)) (used_apart policy_total exact_policy policy_uses n.policies id p ∙ ap (λ k. k + times p (used_by_policies (maps.remove n.policies id))) (policy_at p (maps.get n.policies id)))
      ∙ joined (times p (uses_of_policy (maps.get n.policies id))) (times p (used_by_policies (maps.remove n.policies id))) (times p (used_by_profiles n.profiles))
      ∙ sym (times-append p (uses_of_policy (maps.get n.policies id)) (all_uses without_policy)
      ∙ ap (λ k. times p (uses_of_policy (maps.get n.policies id)) + k) (times-append p (used_by_policies (maps.remove n.policies id)) (used_by_profiles n.profiles)))

  pub policy_with : (x : Policy) → AreSame (policy_uses x ++ all_uses without_policy) (all_uses (record n { policies = maps.insert n.policies id x }))
  policy_with x p =
      times-append p (policy_uses x) (all_uses without_policy)
      ∙ ap (λ k. times p (policy_uses x) + k) (times-append p (used_by_policies (maps.remove n.policies id)) (used_by_profiles n.profiles))
      ∙ sym (joined (times p (policy_uses x)) (times p (used_by_policies (maps.remove n.policies id))) (times p (used_by_profiles n.profiles)))
      ∙ ap (λ k. k + times p (used_by_profiles n.profiles)) (sym (used_put policy_total exact_policy policy_uses n.policies id x p))
      ∙ sym (times-append p (used_by_policies (maps.insert n.policies id x)) (used_by_profiles n.profiles))

-- ---- profiles
module _ (n : Inputs) (name : List ℕ) where
  abbrev pub without_profile : Inputs
  without_profile = record n { profiles = maps.remove n.profiles name }

  profile_at : (p : SetUse → Bool) (v : Option (Option Profile)) → times p (used_at nat_list_cmp_total bytes_exact uses_if_there v) ≡ times p (uses_if_there (profile_of v))
  profile_at p None = refl
  profile_at p (Some x) = refl

  pub profile_apart : AreSame (all_uses n) (uses_if_there (profile_of (maps.get n.profiles name)) ++ all_uses without_profile)
  profile_apart p =
      let own = uses_if_there (profile_of (maps.get n.profiles name)) in
      times-append p (used_by_policies n.policies) (used_by_profiles n.profiles)
      ∙ ap (λ k. times p (used_by_policies n.policies) + k) (used_apart nat_list_cmp_total bytes_exact uses_if_there n.profiles name p ∙ ap (λ k. k + times p (used_by_profiles (maps.remove n.profiles name))) (profile_at p (maps.get n.profiles name)))
      ∙ moved (times p own) (times p (used_by_profiles (maps.remove n.profiles name))) (times p (used_by_policies n.policies))
      ∙ sym (times-append p own (all_uses without_profile)
      ∙ ap (λ k. times p own + k) (times-append p (used_by_policies n.policies) (used_by_profiles (maps.remove n.profiles name))))

  pub profile_with : (x : Option Profile) → AreSame (uses_if_there x ++ all_uses without_profile) (all_uses (record n { profiles = maps.insert n.profiles name x }))
  profile_with x p =
      times-append p (uses_if_there x) (all_uses without_profile)
      ∙ ap (λ k. times p (uses_if_there x) + k) (times-append p (used_by_policies n.policies) (used_by_profiles (maps.remove n.profiles name)))
      ∙ sym (moved (times p (uses_if_there x)) (times p (used_by_profiles (maps.remove n.profiles name))) (times p (used_by_policies n.policies)))
      ∙ ap (λ k. times p (used_by_policies n.policies) + k) (sym (used_put nat_list_cmp_total bytes_exact uses_if_there n.profiles name x p))
      ∙ sym (times-append p (used_by_policies n.policies) (used_by_profiles (maps.insert n.profiles name x)))

-- ---- at the start

abbrev pub no_inputs : Inputs
no_inputs = record { policies = maps.empty; profiles = maps.empty }

pub no_uses : all_uses no_inputs ≡ []
no_uses = λ j. flat_map (λ x. policy_uses x.1) (entries-empty policy_cmp.cmp-value.it j) ++ flat_map (λ x. uses_if_there x.1) (entries-empty (slice_cmp nat_cmp) j)

pub none_counted : (s : State) → s.inputs ≡ no_inputs → s.counts ≡ maps.empty → IsKeptState s
none_counted s inputs counts key =
    ap (λ c. count_at c key) counts ∙ ap (λ (o : Option ℕ). unwrap_or o 0) (get_empty key)
    ∙ sym (ap (times (has_key key)) (ap all_uses inputs ∙ no_uses))
