-- Of resources that can be served, each served endpoint has its own interface, each of their profiles its own key, and each set its
-- own members.
use Rattle.std.proofs.Common.{◌≡◌, ℕ, Bool, true, List, [], ◌∷◌, Some, sym, ap, ◌∙◌}
use Rattle.std.specs.List.{list_all, AllByRecursion}
use Rattle.std.specs.Cmp.Lexicographic.{nat_list_cmp_total}
use Rattle.std.specs.FinMap as maps
use Rattle.fx_base.specs.Same.{both_pass}
use Rattle.fx_base.proofs.Found.{of_entries}
use Rattle.fx_base.proofs.KeyCases.{bytes_exact}
use Rattle.fx_laws.proofs.ClaimsOfKeys.{keys_apart}
use Rattle.fx_laws.proofs.FormedLemmas.{endpoints_formed, profiles_formed, policies_formed}
use Rattle.fx_model.proofs.Orders.{item_total, exact_item, policy_total, exact_policy}
use Rattle.fx_model.specs.declared.ids.ItemKey.{ItemKey}
use Rattle.fx_model.specs.declared.ids.PolicyId.{PolicyId}
use Rattle.fx_model.specs.declared.policy.Policy.{Policy}
use Rattle.fx_model.specs.declared.resources.Endpoint.{Endpoint}
use Rattle.fx_model.specs.declared.resources.Profile.{Profile}
use Rattle.fx_model.specs.declared.resources.Resources.{Resources}
use Rattle.fx_model.specs.Resources.{is_local}
use Rattle.fx_model.specs.Policy.{is_workload}
use Rattle.fx_model.specs.Formed.{implies, is_formed_endpoint_entry, is_formed_profile, is_formed_policy, is_formed_policy_id, is_formed_policy_entry, are_formed, has_workload_interface, have_workload_interfaces}
use Rattle.fx_walk.specs.Serving.{ServedEndpointsAreApart, ServedStandOnWorkloads}
use Rattle.fx_laws.proofs.Interfaces.{same_key, one_interface}
use Rattle.fx_walk.proofs.KnownSets.{sets_known}
use Rattle.fx_laws.proofs.PolicyKeys.{policies_apart}

each : {A : Type 0} (p : A → Bool) (xs : List A) → list_all p xs ≡ true → AllByRecursion (λ x. p x ≡ true) xs
each p [] h = tt
each p (x ∷ xs) h = let b = both_pass (p x) (list_all p xs) h in (b.0, each p xs b.1)

-- what each entry of endpoints passes
entry_passes : (p : ItemKey × Endpoint → Bool) (R : Resources) → list_all p (maps.entries R.endpoints) ≡ true → (k : ItemKey) (e : Endpoint) → maps.get R.endpoints k ≡ Some e → p (k, e) ≡ true
entry_passes p R all k e at = of_entries item_total exact_item (λ x. p x ≡ true) R.endpoints k e (each p (maps.entries R.endpoints) all) at

module _ (R : Resources) (formed : are_formed R ≡ true) where
  rules_formed : (name : List ℕ) (p : Profile) → maps.get R.profiles name ≡ Some p → is_formed_profile p ≡ true
  rules_formed name p at =
      of_entries nat_list_cmp_total bytes_exact (λ x. is_formed_profile x.1 ≡ true) R.profiles name p (each (λ x. is_formed_profile x.1) (maps.entries R.profiles) (profiles_formed R formed)) at

  policy_formed : (id : PolicyId) (p : Policy) → maps.get R.policies id ≡ Some p → (is_formed_policy_id id ≡ true) × (is_formed_policy p ≡ true)
  policy_formed id p at =
      both_pass _ _ (of_entries policy_total exact_policy (λ x. is_formed_policy_entry x ≡ true) R.policies id p (each is_formed_policy_entry (maps.entries R.policies) (policies_formed R formed)) at)

-- a local endpoint's interface
local_workload : (R : Resources) → have_workload_interfaces R ≡ true → (k : ItemKey) (e : Endpoint) → maps.get R.endpoints k ≡ Some e → is_local R e ≡ true → is_workload e.iface ≡ true
local_workload R all k e at here =
    ap (λ b. implies b (is_workload e.iface)) (sym here) ∙ entry_passes (λ x. has_workload_interface R.node x.1) R all k e at

pub served_apart : ServedEndpointsAreApart
served_apart dg R formed clash_free = record {
  rules = rules_formed R formed;
  apart = λ k l e f at there s t same.
      let entries = endpoints_formed R formed in
      let first = entry_passes is_formed_endpoint_entry R entries k e at in
      let second = entry_passes is_formed_endpoint_entry R entries l f there in
      same_key k l e f first second
      (one_interface dg R clash_free k l e f first second at there (both_pass R.in_sync (is_local R e) s).1 (both_pass R.in_sync (is_local R f) t).1 same);
  policies = λ id p at. (policy_formed R formed id p at).1;
  policies_apart = λ a b p q at there. policies_apart dg R clash_free a b p q at there (policy_formed R formed a p at).0 (policy_formed R formed b q there).0;
  keys_apart = keys_apart dg R clash_free;
  members = sets_known dg R clash_free (rules_formed R formed) (λ id p at. (policy_formed R formed id p at).1);
}

pub on_workloads : ServedStandOnWorkloads
on_workloads R all k e at served = local_workload R all k e at (both_pass R.in_sync (is_local R e) served).1
