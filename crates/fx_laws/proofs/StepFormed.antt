-- Each message keeps the forms of the sent view where the wanted one has them: lengths of names, workloads' interfaces, kinds of sets.
use Rattle.std.proofs.Common.{◌≡◌, ℕ, Bool, true, List, Option, Some, None, refl}
use Rattle.std.specs.List.{list_all}
use Rattle.std.specs.Cmp.Lexicographic.{nat_list_cmp_total}
use Rattle.std.specs.FinMap as maps
use Rattle.fx_base.specs.Extended.{put_or_removed, taken_from}
use Rattle.fx_base.specs.Same.{both_pass}
use Rattle.fx_base.proofs.AllEntries.{all-insert}
use Rattle.fx_base.proofs.KeyCases.{bytes_exact}
use Rattle.fx_base.proofs.Taken.{taken_cases}
use Rattle.fx_model.specs.declared.view.View.{View}
use Rattle.fx_model.specs.declared.view.ViewEndpoint.{ViewEndpoint}
use Rattle.fx_model.specs.Policy.{is_workload}
use Rattle.fx_model.specs.Formed.{is_formed_view, is_formed_view_endpoint, is_formed_view_profile, has_workload_interfaces}
use Rattle.fx_model.specs.Messages.{Named, Change, SetAdd, SetDelta, PolicyPut, ProfilePut, EndpointPut, EndpointGone, ProfileGone, PolicyGone, SetGone, step_at}
use Rattle.fx_model.specs.Shapes.{AreOfKinds, is_member_of}
use Rattle.fx_laws.proofs.Removing.{both, found_passes, all-remove}

-- what holds of each entry of two maps holds where one takes a key from the other
all-taken : {X : Type 0} (p : List ℕ × X → Bool) (m n : Named X) (k : List ℕ) → list_all p (maps.entries m) ≡ true → list_all p (maps.entries n) ≡ true → list_all p (maps.entries (taken_from m n k)) ≡ true
all-taken p m n k was aim = by_value (maps.get n k) refl
  where
    by_value : (o : Option _) → maps.get n k ≡ o → list_all p (maps.entries (put_or_removed m k o)) ≡ true
    by_value None is = all-remove nat_list_cmp_total bytes_exact p m k was
    by_value (Some x) is = all-insert bytes_exact p nat_list_cmp_total m k x (found_passes nat_list_cmp_total bytes_exact p n aim k x is) was

module _ (s w : View) where
  module _ (was : is_formed_view s ≡ true) (aim : is_formed_view w ≡ true) where
    endpoints_formed : (k : List ℕ) → is_formed_view (record s { endpoints = taken_from s.endpoints w.endpoints k }) ≡ true
    endpoints_formed k = both _ _ (all-taken is_formed_view_endpoint s.endpoints w.endpoints k (both_pass _ _ was).0 (both_pass _ _ aim).0) (both_pass _ _ was).1

    profiles_formed : (k : List ℕ) → is_formed_view (record s { profiles = taken_from s.profiles w.profiles k }) ≡ true
    profiles_formed k = both _ _ (both_pass _ _ was).0 (all-taken is_formed_view_profile s.profiles w.profiles k (both_pass _ _ was).1 (both_pass _ _ aim).1)

  pub step-formed : (c : Change) → is_formed_view s ≡ true → is_formed_view w ≡ true → is_formed_view (step_at c s w) ≡ true
  step-formed (SetAdd k ms) was aim = was
  step-formed (SetDelta k adds removes) was aim = was
  step-formed (PolicyPut k p) was aim = was
  step-formed (ProfilePut k p) was aim = profiles_formed was aim k
  step-formed (EndpointPut k e) was aim = endpoints_formed was aim k
  step-formed (EndpointGone k) was aim = endpoints_formed was aim k
  step-formed (ProfileGone k) was aim = profiles_formed was aim k
  step-formed (PolicyGone k) was aim = was
  step-formed (SetGone k) was aim = was

  endpoints_on_workloads : (k : List ℕ) → has_workload_interfaces s ≡ true → has_workload_interfaces w ≡ true → has_workload_interfaces (record s { endpoints = taken_from s.endpoints w.endpoints k }) ≡ true
  endpoints_on_workloads k was aim = all-taken (λ (x : List ℕ × ViewEndpoint). is_workload x.0) s.endpoints w.endpoints k was aim

  pub step-on-workloads : (c : Change) → has_workload_interfaces s ≡ true → has_workload_interfaces w ≡ true → has_workload_interfaces (step_at c s w) ≡ true
  step-on-workloads (SetAdd k ms) was aim = was
  step-on-workloads (SetDelta k adds removes) was aim = was
  step-on-workloads (PolicyPut k p) was aim = was
  step-on-workloads (ProfilePut k p) was aim = was
  step-on-workloads (EndpointPut k e) was aim = endpoints_on_workloads k was aim
  step-on-workloads (EndpointGone k) was aim = endpoints_on_workloads k was aim
  step-on-workloads (ProfileGone k) was aim = was
  step-on-workloads (PolicyGone k) was aim = was
  step-on-workloads (SetGone k) was aim = was

  sets_of_kinds : (k : List ℕ) → AreOfKinds s.sets → AreOfKinds w.sets → AreOfKinds (taken_from s.sets w.sets k)
  sets_of_kinds k was aim = λ name members is x held.
      taken_cases (λ o. o ≡ Some members → is_member_of name x ≡ true) s.sets w.sets k name (λ _ there. aim name members there x held) (λ there. was name members there x held) is

  pub step-of-kinds : (c : Change) → AreOfKinds s.sets → AreOfKinds w.sets → AreOfKinds (step_at c s w).sets
  step-of-kinds (SetAdd k ms) was aim = sets_of_kinds k was aim
  step-of-kinds (SetDelta k adds removes) was aim = sets_of_kinds k was aim
  step-of-kinds (PolicyPut k p) was aim = was
  step-of-kinds (ProfilePut k p) was aim = was
  step-of-kinds (EndpointPut k e) was aim = was
  step-of-kinds (EndpointGone k) was aim = was
  step-of-kinds (ProfileGone k) was aim = was
  step-of-kinds (PolicyGone k) was aim = was
  step-of-kinds (SetGone k) was aim = sets_of_kinds k was aim
