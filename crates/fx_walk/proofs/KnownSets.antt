-- Each set that the wanted rules use has in the view the members of its use, since no two uses share a set.
use Rattle.std.proofs.Common.{◌≡◌, ℕ, Bool, true, false, cond, List, [], ◌∷◌, map, Option, Some, None, refl, sym, ap, ◌∙◌}
use Rattle.std.specs.Prelude.{filter}
use Rattle.std.specs.List.{AllByRecursion, flat_map}
use Rattle.std.specs.FinMap as maps
use Rattle.fx_base.proofs.AtKey.{get_empty}
use Rattle.fx_base.proofs.FilledLemmas.{at_filled, value_there}
use Rattle.fx_base.proofs.Found.{each, entries_found}
use Rattle.fx_names.specs.Digests.{Digest}
use Rattle.fx_model.specs.declared.ids.PolicyId.{PolicyId}
use Rattle.fx_model.specs.declared.policy.Policy.{Policy}
use Rattle.fx_model.specs.declared.resources.Profile.{Profile}
use Rattle.fx_model.specs.declared.resources.Resources.{Resources}
use Rattle.fx_model.specs.declared.set_use.SetUse.{SetUse}
use Rattle.fx_model.specs.Active.{is_active, active_policies}
use Rattle.fx_model.specs.Claims.{IsClashFree}
use Rattle.fx_model.specs.Formed.{is_formed_profile, is_formed_policy}
use Rattle.fx_model.specs.Messages.{Members}
use Rattle.fx_model.specs.Sets.{policy_uses, use_name, set_members}
use Rattle.fx_model.specs.Views.{view_of, active_profiles, uses_if_there, uses_of_profile, wanted_uses, set_entry}
use Rattle.fx_model.proofs.Orders.{policy_total}
use Rattle.fx_laws.proofs.MadeUses.{IsUsed, used_policy, used_profile, uses_apart}
use Rattle.fx_laws.proofs.Uses.{all-append, all-flat_map}
use Rattle.fx_laws.proofs.ViewClosed.{sets_there}

all-filter : {A : Type 0} (P : A → Type 0) (test : A → Bool) (xs : List A) → AllByRecursion P xs → AllByRecursion P (filter test xs)
all-filter P test [] h = tt
all-filter P test (x ∷ xs) h =
    elim (test x) as (λ b. AllByRecursion P (cond b (x ∷ filter test xs) (filter test xs))) [
      | true ↦ (h.0, all-filter P test xs h.1)
      | false ↦ all-filter P test xs h.1
    ]

-- the policies that are active are those that are there
pub active_stand : (R : Resources) → AllByRecursion (λ x. maps.get R.policies x.0 ≡ Some x.1) (active_policies R)
active_stand R = all-filter (λ (x : PolicyId × Policy). maps.get R.policies x.0 ≡ Some x.1) (λ x. is_active R x.1) (maps.entries R.policies) (entries_found policy_total R.policies)

module _ (dg : Digest) (R : Resources) where
  -- the set of a use has its members in the view
  abbrev pub IsKnown : SetUse → Type 0
  IsKnown u = maps.get (view_of dg R).sets (use_name dg u) ≡ Some (set_members R u)

  module _ (free : IsClashFree dg R) where
    -- the members are those of each use of the name
    abbrev AreOf : List ℕ → Members → Type 0
    AreOf name members = (u : SetUse) → IsUsed dg R u → use_name dg u ≡ name → members ≡ set_members R u

    entries_are : (us : List SetUse) → AllByRecursion (IsUsed dg R) us → AllByRecursion (λ e. AreOf e.0 e.1) (map (set_entry dg R) us)
    entries_are [] h = tt
    entries_are (v ∷ us) h =
        (λ u used names. ap (set_members R) (sym (uses_apart dg R free u v used h.0 names)), entries_are us h.1)

    no_members : {A : Type 0} (members : Members) → None ≡ Some members → A
    no_members members is = cc

    each_known : (us : List SetUse) → AllByRecursion (IsUsed dg R) us → AllByRecursion (λ u. maps.contains_key (view_of dg R).sets (use_name dg u) ≡ true) us → ((name : List ℕ) (members : Members) → maps.get (view_of dg R).sets name ≡ Some members → AreOf name members) → AllByRecursion IsKnown us
    each_known [] used there are = tt
    each_known (u ∷ us) used there are =
        let found = value_there (maps.get (view_of dg R).sets (use_name dg u)) there.0 in
        (found.1 ∙ ap Some (are (use_name dg u) found.0 found.1 u used.0 refl), each_known us used.1 there.1 are)

    known_wanted : AllByRecursion (IsUsed dg R) (wanted_uses R) → AllByRecursion IsKnown (wanted_uses R)
    known_wanted used = each_known (wanted_uses R) used (sets_there dg R)
        (at_filled AreOf maps.empty (map (set_entry dg R) (wanted_uses R)) (λ q members is. no_members members (sym (get_empty q) ∙ is)) (entries_are (wanted_uses R) used))

    module _ (profiles : (name : List ℕ) (p : Profile) → maps.get R.profiles name ≡ Some p → is_formed_profile p ≡ true) (policies : (id : PolicyId) (p : Policy) → maps.get R.policies id ≡ Some p → is_formed_policy p ≡ true) where
      used_if_there : (name : List ℕ) (o : Option Profile) → maps.get R.profiles name ≡ o → AllByRecursion (IsUsed dg R) (uses_if_there o)
      used_if_there name None at = tt
      used_if_there name (Some p) at = used_profile dg R name p (profiles name p at) at

      used_profiles : (names : List (List ℕ)) → AllByRecursion (λ n. AllByRecursion (IsUsed dg R) (uses_of_profile R n)) names
      used_profiles [] = tt
      used_profiles (n ∷ names) = (used_if_there n (maps.get R.profiles n) refl, used_profiles names)

      used_wanted : AllByRecursion (IsUsed dg R) (wanted_uses R)
      used_wanted =
          let of_policy = λ (x : PolicyId × Policy). policy_uses x.1 in
          all-append (IsUsed dg R) (flat_map of_policy (active_policies R)) (flat_map (uses_of_profile R) (active_profiles R))
          (all-flat_map (IsUsed dg R) of_policy (active_policies R) (each (λ (x : PolicyId × Policy). maps.get R.policies x.0 ≡ Some x.1) (λ x. AllByRecursion (IsUsed dg R) (policy_uses x.1)) (λ x at. used_policy dg R x.0 x.1 (policies x.0 x.1 at) at) (active_policies R) (active_stand R)))
          (all-flat_map (IsUsed dg R) (uses_of_profile R) (active_profiles R) (used_profiles (active_profiles R)))

      pub sets_known : AllByRecursion IsKnown (wanted_uses R)
      sets_known = known_wanted used_wanted
