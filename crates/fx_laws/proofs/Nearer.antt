-- Where there is no next message the views are one, and each message leaves one difference fewer.
use Rattle.std.proofs.Common.{◌≡◌, ℕ, ◌+◌, true, List, Option, Some, None, option_map, ap, ◌∙◌, arith}
use Rattle.fx_base.specs.Same.{same_set}
use Rattle.fx_model.specs.declared.view.View.{View}
use Rattle.fx_model.specs.declared.view.ViewPolicy.{ViewPolicy}
use Rattle.fx_model.specs.declared.view.ViewProfile.{ViewProfile}
use Rattle.fx_model.specs.declared.view.ViewEndpoint.{ViewEndpoint}
use Rattle.fx_model.specs.contracts.view.ViewPolicyPartialEq.TheImpl as policy_eq
use Rattle.fx_model.specs.contracts.view.ViewPolicyEq.TheImpl.Laws as policy_laws
use Rattle.fx_model.specs.contracts.view.ViewProfilePartialEq.TheImpl as profile_eq
use Rattle.fx_model.specs.contracts.view.ViewProfileEq.TheImpl.Laws as profile_laws
use Rattle.fx_model.specs.contracts.view.ViewEndpointPartialEq.TheImpl as endpoint_eq
use Rattle.fx_model.specs.contracts.view.ViewEndpointEq.TheImpl.Laws as endpoint_laws
use Rattle.fx_model.specs.contracts.member.MemberSetPartialEq.TheImpl as members_eq
use Rattle.fx_model.specs.contracts.member.MemberSetEq.TheImpl.Laws as members_laws
use Rattle.fx_model.specs.SameMember.{same_member}
use Rattle.fx_model.specs.SameViews.{same_policy, same_profile, same_endpoint}
use Rattle.fx_model.specs.Messages.{Members, Change, set_added, set_changed, PolicyPut, ProfilePut, EndpointPut, EndpointGone, ProfileGone, PolicyGone, SetGone, or_else, next_put, next_gone, next_message, step_at, differences}
use Rattle.fx_laws.proofs.Apart.{none_changed, none_other, same_maps, unchanged, not_other, not_absent, apart-taken, changed_differs, absent_differs, other_differs, gone_differs}
use Rattle.fx_laws.proofs.NextCases.{or_none, no_put, none_gone, Cases, by_cases}

same_members : (x y : Members) → members_eq.eq-value.it x y ≡ true → x ≡ y
same_members x y e = same_set _ same_member x y e

-- ---- no message

pub no_message : (s w : View) → next_message s w ≡ None → s ≡ w
no_message s w e =
    let both = or_none (next_put s w) (next_gone s w) e in
    let put = no_put s w both.0 in
    let gone = none_gone s w both.1 in
    let sets : s.sets ≡ w.sets = same_maps members_eq.eq-value.it same_members s.sets w.sets (none_other members_eq.eq-value.it same_members s.sets w.sets put.new_sets put.other_sets) gone.sets in
    let policies : s.policies ≡ w.policies = same_maps policy_eq.eq-value.it same_policy s.policies w.policies (none_changed policy_eq.eq-value.it same_policy s.policies w.policies put.policies) gone.policies in
    let profiles : s.profiles ≡ w.profiles = same_maps profile_eq.eq-value.it same_profile s.profiles w.profiles (none_changed profile_eq.eq-value.it same_profile s.profiles w.profiles put.profiles) gone.profiles in
    let endpoints : s.endpoints ≡ w.endpoints = same_maps endpoint_eq.eq-value.it same_endpoint s.endpoints w.endpoints (none_changed endpoint_eq.eq-value.it same_endpoint s.endpoints w.endpoints put.endpoints) gone.endpoints in
    λ i. record { sets = sets i; policies = policies i; profiles = profiles i; endpoints = endpoints i }

none_of : {A B : Type 0} (f : A → B) (a : Option A) (b : Option B) → a ≡ None → b ≡ None → or_else (option_map f a) b ≡ None
none_of f a b p q = ap (λ o. or_else (option_map f o) b) p ∙ q

nothing_put : (w : View) → next_put w w ≡ None
nothing_put w =
    none_of set_added _ _ (not_absent w.sets)
    (none_of (set_changed w.sets) _ _ (not_other members_eq.eq-value.it members_laws.laws-law.refl w.sets)
    (none_of (λ (e : List ℕ × ViewPolicy). PolicyPut e.0 e.1) _ _ (unchanged policy_eq.eq-value.it policy_laws.laws-law.refl w.policies)
    (none_of (λ (e : List ℕ × ViewProfile). ProfilePut e.0 e.1) _ _ (unchanged profile_eq.eq-value.it profile_laws.laws-law.refl w.profiles)
    (ap (option_map (λ (e : List ℕ × ViewEndpoint). EndpointPut e.0 e.1)) (unchanged endpoint_eq.eq-value.it endpoint_laws.laws-law.refl w.endpoints)))))

nothing_gone : (w : View) → next_gone w w ≡ None
nothing_gone w =
    none_of (λ (e : List ℕ × ViewEndpoint). EndpointGone e.0) _ _ (not_absent w.endpoints)
    (none_of (λ (e : List ℕ × ViewProfile). ProfileGone e.0) _ _ (not_absent w.profiles)
    (none_of (λ (e : List ℕ × ViewPolicy). PolicyGone e.0) _ _ (not_absent w.policies)
    (ap (option_map (λ (e : List ℕ × Members). SetGone e.0)) (not_absent w.sets))))

-- a view as it is wanted needs no message
pub nothing_to_send : (w : View) → next_message w w ≡ None
nothing_to_send w = ap (λ o. or_else o (next_gone w w)) (nothing_put w) ∙ nothing_gone w

-- ---- one difference fewer

first_less : (a b c : ℕ) → a + 1 ≡ b → (a + c) + 1 ≡ b + c
first_less a b c e = omega arith

second_less : (a b c d : ℕ) → a + 1 ≡ b → (c + (a + d)) + 1 ≡ c + (b + d)
second_less a b c d e = omega arith

third_less : (a b c d f : ℕ) → a + 1 ≡ b → (c + (d + (a + f))) + 1 ≡ c + (d + (b + f))
third_less a b c d f e = omega arith

fourth_less : (a b c d f : ℕ) → a + 1 ≡ b → (c + (d + (f + a))) + 1 ≡ c + (d + (f + b))
fourth_less a b c d f e = omega arith

abbrev IsNearer : View → View → Change → Type 0
IsNearer s w c = differences (step_at c s w) w + 1 ≡ differences s w

nearer_cases : (s w : View) → Cases s w (IsNearer s w)
nearer_cases s w =
    record {
      set_new = λ e is. first_less _ _ _ (apart-taken members_eq.eq-value.it members_laws.laws-law.refl s.sets w.sets e.0 (absent_differs members_eq.eq-value.it s.sets w.sets e is));
      set_other = λ e is. first_less _ _ _ (apart-taken members_eq.eq-value.it members_laws.laws-law.refl s.sets w.sets e.0 (other_differs members_eq.eq-value.it s.sets w.sets e is));
      policy_put = λ none e is. second_less _ _ _ _ (apart-taken policy_eq.eq-value.it policy_laws.laws-law.refl s.policies w.policies e.0 (changed_differs policy_eq.eq-value.it s.policies w.policies e is));
      profile_put = λ none e is. third_less _ _ _ _ _ (apart-taken profile_eq.eq-value.it profile_laws.laws-law.refl s.profiles w.profiles e.0 (changed_differs profile_eq.eq-value.it s.profiles w.profiles e is));
      endpoint_put = λ policies profiles e is. fourth_less _ _ _ _ _ (apart-taken endpoint_eq.eq-value.it endpoint_laws.laws-law.refl s.endpoints w.endpoints e.0 (changed_differs endpoint_eq.eq-value.it s.endpoints w.endpoints e is));
      endpoint_gone = λ e is. fourth_less _ _ _ _ _ (apart-taken endpoint_eq.eq-value.it endpoint_laws.laws-law.refl s.endpoints w.endpoints e.0 (gone_differs endpoint_eq.eq-value.it s.endpoints w.endpoints e is));
      profile_gone = λ put gone e is. third_less _ _ _ _ _ (apart-taken profile_eq.eq-value.it profile_laws.laws-law.refl s.profiles w.profiles e.0 (gone_differs profile_eq.eq-value.it s.profiles w.profiles e is));
      policy_gone = λ put gone e is. second_less _ _ _ _ (apart-taken policy_eq.eq-value.it policy_laws.laws-law.refl s.policies w.policies e.0 (gone_differs policy_eq.eq-value.it s.policies w.policies e is));
      set_gone = λ none profiles policies e is. first_less _ _ _ (apart-taken members_eq.eq-value.it members_laws.laws-law.refl s.sets w.sets e.0 (gone_differs members_eq.eq-value.it s.sets w.sets e is));
    }

pub step-nearer : (s w : View) (c : Change) → next_message s w ≡ Some c → differences (step_at c s w) w + 1 ≡ differences s w
step-nearer s w c is = by_cases s w (IsNearer s w) (nearer_cases s w) c is
