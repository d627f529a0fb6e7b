-- The next message by cases: what is known where it is of a kind.
use Rattle.std.proofs.Common.{◌≡◌, ℕ, List, Option, Some, None, option_map, refl, subst}
use Rattle.fx_model.specs.declared.view.View.{View}
use Rattle.fx_model.specs.declared.view.ViewPolicy.{ViewPolicy}
use Rattle.fx_model.specs.declared.view.ViewProfile.{ViewProfile}
use Rattle.fx_model.specs.declared.view.ViewEndpoint.{ViewEndpoint}
use Rattle.fx_model.specs.contracts.view.ViewPolicyPartialEq.TheImpl as policy_eq
use Rattle.fx_model.specs.contracts.view.ViewProfilePartialEq.TheImpl as profile_eq
use Rattle.fx_model.specs.contracts.view.ViewEndpointPartialEq.TheImpl as endpoint_eq
use Rattle.fx_model.specs.contracts.member.MemberSetPartialEq.TheImpl as members_eq
use Rattle.fx_model.specs.Messages.{Members, Change, PolicyPut, ProfilePut, EndpointPut, EndpointGone, ProfileGone, PolicyGone, SetGone, set_added, set_changed, first_absent, first_changed, first_other, or_else, next_put, next_gone, next_message}

pub or_none : {A : Type 0} (a b : Option A) → or_else a b ≡ None → (a ≡ None) × (b ≡ None)
or_none None b e = (refl, e)
or_none (Some x) b e = cc

pub map_none : {A B : Type 0} (f : A → B) (o : Option A) → option_map f o ≡ None → o ≡ None
map_none f None e = refl
map_none f (Some x) e = cc

mapped : {A B : Type 0} (P : B → Type 0) (f : A → B) (o : Option A) → ((x : A) → o ≡ Some x → P (f x)) → (c : B) → option_map f o ≡ Some c → P c
mapped P f None h c e = cc
mapped P f (Some x) h c e = let is : f x ≡ c = cc in subst P is (h x refl)

one_of : {A : Type 0} (P : A → Type 0) (a b : Option A) → ((c : A) → a ≡ Some c → P c) → (a ≡ None → (c : A) → b ≡ Some c → P c) → (c : A) → or_else a b ≡ Some c → P c
one_of P None b first later c e = later refl c e
one_of P (Some x) b first later c e = first c e

-- what is known where nothing is put
pub record NoPut (s w : View) : Type 0 where
  pub new_sets : first_absent s.sets w.sets ≡ None
  pub other_sets : first_other members_eq.eq-value.it s.sets w.sets ≡ None
  pub policies : first_changed policy_eq.eq-value.it s.policies w.policies ≡ None
  pub profiles : first_changed profile_eq.eq-value.it s.profiles w.profiles ≡ None
  pub endpoints : first_changed endpoint_eq.eq-value.it s.endpoints w.endpoints ≡ None

pub no_put : (s w : View) → next_put s w ≡ None → NoPut s w
no_put s w e =
    let a = or_none (option_map set_added (first_absent s.sets w.sets)) _ e in
    let b = or_none (option_map (set_changed s.sets) (first_other members_eq.eq-value.it s.sets w.sets)) _ a.1 in
    let c = or_none (option_map (λ (e : List ℕ × ViewPolicy). PolicyPut e.0 e.1) (first_changed policy_eq.eq-value.it s.policies w.policies)) _ b.1 in
    let d = or_none (option_map (λ (e : List ℕ × ViewProfile). ProfilePut e.0 e.1) (first_changed profile_eq.eq-value.it s.profiles w.profiles)) _ c.1 in
    record {
      new_sets = map_none set_added _ a.0;
      other_sets = map_none (set_changed s.sets) _ b.0;
      policies = map_none (λ (e : List ℕ × ViewPolicy). PolicyPut e.0 e.1) _ c.0;
      profiles = map_none (λ (e : List ℕ × ViewProfile). ProfilePut e.0 e.1) _ d.0;
      endpoints = map_none (λ (e : List ℕ × ViewEndpoint). EndpointPut e.0 e.1) _ d.1;
    }

-- what is known where nothing is gone
pub record NoneGone (s w : View) : Type 0 where
  pub endpoints : first_absent w.endpoints s.endpoints ≡ None
  pub profiles : first_absent w.profiles s.profiles ≡ None
  pub policies : first_absent w.policies s.policies ≡ None
  pub sets : first_absent w.sets s.sets ≡ None

pub none_gone : (s w : View) → next_gone s w ≡ None → NoneGone s w
none_gone s w e =
    let a = or_none (option_map (λ (e : List ℕ × ViewEndpoint). EndpointGone e.0) (first_absent w.endpoints s.endpoints)) _ e in
    let b = or_none (option_map (λ (e : List ℕ × ViewProfile). ProfileGone e.0) (first_absent w.profiles s.profiles)) _ a.1 in
    let c = or_none (option_map (λ (e : List ℕ × ViewPolicy). PolicyGone e.0) (first_absent w.policies s.policies)) _ b.1 in
    record {
      endpoints = map_none (λ (e : List ℕ × ViewEndpoint). EndpointGone e.0) _ a.0;
      profiles = map_none (λ (e : List ℕ × ViewProfile). ProfileGone e.0) _ b.0;
      policies = map_none (λ (e : List ℕ × ViewPolicy). PolicyGone e.0) _ c.0;
      sets = map_none (λ (e : List ℕ × Members). SetGone e.0) _ c.1;
    }

-- what has to be shown of each kind of message
pub record Cases (s w : View) (P : Change → Type 0) : Type 0 where
  pub set_new : (e : List ℕ × Members) → first_absent s.sets w.sets ≡ Some e → P (set_added e)
  pub set_other : (e : List ℕ × Members) → first_other members_eq.eq-value.it s.sets w.sets ≡ Some e → P (set_changed s.sets e)
  pub policy_put : first_absent s.sets w.sets ≡ None → (e : List ℕ × ViewPolicy) → first_changed policy_eq.eq-value.it s.policies w.policies ≡ Some e → P (PolicyPut e.0 e.1)
  pub profile_put : first_absent s.sets w.sets ≡ None → (e : List ℕ × ViewProfile) → first_changed profile_eq.eq-value.it s.profiles w.profiles ≡ Some e → P (ProfilePut e.0 e.1)
  pub endpoint_put : first_changed policy_eq.eq-value.it s.policies w.policies ≡ None → first_changed profile_eq.eq-value.it s.profiles w.profiles ≡ None → (e : List ℕ × ViewEndpoint) → first_changed endpoint_eq.eq-value.it s.endpoints w.endpoints ≡ Some e → P (EndpointPut e.0 e.1)
  pub endpoint_gone : (e : List ℕ × ViewEndpoint) → first_absent w.endpoints s.endpoints ≡ Some e → P (EndpointGone e.0)
  pub profile_gone : first_changed endpoint_eq.eq-value.it s.endpoints w.endpoints ≡ None → first_absent w.endpoints s.endpoints ≡ None → (e : List ℕ × ViewProfile) → first_absent w.profiles s.profiles ≡ Some e → P (ProfileGone e.0)
  pub policy_gone : first_changed endpoint_eq.eq-value.it s.endpoints w.endpoints ≡ None → first_absent w.endpoints s.endpoints ≡ None → (e : List ℕ × ViewPolicy) → first_absent w.policies s.policies ≡ Some e → P (PolicyGone e.0)
  pub set_gone : NoPut s w → first_absent w.profiles s.profiles ≡ None → first_absent w.policies s.policies ≡ None → (e : List ℕ × Members) → first_absent w.sets s.sets ≡ Some e → P (SetGone e.0)

module _ (s w : View) (P : Change → Type 0) (cases : Cases s w P) where
  put_by_cases : (c : Change) → next_put s w ≡ Some c → P c
  put_by_cases =
      one_of P _ _ (mapped P set_added _ cases.set_new) (λ no_new.
      one_of P _ _ (mapped P (set_changed s.sets) _ cases.set_other) (λ no_other.
      one_of P _ _ (mapped P (λ (e : List ℕ × ViewPolicy). PolicyPut e.0 e.1) _ (cases.policy_put (map_none _ _ no_new))) (λ no_policy.
      one_of P _ _ (mapped P (λ (e : List ℕ × ViewProfile). ProfilePut e.0 e.1) _ (cases.profile_put (map_none _ _ no_new))) (λ no_profile.
      mapped P (λ (e : List ℕ × ViewEndpoint). EndpointPut e.0 e.1) _ (cases.endpoint_put (map_none _ _ no_policy) (map_none _ _ no_profile))))))

  gone_by_cases : NoPut s w → (c : Change) → next_gone s w ≡ Some c → P c
  gone_by_cases none =
      one_of P _ _ (mapped P (λ (e : List ℕ × ViewEndpoint). EndpointGone e.0) _ cases.endpoint_gone) (λ no_endpoint.
      one_of P _ _ (mapped P (λ (e : List ℕ × ViewProfile). ProfileGone e.0) _ (cases.profile_gone none.endpoints (map_none _ _ no_endpoint))) (λ no_profile.
      one_of P _ _ (mapped P (λ (e : List ℕ × ViewPolicy). PolicyGone e.0) _ (cases.policy_gone none.endpoints (map_none _ _ no_endpoint))) (λ no_policy.
      mapped P (λ (e : List ℕ × Members). SetGone e.0) _ (cases.set_gone none (map_none _ _ no_profile) (map_none _ _ no_policy)))))

  pub by_cases : (c : Change) → next_message s w ≡ Some c → P c
  by_cases = one_of P (next_put s w) (next_gone s w) put_by_cases (λ none. gone_by_cases (no_put s w none))
