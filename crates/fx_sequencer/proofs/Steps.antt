-- What the next message's step takes over, by the kinds of messages.
use Rattle.std.proofs.Common.{◌≡◌, ℕ, Bool, true, false, List, Option, Some, None, is_some, option_map, refl, sym, ap, ◌∙◌}
use Rattle.fx_model.specs.declared.view.View.{View}
use Rattle.fx_model.specs.declared.view.ViewPolicy.{ViewPolicy}
use Rattle.fx_model.specs.declared.view.ViewProfile.{ViewProfile}
use Rattle.fx_model.specs.declared.view.ViewEndpoint.{ViewEndpoint}
use Rattle.fx_model.specs.contracts.view.ViewPolicyPartialEq.TheImpl as policy_eq
use Rattle.fx_model.specs.contracts.view.ViewProfilePartialEq.TheImpl as profile_eq
use Rattle.fx_model.specs.contracts.view.ViewEndpointPartialEq.TheImpl as endpoint_eq
use Rattle.fx_model.specs.Messages.{Members, Change, PolicyPut, ProfilePut, EndpointPut, EndpointGone, ProfileGone, PolicyGone, SetGone, set_added, set_changed, first_absent, first_changed, first_other, or_else, next_put, next_gone, step, step_by, step_at}
use Rattle.fx_sequencer.specs.Pending.{same_sets, taken_first}

-- ---- of two kinds the first that has something

module _ {E : Type 0} (f : E → Change) (o : Option E) (rest : Option Change) where
  found_first : is_some o ≡ true → is_some (or_else (option_map f o) rest) ≡ true
  found_first = elim o as (λ p. is_some p ≡ true → is_some (or_else (option_map f p) rest) ≡ true) [ None ↦ λ h. cc | Some e ↦ λ h. refl ]

  later : is_some o ≡ false → or_else (option_map f o) rest ≡ rest
  later = elim o as (λ p. is_some p ≡ false → or_else (option_map f p) rest ≡ rest) [ None ↦ λ h. refl | Some e ↦ λ h. cc ]

  step_first : (s w : View) (after : Option E → View) → ((e : E) → step_at (f e) s w ≡ after (Some e)) → is_some o ≡ true → step_by (or_else (option_map f o) rest) s w ≡ after o
  step_first s w after is = elim o as (λ p. is_some p ≡ true → step_by (or_else (option_map f p) rest) s w ≡ after p) [ None ↦ λ h. cc | Some e ↦ λ h. is e ]

module _ {E : Type 0} (f : E → Change) (o : Option E) where
  found_last : is_some (option_map f o) ≡ is_some o
  found_last = elim o as (λ p. is_some (option_map f p) ≡ is_some p) [ None ↦ refl | Some e ↦ refl ]

  step_last : (s w : View) (after : Option E → View) → after None ≡ s → ((e : E) → step_at (f e) s w ≡ after (Some e)) → step_by (option_map f o) s w ≡ after o
  step_last s w after none is = elim o as (λ p. step_by (option_map f p) s w ≡ after p) [ None ↦ sym none | Some e ↦ is e ]

-- ---- what is put

-- whether something was found, and the view after it was sent
pub record IsPut (s w : View) (found : Bool) (after : View) : Type 0 where
  pub found_is : found ≡ is_some (next_put s w)
  pub sent_is : after ≡ step_by (next_put s w) s w

module _ (s w : View) where
  abbrev new_set : Option (List ℕ × Members)
  new_set = first_absent s.sets w.sets

  abbrev other_set : Option (List ℕ × Members)
  other_set = first_other same_sets s.sets w.sets

  abbrev policy : Option (List ℕ × ViewPolicy)
  policy = first_changed policy_eq.eq-value.it s.policies w.policies

  abbrev profile : Option (List ℕ × ViewProfile)
  profile = first_changed profile_eq.eq-value.it s.profiles w.profiles

  abbrev endpoint : Option (List ℕ × ViewEndpoint)
  endpoint = first_changed endpoint_eq.eq-value.it s.endpoints w.endpoints

  -- each kind, with those behind it
  abbrev from_endpoint : Option Change
  from_endpoint = option_map (λ (e : List ℕ × ViewEndpoint). EndpointPut e.0 e.1) endpoint

  abbrev from_profile : Option Change
  from_profile = or_else (option_map (λ (e : List ℕ × ViewProfile). ProfilePut e.0 e.1) profile) from_endpoint

  abbrev from_policy : Option Change
  from_policy = or_else (option_map (λ (e : List ℕ × ViewPolicy). PolicyPut e.0 e.1) policy) from_profile

  abbrev from_other : Option Change
  from_other = or_else (option_map (set_changed s.sets) other_set) from_policy

  put_kind : {E : Type 0} (f : E → Change) (o : Option E) (rest : Option Change) (after : Option E → View) → next_put s w ≡ or_else (option_map f o) rest → ((e : E) → step_at (f e) s w ≡ after (Some e)) → true ≡ is_some o → IsPut s w true (after o)
  put_kind f o rest after is at there = record {
    found_is = sym (ap is_some is ∙ found_first f o rest (sym there));
    sent_is = sym (ap (λ p. step_by p s w) is ∙ step_first f o rest s w after at (sym there));
  }

  pub put_new : true ≡ is_some new_set → IsPut s w true (record s { sets = taken_first new_set s.sets w.sets })
  put_new = put_kind set_added new_set from_other (λ o. record s { sets = taken_first o s.sets w.sets }) refl (λ e. refl)

  module _ (no_new : false ≡ is_some new_set) where
    to_other : next_put s w ≡ from_other
    to_other = later set_added new_set from_other (sym no_new)

    pub put_other : true ≡ is_some other_set → IsPut s w true (record s { sets = taken_first other_set s.sets w.sets })
    put_other = put_kind (set_changed s.sets) other_set from_policy (λ o. record s { sets = taken_first o s.sets w.sets }) to_other (λ e. refl)

    module _ (no_other : false ≡ is_some other_set) where
      to_policy : next_put s w ≡ from_policy
      to_policy = to_other ∙ later (set_changed s.sets) other_set from_policy (sym no_other)

      pub put_policy : true ≡ is_some policy → IsPut s w true (record s { policies = taken_first policy s.policies w.policies })
      put_policy = put_kind (λ (e : List ℕ × ViewPolicy). PolicyPut e.0 e.1) policy from_profile (λ o. record s { policies = taken_first o s.policies w.policies }) to_policy (λ e. refl)

      module _ (no_policy : false ≡ is_some policy) where
        to_profile : next_put s w ≡ from_profile
        to_profile = to_policy ∙ later (λ (e : List ℕ × ViewPolicy). PolicyPut e.0 e.1) policy from_profile (sym no_policy)

        pub put_profile : true ≡ is_some profile → IsPut s w true (record s { profiles = taken_first profile s.profiles w.profiles })
        put_profile = put_kind (λ (e : List ℕ × ViewProfile). ProfilePut e.0 e.1) profile from_endpoint (λ o. record s { profiles = taken_first o s.profiles w.profiles }) to_profile (λ e. refl)

        pub put_endpoint : false ≡ is_some profile → (found : Bool) → found ≡ is_some endpoint → IsPut s w found (record s { endpoints = taken_first endpoint s.endpoints w.endpoints })
        put_endpoint no_profile found there =
            let is = to_profile ∙ later (λ (e : List ℕ × ViewProfile). ProfilePut e.0 e.1) profile from_endpoint (sym no_profile) in
            record {
              found_is = there ∙ sym (ap is_some is ∙ found_last (λ (e : List ℕ × ViewEndpoint). EndpointPut e.0 e.1) endpoint);
              sent_is = sym (ap (λ p. step_by p s w) is ∙ step_last (λ (e : List ℕ × ViewEndpoint). EndpointPut e.0 e.1) endpoint s w (λ o. record s { endpoints = taken_first o s.endpoints w.endpoints }) refl (λ e. refl));
            }

-- ---- what is gone

-- the view after it was sent
pub record IsGone (s w after : View) : Type 0 where
  pub sent_is : after ≡ step_by (next_gone s w) s w

module _ (s w : View) where
  abbrev old_endpoint : Option (List ℕ × ViewEndpoint)
  old_endpoint = first_absent w.endpoints s.endpoints

  abbrev old_profile : Option (List ℕ × ViewProfile)
  old_profile = first_absent w.profiles s.profiles

  abbrev old_policy : Option (List ℕ × ViewPolicy)
  old_policy = first_absent w.policies s.policies

  abbrev old_set : Option (List ℕ × Members)
  old_set = first_absent w.sets s.sets

  abbrev to_set : Option Change
  to_set = option_map (λ (e : List ℕ × Members). SetGone e.0) old_set

  abbrev to_policy_gone : Option Change
  to_policy_gone = or_else (option_map (λ (e : List ℕ × ViewPolicy). PolicyGone e.0) old_policy) to_set

  abbrev to_profile_gone : Option Change
  to_profile_gone = or_else (option_map (λ (e : List ℕ × ViewProfile). ProfileGone e.0) old_profile) to_policy_gone

  gone_kind : {E : Type 0} (f : E → Change) (o : Option E) (rest : Option Change) (after : Option E → View) → next_gone s w ≡ or_else (option_map f o) rest → ((e : E) → step_at (f e) s w ≡ after (Some e)) → true ≡ is_some o → IsGone s w (after o)
  gone_kind f o rest after is at there = record { sent_is = sym (ap (λ p. step_by p s w) is ∙ step_first f o rest s w after at (sym there)) }

  pub endpoint_gone : true ≡ is_some old_endpoint → IsGone s w (record s { endpoints = taken_first old_endpoint s.endpoints w.endpoints })
  endpoint_gone = gone_kind (λ (e : List ℕ × ViewEndpoint). EndpointGone e.0) old_endpoint to_profile_gone (λ o. record s { endpoints = taken_first o s.endpoints w.endpoints }) refl (λ e. refl)

  module _ (no_endpoint : false ≡ is_some old_endpoint) where
    from_profile_gone : next_gone s w ≡ to_profile_gone
    from_profile_gone = later (λ (e : List ℕ × ViewEndpoint). EndpointGone e.0) old_endpoint to_profile_gone (sym no_endpoint)

    pub profile_gone : true ≡ is_some old_profile → IsGone s w (record s { profiles = taken_first old_profile s.profiles w.profiles })
    profile_gone = gone_kind (λ (e : List ℕ × ViewProfile). ProfileGone e.0) old_profile to_policy_gone (λ o. record s { profiles = taken_first o s.profiles w.profiles }) from_profile_gone (λ e. refl)

    module _ (no_profile : false ≡ is_some old_profile) where
      from_policy_gone : next_gone s w ≡ to_policy_gone
      from_policy_gone = from_profile_gone ∙ later (λ (e : List ℕ × ViewProfile). ProfileGone e.0) old_profile to_policy_gone (sym no_profile)

      pub policy_gone : true ≡ is_some old_policy → IsGone s w (record s { policies = taken_first old_policy s.policies w.policies })
      policy_gone = gone_kind (λ (e : List ℕ × ViewPolicy). PolicyGone e.0) old_policy to_set (λ o. record s { policies = taken_first o s.policies w.policies }) from_policy_gone (λ e. refl)

      pub set_gone : false ≡ is_some old_policy → IsGone s w (record s { sets = taken_first old_set s.sets w.sets })
      set_gone no_policy =
          let is = from_policy_gone ∙ later (λ (e : List ℕ × ViewPolicy). PolicyGone e.0) old_policy to_set (sym no_policy) in
          record { sent_is = sym (ap (λ p. step_by p s w) is ∙ step_last (λ (e : List ℕ × Members). SetGone e.0) old_set s w (λ o. record s { sets = taken_first o s.sets w.sets }) refl (λ e. refl)) }

-- ---- both

either_step : (p g : Option Change) (s w : View) → true ≡ is_some p → step_by p s w ≡ step_by (or_else p g) s w
either_step None g s w there = cc
either_step (Some c) g s w there = refl

or_step : (p g : Option Change) (s w : View) → false ≡ is_some p → (step_by p s w ≡ s) × (step_by g s w ≡ step_by (or_else p g) s w)
or_step None g s w none = (refl, refl)
or_step (Some c) g s w none = cc

pub put_step : (s w after : View) → IsPut s w true after → after ≡ step s w
put_step s w after is = is.sent_is ∙ either_step (next_put s w) (next_gone s w) s w is.found_is

-- where nothing is put the view stays, and what is gone is taken over
pub gone_step : (s w between after : View) → IsPut s w false between → IsGone between w after → after ≡ step s w
gone_step s w between after none is =
    let both = or_step (next_put s w) (next_gone s w) s w none.found_is in
    is.sent_is ∙ ap (λ v. step_by (next_gone v w) v w) (none.sent_is ∙ both.0) ∙ both.1
