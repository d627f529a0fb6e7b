-- The entries once the first message was sent.
use Rattle.std.proofs.Common.{◌≡◌, Bool, true, false, List, ℕ, Option, Some, None, is_some, ◌∙◌, subst}
use Rattle.fx_model.specs.declared.view.ViewPolicy.{ViewPolicy}
use Rattle.fx_model.specs.declared.view.ViewProfile.{ViewProfile}
use Rattle.fx_model.specs.declared.view.ViewEndpoint.{ViewEndpoint}
use Rattle.fx_model.specs.contracts.view.ViewPolicyPartialEq.TheImpl as policy_eq
use Rattle.fx_model.specs.contracts.view.ViewProfilePartialEq.TheImpl as profile_eq
use Rattle.fx_model.specs.contracts.view.ViewEndpointPartialEq.TheImpl as endpoint_eq
use Rattle.fx_model.specs.Messages.{Named, Members, first_absent, first_changed, first_other, next_put, next_gone, step_by}
use Rattle.fx_sequencer.specs.Pending.{same_sets, taken_first}
use Rattle.fx_sequencer.specs.Sent.{sent_view, wanted_view}
use Rattle.fx_sequencer.specs.TwoSides.{TwoSides}
use Rattle.fx_sequencer.specs.declared.entries.Entries.{Entries}
use Rattle.fx_sequencer.proofs.Steps.{put_new, put_other, put_policy, put_profile, put_endpoint, endpoint_gone, profile_gone, policy_gone, set_gone}

-- ---- one map

-- the sent side took over the first that was found, if there was one
abbrev pub Took : {X : Type 0} → (TwoSides (Named X) → Option (List ℕ × X)) → TwoSides (Named X) → TwoSides (Named X) → Bool → Type 0
Took first was now found = (found ≡ is_some (first was)) × (now ≡ record was { sent = taken_first (first was) was.sent was.wanted })

nothing : {X : Type 0} (o : Option (List ℕ × X)) {was now : TwoSides (Named X)} → false ≡ is_some o → now ≡ record was { sent = taken_first o was.sent was.wanted } → now ≡ was
nothing None none is = is
nothing (Some e) none is = cc

-- where nothing was found nothing changed
took_none : {X : Type 0} (first : TwoSides (Named X) → Option (List ℕ × X)) {was now : TwoSides (Named X)} → Took first was now false → now ≡ was
took_none first {was} took = nothing (first was) took.0 took.1

-- ---- what is first

abbrev pub new_in : TwoSides (Named Members) → Option (List ℕ × Members)
new_in m = first_absent m.sent m.wanted

abbrev pub other_in : TwoSides (Named Members) → Option (List ℕ × Members)
other_in m = first_other same_sets m.sent m.wanted

abbrev pub policy_in : TwoSides (Named ViewPolicy) → Option (List ℕ × ViewPolicy)
policy_in m = first_changed policy_eq.eq-value.it m.sent m.wanted

abbrev pub profile_in : TwoSides (Named ViewProfile) → Option (List ℕ × ViewProfile)
profile_in m = first_changed profile_eq.eq-value.it m.sent m.wanted

abbrev pub endpoint_in : TwoSides (Named ViewEndpoint) → Option (List ℕ × ViewEndpoint)
endpoint_in m = first_changed endpoint_eq.eq-value.it m.sent m.wanted

abbrev pub gone_in : {X : Type 0} → TwoSides (Named X) → Option (List ℕ × X)
gone_in m = first_absent m.wanted m.sent

-- ---- what is put

pub record IsSent (e after : Entries) (found : Bool) : Type 0 where
  pub found_is : found ≡ is_some (next_put (sent_view e) (wanted_view e))
  pub sent_is : sent_view after ≡ step_by (next_put (sent_view e) (wanted_view e)) (sent_view e) (wanted_view e)
  pub wanted_is : wanted_view after ≡ wanted_view e

module _ (e : Entries) where
  pub sent_new : {sets : TwoSides (Named Members)} → Took new_in e.sets sets true → IsSent e (record e { sets = sets }) true
  sent_new {sets} took =
      let put = put_new (sent_view e) (wanted_view e) took.0 in
      record {
        found_is = put.found_is;
        sent_is = (λ i. sent_view (record e { sets = took.1 i })) ∙ put.sent_is;
        wanted_is = λ i. wanted_view (record e { sets = took.1 i });
      }

  module _ {sets1 : TwoSides (Named Members)} (took1 : Took new_in e.sets sets1 false) where
    pub sent_other : {sets : TwoSides (Named Members)} → Took other_in sets1 sets true → IsSent e (record e { sets = sets }) true
    sent_other {sets} took =
        let now : Took other_in e.sets sets true = subst (λ (m : TwoSides (Named Members)). Took other_in m sets true) (took_none new_in took1) took in
        let put = put_other (sent_view e) (wanted_view e) took1.0 now.0 in
        record {
          found_is = put.found_is;
          sent_is = (λ i. sent_view (record e { sets = now.1 i })) ∙ put.sent_is;
          wanted_is = λ i. wanted_view (record e { sets = now.1 i });
        }

    module _ {sets : TwoSides (Named Members)} (took2 : Took other_in sets1 sets false) where
      no_other : Took other_in e.sets sets false
      no_other = subst (λ (m : TwoSides (Named Members)). Took other_in m sets false) (took_none new_in took1) took2

      same_sets_now : sets ≡ e.sets
      same_sets_now = took_none other_in no_other

      pub sent_policy : {policies : TwoSides (Named ViewPolicy)} → Took policy_in e.policies policies true → IsSent e (record e { sets = sets; policies = policies }) true
      sent_policy {policies} took =
          let put = put_policy (sent_view e) (wanted_view e) took1.0 no_other.0 took.0 in
          record {
            found_is = put.found_is;
            sent_is = (λ i. sent_view (record e { sets = same_sets_now i; policies = took.1 i })) ∙ put.sent_is;
            wanted_is = λ i. wanted_view (record e { sets = same_sets_now i; policies = took.1 i });
          }

      module _ {policies : TwoSides (Named ViewPolicy)} (took3 : Took policy_in e.policies policies false) where
        same_policies : policies ≡ e.policies
        same_policies = took_none policy_in took3

        pub sent_profile : {profiles : TwoSides (Named ViewProfile)} → Took profile_in e.profiles profiles true → IsSent e (record e { sets = sets; policies = policies; profiles = profiles }) true
        sent_profile {profiles} took =
            let put = put_profile (sent_view e) (wanted_view e) took1.0 no_other.0 took3.0 took.0 in
            record {
              found_is = put.found_is;
              sent_is = (λ i. sent_view (record e { sets = same_sets_now i; policies = same_policies i; profiles = took.1 i })) ∙ put.sent_is;
              wanted_is = λ i. wanted_view (record e { sets = same_sets_now i; policies = same_policies i; profiles = took.1 i });
            }

        pub sent_endpoint : {profiles : TwoSides (Named ViewProfile)} → Took profile_in e.profiles profiles false → {endpoints : TwoSides (Named ViewEndpoint)} {found : Bool} → Took endpoint_in e.endpoints endpoints found
            → IsSent e (record { sets = sets; policies = policies; profiles = profiles; endpoints = endpoints }) found
        sent_endpoint {profiles} took4 {endpoints} {found} took =
            let put = put_endpoint (sent_view e) (wanted_view e) took1.0 no_other.0 took3.0 took4.0 found took.0 in
            let same_profiles = took_none profile_in took4 in
            record {
              found_is = put.found_is;
              sent_is = (λ i. sent_view (record { sets = same_sets_now i; policies = same_policies i; profiles = same_profiles i; endpoints = took.1 i })) ∙ put.sent_is;
              wanted_is = λ i. wanted_view (record { sets = same_sets_now i; policies = same_policies i; profiles = same_profiles i; endpoints = took.1 i });
            }

-- ---- what is gone

pub record IsGoneFrom (e after : Entries) : Type 0 where
  pub sent_is : sent_view after ≡ step_by (next_gone (sent_view e) (wanted_view e)) (sent_view e) (wanted_view e)
  pub wanted_is : wanted_view after ≡ wanted_view e

module _ (e : Entries) where
  pub gone_endpoint : {endpoints : TwoSides (Named ViewEndpoint)} → Took gone_in e.endpoints endpoints true → IsGoneFrom e (record e { endpoints = endpoints })
  gone_endpoint {endpoints} took = record {
    sent_is = (λ i. sent_view (record e { endpoints = took.1 i })) ∙ (endpoint_gone (sent_view e) (wanted_view e) took.0).sent_is;
    wanted_is = λ i. wanted_view (record e { endpoints = took.1 i });
  }

  module _ {endpoints : TwoSides (Named ViewEndpoint)} (took1 : Took gone_in e.endpoints endpoints false) where
    same_endpoints : endpoints ≡ e.endpoints
    same_endpoints = took_none gone_in took1

    pub gone_profile : {profiles : TwoSides (Named ViewProfile)} → Took gone_in e.profiles profiles true → IsGoneFrom e (record e { endpoints = endpoints; profiles = profiles })
    gone_profile {profiles} took = record {
      sent_is = (λ i. sent_view (record e { endpoints = same_endpoints i; profiles = took.1 i })) ∙ (profile_gone (sent_view e) (wanted_view e) took1.0 took.0).sent_is;
      wanted_is = λ i. wanted_view (record e { endpoints = same_endpoints i; profiles = took.1 i });
    }

    module _ {profiles : TwoSides (Named ViewProfile)} (took2 : Took gone_in e.profiles profiles false) where
      same_profiles : profiles ≡ e.profiles
      same_profiles = took_none gone_in took2

      pub gone_policy : {policies : TwoSides (Named ViewPolicy)} → Took gone_in e.policies policies true → IsGoneFrom e (record e { endpoints = endpoints; profiles = profiles; policies = policies })
      gone_policy {policies} took = record {
        sent_is = (λ i. sent_view (record e { endpoints = same_endpoints i; profiles = same_profiles i; policies = took.1 i })) ∙ (policy_gone (sent_view e) (wanted_view e) took1.0 took2.0 took.0).sent_is;
        wanted_is = λ i. wanted_view (record e { endpoints = same_endpoints i; profiles = same_profiles i; policies = took.1 i });
      }

      pub gone_set : {policies : TwoSides (Named ViewPolicy)} → Took gone_in e.policies policies false → {sets : TwoSides (Named Members)} {found : Bool} → Took gone_in e.sets sets found
          → IsGoneFrom e (record { sets = sets; policies = policies; profiles = profiles; endpoints = endpoints })
      gone_set {policies} took3 {sets} took =
          let same_policies = took_none gone_in took3 in
          record {
            sent_is = (λ i. sent_view (record { sets = took.1 i; policies = same_policies i; profiles = same_profiles i; endpoints = same_endpoints i })) ∙ (set_gone (sent_view e) (wanted_view e) took1.0 took2.0 took3.0).sent_is;
            wanted_is = λ i. wanted_view (record { sets = took.1 i; policies = same_policies i; profiles = same_profiles i; endpoints = same_endpoints i });
          }
