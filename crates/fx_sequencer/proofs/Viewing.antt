-- The two views that the entries make, as each call looks them up and changes them.
use Rattle.std.proofs.Common.{◌≡◌, true, false, Option, Some, None, ap, ◌∙◌}
use Rattle.fx_model.specs.declared.view.View.{View}
use Rattle.fx_model.specs.declared.view.ViewPolicy.{ViewPolicy}
use Rattle.fx_model.specs.declared.view.ViewProfile.{ViewProfile}
use Rattle.fx_model.specs.declared.view.ViewEndpoint.{ViewEndpoint}
use Rattle.fx_model.specs.Messages.{Named, Members, Change, or_else, next_put, next_gone, next_message, step, step_by}
use Rattle.fx_sequencer.specs.Sent.{sent_view, wanted_view, views_of}
use Rattle.fx_sequencer.specs.TwoSides.{TwoSides}
use Rattle.fx_sequencer.specs.declared.entries.Entries.{Entries}
use Rattle.fx_sequencer.specs.declared.sides.Sides.{Sides}
use Rattle.fx_sequencer.proofs.Sending.{IsSent, IsGoneFrom}
use Rattle.fx_sequencer.proofs.Steps.{put_step, gone_step}

module _ (e : Entries) {v : Sides} (is : views_of e ≡ v) where
  -- ---- the next message

  pub told_put : {c : Change} → Some c ≡ next_put (sent_view e) (wanted_view e) → Some c ≡ next_message v.sent v.wanted
  told_put put =
      ap (λ o. or_else o (next_gone (sent_view e) (wanted_view e))) put ∙ ap (λ (u : Sides). next_message u.sent u.wanted) is

  pub told_gone : {o : Option Change} → None ≡ next_put (sent_view e) (wanted_view e) → o ≡ next_gone (sent_view e) (wanted_view e) → o ≡ next_message v.sent v.wanted
  told_gone none gone =
      gone ∙ ap (λ p. or_else p (next_gone (sent_view e) (wanted_view e))) none ∙ ap (λ (u : Sides). next_message u.sent u.wanted) is

  -- ---- what was sent

  after_step : (after : Entries) → sent_view after ≡ step (sent_view e) (wanted_view e) → wanted_view after ≡ wanted_view e → views_of after ≡ record v { sent = step v.sent v.wanted }
  after_step after stepped same =
      let sent = stepped ∙ ap (λ (u : Sides). step u.sent u.wanted) is in
      let wanted = same ∙ ap (λ (u : Sides). u.wanted) is in
      λ i. record { sent = sent i; wanted = wanted i }

  pub put_sent : (after : Entries) → IsSent e after true → views_of after ≡ record v { sent = step v.sent v.wanted }
  put_sent after was =
      after_step after (put_step (sent_view e) (wanted_view e) (sent_view after) (record { found_is = was.found_is; sent_is = was.sent_is })) was.wanted_is

  pub gone_sent : (between after : Entries) → IsSent e between false → IsGoneFrom between after → views_of after ≡ record v { sent = step v.sent v.wanted }
  gone_sent between after none was =
      after_step after
      (gone_step (sent_view e) (wanted_view e) (sent_view between) (sent_view after) (record { found_is = none.found_is; sent_is = none.sent_is })
      (record { sent_is = was.sent_is ∙ ap (λ (w : View). step_by (next_gone (sent_view between) w) (sent_view between) w) none.wanted_is }))
      (was.wanted_is ∙ none.wanted_is)

  -- ---- one map of the wanted view is changed

  pub sets_now : (f : Named Members → Named Members) {m : TwoSides (Named Members)} → m ≡ record e.sets { wanted = f e.sets.wanted } → views_of (record e { sets = m }) ≡ record v { wanted = record v.wanted { sets = f v.wanted.sets } }
  sets_now f at = (λ i. views_of (record e { sets = at i })) ∙ (λ i. record (is i) { wanted = record (is i).wanted { sets = f (is i).wanted.sets } })

  pub policies_now : (f : Named ViewPolicy → Named ViewPolicy) {m : TwoSides (Named ViewPolicy)} → m ≡ record e.policies { wanted = f e.policies.wanted } → views_of (record e { policies = m }) ≡ record v { wanted = record v.wanted { policies = f v.wanted.policies } }
  policies_now f at = (λ i. views_of (record e { policies = at i })) ∙ (λ i. record (is i) { wanted = record (is i).wanted { policies = f (is i).wanted.policies } })

  pub profiles_now : (f : Named ViewProfile → Named ViewProfile) {m : TwoSides (Named ViewProfile)} → m ≡ record e.profiles { wanted = f e.profiles.wanted } → views_of (record e { profiles = m }) ≡ record v { wanted = record v.wanted { profiles = f v.wanted.profiles } }
  profiles_now f at = (λ i. views_of (record e { profiles = at i })) ∙ (λ i. record (is i) { wanted = record (is i).wanted { profiles = f (is i).wanted.profiles } })

  pub endpoints_now : (f : Named ViewEndpoint → Named ViewEndpoint) {m : TwoSides (Named ViewEndpoint)} → m ≡ record e.endpoints { wanted = f e.endpoints.wanted } → views_of (record e { endpoints = m }) ≡ record v { wanted = record v.wanted { endpoints = f v.wanted.endpoints } }
  endpoints_now f at = (λ i. views_of (record e { endpoints = at i })) ∙ (λ i. record (is i) { wanted = record (is i).wanted { endpoints = f (is i).wanted.endpoints } })
