-- What each kind of message makes of a view.
use Rattle.std.proofs.Common.{◌≡◌, ℕ, List, Option, Some, None, IsSome, sym, ap, ◌∙◌}
use Rattle.std.specs.FinMap as maps
use Rattle.fx_base.specs.Extended.{put_or_removed}
use Rattle.fx_base.specs.Set as set
use Rattle.fx_model.specs.declared.member.Member.{Member}
use Rattle.fx_model.specs.declared.view.View.{View}
use Rattle.fx_model.specs.declared.view.ViewEndpoint.{ViewEndpoint}
use Rattle.fx_model.specs.declared.view.ViewPolicy.{ViewPolicy}
use Rattle.fx_model.specs.declared.view.ViewProfile.{ViewProfile}
use Rattle.fx_model.specs.Messages.{Named, Members, members_of, Change, SetAdd, SetDelta, SetGone, PolicyPut, PolicyGone, ProfilePut, ProfileGone, EndpointPut, EndpointGone, next_message}
use Rattle.fx_model.specs.Tables.{Sets}
use Rattle.fx_driver.specs.Members.{with_members, without_members}
use Rattle.fx_driver.proofs.SetMembers.{items_whole, changed_whole}
use Rattle.fx_driver.proofs.Steps.{stepped}
use Rattle.fx_driver.proofs.Told.{told}
use Rattle.felix_host.specs.Taking.{IsTold, Takes}

-- ---- sets

module _ (v : View) (now : Sets) (k : List ℕ) where
  abbrev with_sets : View
  with_sets = record v { sets = now }

  sets_at : (w : View) (c : Change) (o : Option Members) → next_message v w ≡ Some c → now ≡ put_or_removed v.sets k o → maps.get w.sets k ≡ o → with_sets ≡ record v { sets = put_or_removed v.sets k (maps.get w.sets k) }
  sets_at w c o is made at = ap (λ (m : Sets). record v { sets = m }) (made ∙ ap (put_or_removed v.sets k) (sym at))

  pub set_put : (ms : List Member) → now ≡ maps.insert v.sets k (with_members set.empty ms) → Takes v with_sets (SetAdd k ms)
  set_put ms made w is =
      let t = told v w (SetAdd k ms) is in
      let whole : with_members set.empty ms ≡ t.members = ap (with_members set.empty) t.listed ∙ items_whole t.members in
      sets_at w (SetAdd k ms) (Some t.members) is (made ∙ ap (maps.insert v.sets k) whole) t.wanted ∙ sym (stepped v w (SetAdd k ms) is)

  pub set_altered : (adds removes : List Member) → now ≡ maps.insert v.sets k (without_members (with_members (members_of (maps.get v.sets k)) adds) removes) → Takes v with_sets (SetDelta k adds removes)
  set_altered adds removes made w is =
      let t = told v w (SetDelta k adds removes) is in
      let before : Members = members_of (maps.get v.sets k) in
      let whole : without_members (with_members before adds) removes ≡ t.members =
      ap (λ xs. without_members (with_members before xs) removes) t.added
      ∙ ap (λ xs. without_members (with_members before (set.items_minus t.members before)) xs) t.removed
      ∙ changed_whole before t.members in
      sets_at w (SetDelta k adds removes) (Some t.members) is (made ∙ ap (maps.insert v.sets k) whole) t.wanted ∙ sym (stepped v w (SetDelta k adds removes) is)

  pub set_dropped : now ≡ maps.remove v.sets k → Takes v with_sets (SetGone k)
  set_dropped made w is = sets_at w (SetGone k) None is made (told v w (SetGone k) is).gone ∙ sym (stepped v w (SetGone k) is)

-- a set of which a change is told is there
pub set_there : (v : View) (k : List ℕ) (adds removes : List Member) → IsTold v (SetDelta k adds removes) → IsSome (maps.get v.sets k)
set_there v k adds removes next = (told v next.0 (SetDelta k adds removes) next.1).there

-- ---- policies

module _ (v : View) (now : Named ViewPolicy) (k : List ℕ) where
  pub policy_put : (p : ViewPolicy) → now ≡ maps.insert v.policies k p → Takes v (record v { policies = now }) (PolicyPut k p)
  policy_put p made w is =
      ap (λ (m : Named ViewPolicy). record v { policies = m }) (made ∙ ap (put_or_removed v.policies k) (sym (told v w (PolicyPut k p) is).wanted))
      ∙ sym (stepped v w (PolicyPut k p) is)

  pub policy_dropped : now ≡ maps.remove v.policies k → Takes v (record v { policies = now }) (PolicyGone k)
  policy_dropped made w is =
      ap (λ (m : Named ViewPolicy). record v { policies = m }) (made ∙ ap (put_or_removed v.policies k) (sym (told v w (PolicyGone k) is).gone))
      ∙ sym (stepped v w (PolicyGone k) is)

-- ---- profiles

module _ (v : View) (now : Named ViewProfile) (k : List ℕ) where
  pub profile_put : (p : ViewProfile) → now ≡ maps.insert v.profiles k p → Takes v (record v { profiles = now }) (ProfilePut k p)
  profile_put p made w is =
      ap (λ (m : Named ViewProfile). record v { profiles = m }) (made ∙ ap (put_or_removed v.profiles k) (sym (told v w (ProfilePut k p) is).wanted))
      ∙ sym (stepped v w (ProfilePut k p) is)

  pub profile_dropped : now ≡ maps.remove v.profiles k → Takes v (record v { profiles = now }) (ProfileGone k)
  profile_dropped made w is =
      ap (λ (m : Named ViewProfile). record v { profiles = m }) (made ∙ ap (put_or_removed v.profiles k) (sym (told v w (ProfileGone k) is).gone))
      ∙ sym (stepped v w (ProfileGone k) is)

-- ---- endpoints

module _ (v : View) (now : Named ViewEndpoint) (k : List ℕ) where
  pub endpoint_put : (e : ViewEndpoint) → now ≡ maps.insert v.endpoints k e → Takes v (record v { endpoints = now }) (EndpointPut k e)
  endpoint_put e made w is =
      ap (λ (m : Named ViewEndpoint). record v { endpoints = m }) (made ∙ ap (put_or_removed v.endpoints k) (sym (told v w (EndpointPut k e) is).wanted))
      ∙ sym (stepped v w (EndpointPut k e) is)

  pub endpoint_dropped : now ≡ maps.remove v.endpoints k → Takes v (record v { endpoints = now }) (EndpointGone k)
  endpoint_dropped made w is =
      ap (λ (m : Named ViewEndpoint). record v { endpoints = m }) (made ∙ ap (put_or_removed v.endpoints k) (sym (told v w (EndpointGone k) is).gone))
      ∙ sym (stepped v w (EndpointGone k) is)
