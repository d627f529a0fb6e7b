-- Where a message changes a view.
use Rattle.std.specs.Prelude.{◌≡◌, refl}
use Rattle.fx_base.specs.Extended.{taken_from}
use Rattle.fx_wanted.specs.declared.pending_key.PendingKey.{PendingKey}
use Rattle.fx_wanted.specs.declared.pending_key.PendingKey.TheVariants as pending_key
use Rattle.fx_model.specs.declared.view.View.{View}
use Rattle.fx_model.specs.Messages.{Change, SetAdd, SetDelta, PolicyPut, ProfilePut, EndpointPut, EndpointGone, ProfileGone, PolicyGone, SetGone, step_at}

abbrev pub pending_key_of : Change → PendingKey
pending_key_of (SetAdd k ms) = pending_key.Set k
pending_key_of (SetDelta k adds removes) = pending_key.Set k
pending_key_of (PolicyPut k p) = pending_key.Policy k
pending_key_of (ProfilePut k p) = pending_key.Profile k
pending_key_of (EndpointPut k e) = pending_key.Endpoint k
pending_key_of (EndpointGone k) = pending_key.Endpoint k
pending_key_of (ProfileGone k) = pending_key.Profile k
pending_key_of (PolicyGone k) = pending_key.Policy k
pending_key_of (SetGone k) = pending_key.Set k

-- a view, but at this key as another one is there
abbrev pub taken_at : PendingKey → View → View → View
taken_at (pending_key.Set k) sent wanted = record sent { sets = taken_from sent.sets wanted.sets k }
taken_at (pending_key.Policy k) sent wanted = record sent { policies = taken_from sent.policies wanted.policies k }
taken_at (pending_key.Profile k) sent wanted = record sent { profiles = taken_from sent.profiles wanted.profiles k }
taken_at (pending_key.Endpoint k) sent wanted = record sent { endpoints = taken_from sent.endpoints wanted.endpoints k }

-- a message's step is made at its key
pub step_at-key : (c : Change) (sent wanted : View) → step_at c sent wanted ≡ taken_at (pending_key_of c) sent wanted
step_at-key (SetAdd k ms) sent wanted = refl
step_at-key (SetDelta k adds removes) sent wanted = refl
step_at-key (PolicyPut k p) sent wanted = refl
step_at-key (ProfilePut k p) sent wanted = refl
step_at-key (EndpointPut k e) sent wanted = refl
step_at-key (EndpointGone k) sent wanted = refl
step_at-key (ProfileGone k) sent wanted = refl
step_at-key (PolicyGone k) sent wanted = refl
step_at-key (SetGone k) sent wanted = refl
