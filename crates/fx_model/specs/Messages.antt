-- The messages that lead from one view to another, one at a time. From Felix's event sequencer: what is named comes before
-- what names it, and goes after it.
use Rattle.std.specs.Prelude.{ℕ, zero, suc, ◌+◌, List, [], ◌∷◌, Bool, not, ◌&&◌, Option, Some, None, find, count_by, option_map}
use Rattle.std.specs.Option.{option_eq}
use Rattle.std.specs.Ordering.{nat_cmp}
use Rattle.std.specs.Cmp.Lexicographic.{slice_cmp}
use Rattle.std.specs.FinMap as maps
use Rattle.fx_base.specs.Extended.{taken_from}
use Rattle.fx_base.specs.Set as set
use Rattle.fx_model.specs.declared.member.Member.{Member}
use Rattle.fx_model.specs.contracts.member.MemberOrd.TheImpl as member_cmp
use Rattle.fx_model.specs.declared.view.View.{View}
use Rattle.fx_model.specs.declared.view.ViewPolicy.{ViewPolicy}
use Rattle.fx_model.specs.contracts.view.ViewPolicyPartialEq.TheImpl as policy_eq
use Rattle.fx_model.specs.declared.view.ViewProfile.{ViewProfile}
use Rattle.fx_model.specs.contracts.view.ViewProfilePartialEq.TheImpl as profile_eq
use Rattle.fx_model.specs.declared.view.ViewEndpoint.{ViewEndpoint}
use Rattle.fx_model.specs.contracts.view.ViewEndpointPartialEq.TheImpl as endpoint_eq
use Rattle.fx_model.specs.contracts.member.MemberSetPartialEq.TheImpl as members_eq

abbrev pub Members : Type 0
Members = set.Set member_cmp.cmp-value.it

-- a message, as what it tells
pub data Change : Type 0 where
  SetAdd : List ℕ → List Member → Change
  SetDelta : List ℕ → List Member → List Member → Change
  PolicyPut : List ℕ → ViewPolicy → Change
  ProfilePut : List ℕ → ViewProfile → Change
  EndpointPut : List ℕ → ViewEndpoint → Change
  EndpointGone ProfileGone PolicyGone SetGone : List ℕ → Change

-- ---- where two maps differ

abbrev pub Named : Type 0 → Type 0
Named X = maps.FinMap (slice_cmp nat_cmp) X

-- an entry that the map has not at all
abbrev pub is_absent : {X : Type 0} → Named X → List ℕ × X → Bool
is_absent m e = not (maps.contains_key m e.0)

-- an entry that the map has not, or with another value
abbrev pub is_changed : {X : Type 0} → (X → X → Bool) → Named X → List ℕ × X → Bool
is_changed eq m e = not (option_eq eq (maps.get m e.0) (Some e.1))

-- an entry that the map has with another value
abbrev pub is_other : {X : Type 0} → (X → X → Bool) → Named X → List ℕ × X → Bool
is_other eq m e = maps.contains_key m e.0 && is_changed eq m e

-- the first entries by their keys, of those that are new, or other, or gone
abbrev pub first_absent : {X : Type 0} → Named X → Named X → Option (List ℕ × X)
first_absent m n = find (is_absent m) (maps.entries n)

abbrev pub first_changed : {X : Type 0} → (X → X → Bool) → Named X → Named X → Option (List ℕ × X)
first_changed eq m n = find (is_changed eq m) (maps.entries n)

abbrev pub first_other : {X : Type 0} → (X → X → Bool) → Named X → Named X → Option (List ℕ × X)
first_other eq m n = find (is_other eq m) (maps.entries n)

-- ---- the next message

abbrev pub or_else : {A : Type 0} → Option A → Option A → Option A
or_else (Some x) y = Some x
or_else None y = y

-- the members of a set, or none where it is not there
abbrev pub members_of : Option Members → Members
members_of None = set.empty
members_of (Some s) = s

abbrev pub set_added : List ℕ × Members → Change
set_added e = SetAdd e.0 (set.items e.1)

abbrev pub set_changed : Named Members → List ℕ × Members → Change
set_changed sent e =
    let before = members_of (maps.get sent e.0) in SetDelta e.0 (set.items_minus e.1 before) (set.items_minus before e.1)

-- the first of these that there is: sets that are new and sets with other members; policies, profiles and endpoints that
-- are new or other
abbrev pub next_put : View → View → Option Change
next_put sent wanted =
    or_else (option_map set_added (first_absent sent.sets wanted.sets))
    (or_else (option_map (set_changed sent.sets) (first_other members_eq.eq-value.it sent.sets wanted.sets))
    (or_else (option_map (λ e. PolicyPut e.0 e.1) (first_changed policy_eq.eq-value.it sent.policies wanted.policies))
    (or_else (option_map (λ e. ProfilePut e.0 e.1) (first_changed profile_eq.eq-value.it sent.profiles wanted.profiles))
    (option_map (λ e. EndpointPut e.0 e.1) (first_changed endpoint_eq.eq-value.it sent.endpoints wanted.endpoints)))))

-- then the first of endpoints, profiles, policies and sets that are gone
abbrev pub next_gone : View → View → Option Change
next_gone sent wanted =
    or_else (option_map (λ e. EndpointGone e.0) (first_absent wanted.endpoints sent.endpoints))
    (or_else (option_map (λ e. ProfileGone e.0) (first_absent wanted.profiles sent.profiles))
    (or_else (option_map (λ e. PolicyGone e.0) (first_absent wanted.policies sent.policies))
    (option_map (λ e. SetGone e.0) (first_absent wanted.sets sent.sets))))

abbrev pub next_message : View → View → Option Change
next_message sent wanted = or_else (next_put sent wanted) (next_gone sent wanted)

-- ---- one message after another

-- the sent view, with what the message tells of as it is wanted
abbrev pub step_at : Change → View → View → View
step_at (SetAdd k ms) sent wanted = record sent { sets = taken_from sent.sets wanted.sets k }
step_at (SetDelta k adds removes) sent wanted = record sent { sets = taken_from sent.sets wanted.sets k }
step_at (PolicyPut k p) sent wanted = record sent { policies = taken_from sent.policies wanted.policies k }
step_at (ProfilePut k p) sent wanted = record sent { profiles = taken_from sent.profiles wanted.profiles k }
step_at (EndpointPut k e) sent wanted = record sent { endpoints = taken_from sent.endpoints wanted.endpoints k }
step_at (EndpointGone k) sent wanted = record sent { endpoints = taken_from sent.endpoints wanted.endpoints k }
step_at (ProfileGone k) sent wanted = record sent { profiles = taken_from sent.profiles wanted.profiles k }
step_at (PolicyGone k) sent wanted = record sent { policies = taken_from sent.policies wanted.policies k }
step_at (SetGone k) sent wanted = record sent { sets = taken_from sent.sets wanted.sets k }

abbrev pub step_by : Option Change → View → View → View
step_by None sent wanted = sent
step_by (Some c) sent wanted = step_at c sent wanted

-- the sent view after the next message
abbrev pub step : View → View → View
step sent wanted = step_by (next_message sent wanted) sent wanted

-- how many keys are not as they are wanted
abbrev pub apart : {X : Type 0} → (X → X → Bool) → Named X → Named X → ℕ
apart eq m n = count_by (is_changed eq m) (maps.entries n) + count_by (is_absent n) (maps.entries m)

abbrev pub differences : View → View → ℕ
differences sent wanted =
    apart members_eq.eq-value.it sent.sets wanted.sets + (apart policy_eq.eq-value.it sent.policies wanted.policies
    + (apart profile_eq.eq-value.it sent.profiles wanted.profiles + apart endpoint_eq.eq-value.it sent.endpoints wanted.endpoints))

-- a message and those that follow it
abbrev pub messages_from : (View → List Change) → Option Change → View → View → List Change
messages_from later None sent wanted = []
messages_from later (Some c) sent wanted = c ∷ later (step_at c sent wanted)

-- so many messages at most, from one view towards another
unfoldable pub messages : ℕ → View → View → List Change
messages zero sent wanted = []
messages (suc n) sent wanted = messages_from (λ after. messages n after wanted) (next_message sent wanted) sent wanted

-- the sent view after all these messages
unfoldable pub sent_after : List Change → View → View → View
sent_after [] sent wanted = sent
sent_after (c ∷ cs) sent wanted = sent_after cs (step_at c sent wanted) wanted

-- the messages of a flush, and the sent view that they end at
pub record Flush : Type 0 where
  pub messages : List Change
  pub ends : View

-- at most this many messages; without a limit one for each difference, since each leaves one fewer
abbrev pub limit_or_all : Option ℕ → View → View → ℕ
limit_or_all None sent wanted = differences sent wanted
limit_or_all (Some limit) sent wanted = limit

abbrev pub flush : Option ℕ → View → View → Flush
flush limit sent wanted =
    let told = messages (limit_or_all limit sent wanted) sent wanted in record { messages = told; ends = sent_after told sent wanted }

-- the sent views after each single message
unfoldable pub sent_views : List Change → View → View → List View
sent_views [] sent wanted = []
sent_views (c ∷ cs) sent wanted = step_at c sent wanted ∷ sent_views cs (step_at c sent wanted) wanted
