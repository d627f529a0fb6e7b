-- What is known of two views where the next message from one towards the other is of a kind.
use Rattle.std.proofs.Common.{◌≡◌, ℕ, Bool, true, false, not, ◌&&◌, List, Option, Some, None, is_some, refl, ap}
use Rattle.std.specs.FinMap as maps
use Rattle.fx_base.specs.Set as set
use Rattle.fx_base.proofs.Found.{found_passes}
use Rattle.fx_model.specs.declared.member.Member.{Member}
use Rattle.fx_model.specs.declared.view.View.{View}
use Rattle.fx_model.specs.declared.view.ViewPolicy.{ViewPolicy}
use Rattle.fx_model.specs.declared.view.ViewProfile.{ViewProfile}
use Rattle.fx_model.specs.declared.view.ViewEndpoint.{ViewEndpoint}
use Rattle.fx_model.specs.contracts.view.ViewPolicyPartialEq.TheImpl as policy_eq
use Rattle.fx_model.specs.contracts.view.ViewProfilePartialEq.TheImpl as profile_eq
use Rattle.fx_model.specs.contracts.view.ViewEndpointPartialEq.TheImpl as endpoint_eq
use Rattle.fx_model.specs.contracts.member.MemberSetPartialEq.TheImpl as members_eq
use Rattle.fx_model.specs.SameViews.{same_policy, same_profile}
use Rattle.fx_model.specs.Messages.{Named, Members, Change, SetAdd, SetDelta, PolicyPut, ProfilePut, EndpointPut, EndpointGone, ProfileGone, PolicyGone, SetGone, is_absent, is_changed, is_other, first_absent, members_of, next_message}
use Rattle.fx_laws.proofs.Apart.{found_there, none_absent, none_changed, same_maps}
use Rattle.fx_laws.proofs.NextCases.{Cases, by_cases}

-- each key of n is one of m
abbrev pub KeysAreThere : {X : Type 0} → Named X → Named X → Type 0
KeysAreThere n m = (k : List ℕ) → maps.contains_key n k ≡ true → maps.contains_key m k ≡ true

pub record ToldSetAdd (s w : View) (k : List ℕ) (ms : List Member) : Type 0 where
  pub absent : maps.contains_key s.sets k ≡ false
  pub members : Members
  pub wanted : maps.get w.sets k ≡ Some members
  pub listed : ms ≡ set.items members

pub record ToldSetDelta (s w : View) (k : List ℕ) (adds removes : List Member) : Type 0 where
  pub there : maps.contains_key s.sets k ≡ true
  pub members : Members
  pub wanted : maps.get w.sets k ≡ Some members
  pub added : adds ≡ set.items_minus members (members_of (maps.get s.sets k))
  pub removed : removes ≡ set.items_minus (members_of (maps.get s.sets k)) members

pub record ToldPolicyPut (s w : View) (k : List ℕ) (p : ViewPolicy) : Type 0 where
  pub wanted : maps.get w.policies k ≡ Some p
  pub sets : KeysAreThere w.sets s.sets

pub record ToldProfilePut (s w : View) (k : List ℕ) (p : ViewProfile) : Type 0 where
  pub wanted : maps.get w.profiles k ≡ Some p
  pub sets : KeysAreThere w.sets s.sets

pub record ToldEndpointPut (s w : View) (k : List ℕ) (e : ViewEndpoint) : Type 0 where
  pub wanted : maps.get w.endpoints k ≡ Some e
  pub policies : KeysAreThere w.policies s.policies
  pub profiles : KeysAreThere w.profiles s.profiles

pub record ToldEndpointGone (s w : View) (k : List ℕ) : Type 0 where
  pub there : maps.contains_key s.endpoints k ≡ true
  pub gone : maps.get w.endpoints k ≡ None

pub record ToldProfileGone (s w : View) (k : List ℕ) : Type 0 where
  pub there : maps.contains_key s.profiles k ≡ true
  pub gone : maps.get w.profiles k ≡ None

pub record ToldPolicyGone (s w : View) (k : List ℕ) : Type 0 where
  pub there : maps.contains_key s.policies k ≡ true
  pub gone : maps.get w.policies k ≡ None

pub record ToldSetGone (s w : View) (k : List ℕ) : Type 0 where
  pub there : maps.contains_key s.sets k ≡ true
  pub gone : maps.get w.sets k ≡ None
  pub policies : s.policies ≡ w.policies
  pub profiles : s.profiles ≡ w.profiles

abbrev pub Told : View → View → Change → Type 0
Told s w (SetAdd k ms) = ToldSetAdd s w k ms
Told s w (SetDelta k adds removes) = ToldSetDelta s w k adds removes
Told s w (PolicyPut k p) = ToldPolicyPut s w k p
Told s w (ProfilePut k p) = ToldProfilePut s w k p
Told s w (EndpointPut k e) = ToldEndpointPut s w k e
Told s w (EndpointGone k) = ToldEndpointGone s w k
Told s w (ProfileGone k) = ToldProfileGone s w k
Told s w (PolicyGone k) = ToldPolicyGone s w k
Told s w (SetGone k) = ToldSetGone s w k

not_so : (b : Bool) → not b ≡ true → b ≡ false
not_so true e = cc
not_so false e = refl

first_so : (a b : Bool) → (a && b) ≡ true → a ≡ true
first_so true b e = refl
first_so false b e = cc

none_there : {X : Type 0} (o : Option X) → is_some o ≡ false → o ≡ None
none_there None e = refl
none_there (Some x) e = cc

pub by_value : {X A : Type 0} (o : Option X) → is_some o ≡ true → ((x : X) → o ≡ Some x → A) → A
by_value None e f = cc
by_value (Some x) e f = f x refl

module _ {X : Type 0} (m n : Named X) where
  -- the first entry of n that m lacks
  lacked : (e : List ℕ × X) → first_absent m n ≡ Some e → maps.contains_key m e.0 ≡ false
  lacked e is = not_so _ (found_passes (is_absent m) (maps.entries n) e is)

  lacked_there : (e : List ℕ × X) → first_absent m n ≡ Some e → maps.contains_key n e.0 ≡ true
  lacked_there e is = ap is_some (found_there (is_absent m) n e is)

  all_there : first_absent m n ≡ None → KeysAreThere n m
  all_there none k there = by_value (maps.get n k) there (λ x is. none_absent m n none k x is)

  kept_there : ((q : List ℕ) (x : X) → maps.get n q ≡ Some x → maps.get m q ≡ Some x) → KeysAreThere n m
  kept_there holds k there = by_value (maps.get n k) there (λ x is. ap is_some (holds k x is))

told_cases : (s w : View) → Cases s w (Told s w)
told_cases s w =
    record {
      set_new = λ e is. record {
        absent = lacked s.sets w.sets e is;
        members = e.1;
        wanted = found_there (is_absent s.sets) w.sets e is;
        listed = refl;
      };
      set_other = λ e is. record {
        there = first_so _ _ (found_passes (is_other members_eq.eq-value.it s.sets) (maps.entries w.sets) e is);
        members = e.1;
        wanted = found_there (is_other members_eq.eq-value.it s.sets) w.sets e is;
        added = refl;
        removed = refl;
      };
      policy_put = λ none e is. record {
        wanted = found_there (is_changed policy_eq.eq-value.it s.policies) w.policies e is;
        sets = all_there s.sets w.sets none;
      };
      profile_put = λ none e is. record {
        wanted = found_there (is_changed profile_eq.eq-value.it s.profiles) w.profiles e is;
        sets = all_there s.sets w.sets none;
      };
      endpoint_put = λ policies profiles e is. record {
        wanted = found_there (is_changed endpoint_eq.eq-value.it s.endpoints) w.endpoints e is;
        policies = kept_there s.policies w.policies (none_changed policy_eq.eq-value.it same_policy s.policies w.policies policies);
        profiles = kept_there s.profiles w.profiles (none_changed profile_eq.eq-value.it same_profile s.profiles w.profiles profiles);
      };
      endpoint_gone = λ e is. record {
        there = lacked_there w.endpoints s.endpoints e is;
        gone = none_there _ (lacked w.endpoints s.endpoints e is);
      };
      profile_gone = λ put gone e is. record {
        there = lacked_there w.profiles s.profiles e is;
        gone = none_there _ (lacked w.profiles s.profiles e is);
      };
      policy_gone = λ put gone e is. record {
        there = lacked_there w.policies s.policies e is;
        gone = none_there _ (lacked w.policies s.policies e is);
      };
      set_gone = λ none profiles policies e is. record {
        there = lacked_there w.sets s.sets e is;
        gone = none_there _ (lacked w.sets s.sets e is);
        policies = same_maps policy_eq.eq-value.it same_policy s.policies w.policies (none_changed policy_eq.eq-value.it same_policy s.policies w.policies none.policies) policies;
        profiles = same_maps profile_eq.eq-value.it same_profile s.profiles w.profiles (none_changed profile_eq.eq-value.it same_profile s.profiles w.profiles none.profiles) profiles;
      };
    }

-- what the next message tells
pub told : (s w : View) (c : Change) → next_message s w ≡ Some c → Told s w c
told s w = by_cases s w (Told s w) (told_cases s w)
