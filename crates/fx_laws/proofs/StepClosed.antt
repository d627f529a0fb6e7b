-- Each message keeps the sent view closed: what is named is put before what names it, and goes after it.
use Rattle.std.proofs.Common.{◌≡◌, ℕ, Bool, true, false, not, List, [], ◌∷◌, Option, Some, None, is_some, refl, sym, ap, ◌∙◌}
use Rattle.std.specs.Cmp.Lexicographic.{nat_list_cmp_total}
use Rattle.std.specs.FinMap as maps
use Rattle.fx_base.specs.Extended.{taken_from}
use Rattle.fx_base.proofs.Taken.{taken_cases}
use Rattle.fx_base.proofs.Found.{found_passes, all_fail, of_entries}
use Rattle.fx_base.proofs.KeyCases.{bytes_exact}
use Rattle.fx_model.specs.declared.view.View.{View}
use Rattle.fx_model.specs.declared.view.ViewTier.{ViewTier}
use Rattle.fx_model.specs.declared.view.ViewPolicy.{ViewPolicy}
use Rattle.fx_model.specs.declared.view.ViewProfile.{ViewProfile}
use Rattle.fx_model.specs.declared.view.ViewEndpoint.{ViewEndpoint}
use Rattle.fx_model.specs.contracts.view.ViewPolicyPartialEq.TheImpl as policy_eq
use Rattle.fx_model.specs.contracts.view.ViewProfilePartialEq.TheImpl as profile_eq
use Rattle.fx_model.specs.contracts.view.ViewEndpointPartialEq.TheImpl as endpoint_eq
use Rattle.fx_model.specs.SameViews.{same_policy, same_profile, same_endpoint}
use Rattle.fx_model.specs.Messages.{Named, Change, is_absent, is_changed, is_other, first_absent, first_changed, next_message, step_at}
use Rattle.fx_model.specs.Closed.{AreThere, TiersAreThere, EndpointIsClosed, NameSets, IsClosedView, sets_of_rules}
use Rattle.fx_model.specs.declared.view_rule.ViewRule.{ViewRule}
use Rattle.fx_model.specs.Tables.{Sets, policy_side, profile_side}
use Rattle.fx_model.specs.contracts.member.MemberSetPartialEq.TheImpl as members_eq
use Rattle.fx_laws.proofs.Apart.{found_there, none_changed, same_maps}
use Rattle.fx_laws.proofs.NextCases.{NoPut, Cases, by_cases}

-- what is there in both of two maps is there in a third
abbrev BothThere : {X : Type 0} → Named X → Named X → Named X → Type 0
BothThere l m r = (k : List ℕ) → maps.contains_key l k ≡ true → maps.contains_key m k ≡ true → maps.contains_key r k ≡ true

module _ {X : Type 0} (l m r : Named X) (both : BothThere l m r) where
  keys_there : (ks : List (List ℕ)) → AreThere l ks → AreThere m ks → AreThere r ks
  keys_there [] g h = tt
  keys_there (k ∷ ks) g h = (both k g.0 h.0, keys_there ks g.1 h.1)

  tiers_there : (ts : List ViewTier) → TiersAreThere l ts → TiersAreThere m ts → TiersAreThere r ts
  tiers_there [] g h = tt
  tiers_there (t ∷ ts) g h = (keys_there t.policies g.0 h.0, tiers_there ts g.1 h.1)

endpoint_both : (u v r : View) → BothThere u.policies v.policies r.policies → BothThere u.profiles v.profiles r.profiles → (e : ViewEndpoint) → EndpointIsClosed u e → EndpointIsClosed v e → EndpointIsClosed r e
endpoint_both u v r policies profiles e g h = record {
  ingress = tiers_there u.policies v.policies r.policies policies e.ingress g.ingress h.ingress;
  egress = tiers_there u.policies v.policies r.policies policies e.egress g.egress h.egress;
  profiles = keys_there u.profiles v.profiles r.profiles profiles e.profiles g.profiles h.profiles;
}

-- what is there in one view is there in another
endpoint_kept : (u r : View) → ((k : List ℕ) → maps.contains_key u.policies k ≡ true → maps.contains_key r.policies k ≡ true) → ((k : List ℕ) → maps.contains_key u.profiles k ≡ true → maps.contains_key r.profiles k ≡ true) → (e : ViewEndpoint) → EndpointIsClosed u e → EndpointIsClosed r e
endpoint_kept u r policies profiles e h = endpoint_both u u r (λ k g _. policies k g) (λ k g _. profiles k g) e h h

module _ {X : Type 0} (m n : Named X) where
  -- what is put stays there, and so does all else
  put_there : (e : List ℕ × X) → maps.get n e.0 ≡ Some e.1 → (k : List ℕ) → maps.contains_key m k ≡ true → maps.contains_key (taken_from m n e.0) k ≡ true
  put_there e is k there = taken_cases (λ o. is_some o ≡ true) m n e.0 k (λ same. ap (λ (q : List ℕ). maps.contains_key n q) same ∙ ap is_some is) there

  both_there : (q : List ℕ) → BothThere m n (taken_from m n q)
  both_there q k g h = taken_cases (λ o. is_some o ≡ true) m n q k (λ _. h) g

  there_by_get : ((q : List ℕ) (x : X) → maps.get n q ≡ Some x → maps.get m q ≡ Some x) → (k : List ℕ) → maps.contains_key n k ≡ true → maps.contains_key m k ≡ true
  there_by_get holds k there =
      elim (maps.get n k) as (λ o. maps.get n k ≡ o → is_some o ≡ true → maps.contains_key m k ≡ true) [
        | None ↦ λ is t. cc
        | Some x ↦ λ is t. ap is_some (holds k x is)
      ] refl there

absent_here : {X A : Type 0} (n : Named X) (k q : List ℕ) (x : X) → not (maps.contains_key n k) ≡ true → q ≡ k → maps.get n q ≡ Some x → A
absent_here n k q x absent same is =
    let here : maps.contains_key n k ≡ true = ap (λ (j : List ℕ). maps.contains_key n j) (sym same) ∙ ap is_some is in
    let turned : not true ≡ true = ap not (sym here) ∙ absent in cc

keys_kept : {X : Type 0} (m r : Named X) → ((k : List ℕ) → maps.contains_key m k ≡ true → maps.contains_key r k ≡ true) → (ks : List (List ℕ)) → AreThere m ks → AreThere r ks
keys_kept m r kept ks h = keys_there m m r (λ k g _. kept k g) ks h h

-- the sets that rules name stay there
names_kept : (m r : Sets) → ((k : List ℕ) → maps.contains_key m k ≡ true → maps.contains_key r k ≡ true) → (rules : List ViewRule) → NameSets m rules → NameSets r rules
names_kept m r kept rules h = record { there = keys_kept m r kept (sets_of_rules rules) h.there; kinds = h.kinds }

names_both : (l m r : Sets) → BothThere l m r → (rules : List ViewRule) → NameSets l rules → NameSets m rules → NameSets r rules
names_both l m r both rules g h = record { there = keys_there l m r both (sets_of_rules rules) g.there h.there; kinds = g.kinds }

-- where none is new, each that is wanted is there
none_new_there : {X : Type 0} (m n : Named X) → first_absent m n ≡ None → (k : List ℕ) → maps.contains_key n k ≡ true → maps.contains_key m k ≡ true
none_new_there m n none k there = by_value (maps.get n k) refl there
  where
    turned : (b : Bool) → not b ≡ false → b ≡ true
    turned true h = refl
    turned false h = cc

    by_value : (o : Option _) → maps.get n k ≡ o → is_some o ≡ true → maps.contains_key m k ≡ true
    by_value None is t = cc
    by_value (Some x) is t =
        turned (maps.contains_key m k) (of_entries nat_list_cmp_total bytes_exact (λ e. is_absent m e ≡ false) n k x (all_fail (is_absent m) (maps.entries n) none) is)

module _ (s w : View) (closed : IsClosedView s) (aim : IsClosedView w) where
  -- a change of the sets alone, where those that are named stay there
  sets_grow : (k : List ℕ) → ((q : List ℕ) → maps.contains_key s.sets q ≡ true → maps.contains_key (taken_from s.sets w.sets k) q ≡ true) → IsClosedView (record s { sets = taken_from s.sets w.sets k })
  sets_grow k grows = record {
    endpoints = λ iface e is. endpoint_kept s (record s { sets = taken_from s.sets w.sets k }) (λ q h. h) (λ q h. h) e (closed.endpoints iface e is);
    policies = λ d key p is. names_kept s.sets (taken_from s.sets w.sets k) grows _ (closed.policies d key p is);
    profiles = λ d key p is. names_kept s.sets (taken_from s.sets w.sets k) grows _ (closed.profiles d key p is);
  }

  policy_closed : first_absent s.sets w.sets ≡ None → (p : List ℕ × ViewPolicy) → first_changed policy_eq.eq-value.it s.policies w.policies ≡ Some p → IsClosedView (record s { policies = taken_from s.policies w.policies p.0 })
  policy_closed none p first = record {
    endpoints = λ iface e is. endpoint_kept s (record s { policies = taken_from s.policies w.policies p.0 })
        (put_there s.policies w.policies p (found_there (is_changed policy_eq.eq-value.it s.policies) w.policies p first)) (λ q h. h) e (closed.endpoints iface e is);
    policies = λ d key q. taken_cases (λ o. o ≡ Some q → NameSets s.sets (policy_side d q)) s.policies w.policies p.0 key
        (λ _ is. names_kept w.sets s.sets (none_new_there s.sets w.sets none) _ (aim.policies d key q is))
        (λ is. closed.policies d key q is);
    profiles = closed.profiles;
  }

  profile_closed : first_absent s.sets w.sets ≡ None → (p : List ℕ × ViewProfile) → first_changed profile_eq.eq-value.it s.profiles w.profiles ≡ Some p → IsClosedView (record s { profiles = taken_from s.profiles w.profiles p.0 })
  profile_closed none p first = record {
    endpoints = λ iface e is. endpoint_kept s (record s { profiles = taken_from s.profiles w.profiles p.0 })
        (λ q h. h) (put_there s.profiles w.profiles p (found_there (is_changed profile_eq.eq-value.it s.profiles) w.profiles p first)) e (closed.endpoints iface e is);
    policies = closed.policies;
    profiles = λ d key q. taken_cases (λ o. o ≡ Some q → NameSets s.sets (profile_side d q)) s.profiles w.profiles p.0 key
        (λ _ is. names_kept w.sets s.sets (none_new_there s.sets w.sets none) _ (aim.profiles d key q is))
        (λ is. closed.profiles d key q is);
  }

  -- an endpoint comes once all that it names is there
  endpoint_put_closed : first_changed policy_eq.eq-value.it s.policies w.policies ≡ None → first_changed profile_eq.eq-value.it s.profiles w.profiles ≡ None → (k : List ℕ) → IsClosedView (record s { endpoints = taken_from s.endpoints w.endpoints k })
  endpoint_put_closed policies profiles k =
      let r = record s { endpoints = taken_from s.endpoints w.endpoints k } in
      record {
        endpoints = λ iface e. taken_cases (λ o. o ≡ Some e → EndpointIsClosed r e) s.endpoints w.endpoints k iface
            (λ _ is. endpoint_kept w r
            (there_by_get s.policies w.policies (none_changed policy_eq.eq-value.it same_policy s.policies w.policies policies))
            (there_by_get s.profiles w.profiles (none_changed profile_eq.eq-value.it same_profile s.profiles w.profiles profiles)) e (aim.endpoints iface e is))
            (λ is. endpoint_kept s r (λ q h. h) (λ q h. h) e (closed.endpoints iface e is));
        policies = closed.policies;
        profiles = closed.profiles;
      }

  endpoint_gone_closed : (p : List ℕ × ViewEndpoint) → first_absent w.endpoints s.endpoints ≡ Some p → IsClosedView (record s { endpoints = taken_from s.endpoints w.endpoints p.0 })
  endpoint_gone_closed p first =
      let r = record s { endpoints = taken_from s.endpoints w.endpoints p.0 } in
      record {
        endpoints = λ iface e. taken_cases (λ o. o ≡ Some e → EndpointIsClosed r e) s.endpoints w.endpoints p.0 iface
            (λ same is. absent_here w.endpoints p.0 iface e (found_passes (is_absent w.endpoints) (maps.entries s.endpoints) p first) same is)
            (λ is. endpoint_kept s r (λ q h. h) (λ q h. h) e (closed.endpoints iface e is));
        policies = closed.policies;
        profiles = closed.profiles;
      }

  -- policies and profiles go once the endpoints are as they are wanted
  module _ (put : first_changed endpoint_eq.eq-value.it s.endpoints w.endpoints ≡ None) (gone : first_absent w.endpoints s.endpoints ≡ None) where
    wanted_too : (iface : List ℕ) (e : ViewEndpoint) → maps.get s.endpoints iface ≡ Some e → EndpointIsClosed w e
    wanted_too iface e is =
        let same : s.endpoints ≡ w.endpoints = same_maps endpoint_eq.eq-value.it same_endpoint s.endpoints w.endpoints (none_changed endpoint_eq.eq-value.it same_endpoint s.endpoints w.endpoints put) gone in
        aim.endpoints iface e (ap (λ (m : Named ViewEndpoint). maps.get m iface) (sym same) ∙ is)

    profile_gone_closed : (p : List ℕ × ViewProfile) → first_absent w.profiles s.profiles ≡ Some p → IsClosedView (record s { profiles = taken_from s.profiles w.profiles p.0 })
    profile_gone_closed p first = record {
      endpoints = λ iface e is. endpoint_both s w (record s { profiles = taken_from s.profiles w.profiles p.0 })
          (λ q g h. g) (both_there s.profiles w.profiles p.0) e (closed.endpoints iface e is) (wanted_too iface e is);
      policies = closed.policies;
      profiles = λ d key q. taken_cases (λ o. o ≡ Some q → NameSets s.sets (profile_side d q)) s.profiles w.profiles p.0 key
          (λ same is. absent_here w.profiles p.0 key q (found_passes (is_absent w.profiles) (maps.entries s.profiles) p first) same is)
          (λ is. closed.profiles d key q is);
    }

    policy_gone_closed : (p : List ℕ × ViewPolicy) → first_absent w.policies s.policies ≡ Some p → IsClosedView (record s { policies = taken_from s.policies w.policies p.0 })
    policy_gone_closed p first = record {
      endpoints = λ iface e is. endpoint_both s w (record s { policies = taken_from s.policies w.policies p.0 })
          (both_there s.policies w.policies p.0) (λ q g h. g) e (closed.endpoints iface e is) (wanted_too iface e is);
      policies = λ d key q. taken_cases (λ o. o ≡ Some q → NameSets s.sets (policy_side d q)) s.policies w.policies p.0 key
          (λ same is. absent_here w.policies p.0 key q (found_passes (is_absent w.policies) (maps.entries s.policies) p first) same is)
          (λ is. closed.policies d key q is);
      profiles = closed.profiles;
    }

  -- sets go once the policies and profiles are as they are wanted
  set_gone_closed : NoPut s w → first_absent w.profiles s.profiles ≡ None → first_absent w.policies s.policies ≡ None → (k : List ℕ) → IsClosedView (record s { sets = taken_from s.sets w.sets k })
  set_gone_closed put profiles policies k =
      let same_policies : s.policies ≡ w.policies = same_maps policy_eq.eq-value.it same_policy s.policies w.policies (none_changed policy_eq.eq-value.it same_policy s.policies w.policies put.policies) policies in
      let same_profiles : s.profiles ≡ w.profiles = same_maps profile_eq.eq-value.it same_profile s.profiles w.profiles (none_changed profile_eq.eq-value.it same_profile s.profiles w.profiles put.profiles) profiles in
      record {
        endpoints = λ iface e is. endpoint_kept s (record s { sets = taken_from s.sets w.sets k }) (λ q h. h) (λ q h. h) e (closed.endpoints iface e is);
        policies = λ d key p is. names_both s.sets w.sets (taken_from s.sets w.sets k) (both_there s.sets w.sets k) _ (closed.policies d key p is)
            (aim.policies d key p (ap (λ (m : Named ViewPolicy). maps.get m key) (sym same_policies) ∙ is));
        profiles = λ d key p is. names_both s.sets w.sets (taken_from s.sets w.sets k) (both_there s.sets w.sets k) _ (closed.profiles d key p is)
            (aim.profiles d key p (ap (λ (m : Named ViewProfile). maps.get m key) (sym same_profiles) ∙ is));
      }

  closed_cases : Cases s w (λ c. IsClosedView (step_at c s w))
  closed_cases = record {
    set_new = λ e is. sets_grow e.0 (put_there s.sets w.sets e (found_there (is_absent s.sets) w.sets e is));
    set_other = λ e is. sets_grow e.0 (put_there s.sets w.sets e (found_there (is_other members_eq.eq-value.it s.sets) w.sets e is));
    policy_put = policy_closed;
    profile_put = profile_closed;
    endpoint_put = λ policies profiles e is. endpoint_put_closed policies profiles e.0;
    endpoint_gone = endpoint_gone_closed;
    profile_gone = λ put gone e is. profile_gone_closed put gone e is;
    policy_gone = λ put gone e is. policy_gone_closed put gone e is;
    set_gone = λ none profiles policies e is. set_gone_closed none profiles policies e.0;
  }

  pub step-closed : (c : Change) → next_message s w ≡ Some c → IsClosedView (step_at c s w)
  step-closed c is = by_cases s w (λ d. IsClosedView (step_at d s w)) closed_cases c is
