-- How the chains of a view change where one of its keys does.
use Rattle.std.proofs.Common.{◌≡◌, ℕ, Bool, true, false, cond, List, Option, Some, None, option_map, refl, sym, ap, ◌∙◌}
use Rattle.std.specs.FinMap as maps
use Rattle.fx_base.specs.Extended.{put_or_removed, taken_from}
use Rattle.fx_base.proofs.AtKey.{get_insert, get_remove, same_by_get}
use Rattle.fx_base.proofs.Taken.{get_taken}
use Rattle.fx_model.specs.declared.view.View.{View}
use Rattle.fx_model.specs.Directions.{Direction, Ingress, Egress}
use Rattle.fx_model.specs.Messages.{Named}
use Rattle.fx_model.specs.Tables.{ChainName, Chains, policy_chain, policy_rules, profile_chain, profile_rules, endpoint_chain, endpoint_rules}
use Rattle.fx_model.specs.Tree.{tree_of}
use Rattle.fx_driver.specs.Driven.{driven_chains}
use Rattle.fx_laws.specs.DispatchNames.{is_dispatch}
use Rattle.fx_laws.proofs.EntryLookups.{is, is_itself, is_same}
use Rattle.fx_laws.proofs.NamesApart.{policy_same, profile_same, endpoint_same, by_name}
use Rattle.fx_laws.proofs.TablesAt.{policy_at, profile_at, endpoint_at, dispatch_at, first_at, nothing_at}

-- what two views have in common, as far as a chain of this name goes
pub record AreAlikeAt (u v : View) (q : ChainName) : Type 0 where
  pub policies : (d : Direction) (k : List ℕ) → q ≡ policy_chain d k → maps.get u.policies k ≡ maps.get v.policies k
  pub profiles : (d : Direction) (k : List ℕ) → q ≡ profile_chain d k → maps.get u.profiles k ≡ maps.get v.profiles k
  pub endpoints : (d : Direction) (k : List ℕ) → q ≡ endpoint_chain d k → maps.get u.endpoints k ≡ maps.get v.endpoints k
  pub tree : is_dispatch q ≡ true → maps.get (tree_of (maps.keys u.endpoints)) q ≡ maps.get (tree_of (maps.keys v.endpoints)) q

-- then they have the same chain there
pub alike : (u v : View) (q : ChainName) → AreAlikeAt u v q → maps.get (driven_chains u) q ≡ maps.get (driven_chains v) q
alike u v = by_name (λ q. AreAlikeAt u v q → maps.get (driven_chains u) q ≡ maps.get (driven_chains v) q) (record {
  policies = λ d k same. policy_at u d k ∙ ap (option_map (policy_rules d)) (same.policies d k refl) ∙ sym (policy_at v d k);
  profiles = λ d k same. profile_at u d k ∙ ap (option_map (profile_rules d)) (same.profiles d k refl) ∙ sym (profile_at v d k);
  endpoints = λ d k same. endpoint_at u d k ∙ ap (option_map (endpoint_rules d)) (same.endpoints d k refl) ∙ sym (endpoint_at v d k);
  dispatch = λ q h same. dispatch_at u q h ∙ same.tree h ∙ sym (dispatch_at v q h);
  first = λ same. first_at u ∙ sym (first_at v);
  «else» = λ q h same. nothing_at u q h ∙ sym (nothing_at v q h);
})

-- ---- a map in which two keys are set

module _ {X : Type 0} where
  pub get_put_or_removed : (m : Named X) (k : List ℕ) (o : Option X) (q : List ℕ) → maps.get (put_or_removed m k o) q ≡ cond (is q k) o (maps.get m q)
  get_put_or_removed m k None q = get_remove m k q
  get_put_or_removed m k (Some x) q = get_insert m k x q

  by_keys : (a : Named X) (n m q : List ℕ) (o p r : Option X) → maps.get a n ≡ o → maps.get a m ≡ p → (is q n ≡ false → is q m ≡ false → maps.get a q ≡ r) → maps.get a q ≡ cond (is q m) p (cond (is q n) o r)
  by_keys a n m q o p r at_n at_m others = by_tests (is q m) refl (is q n) refl
    where
      by_tests : (b : Bool) → is q m ≡ b → (c : Bool) → is q n ≡ c → maps.get a q ≡ cond b p (cond c o r)
      by_tests true e c f = ap (maps.get a) (is_same q m e) ∙ at_m
      by_tests false e true f = ap (maps.get a) (is_same q n f) ∙ at_n
      by_tests false e false f = others f e

  -- a map that is as another one but at two keys
  pub set_two : (a b : Named X) (n m : List ℕ) (o p : Option X) → maps.get a n ≡ o → maps.get a m ≡ p → ((q : List ℕ) → is q n ≡ false → is q m ≡ false → maps.get a q ≡ maps.get b q) → a ≡ put_or_removed (put_or_removed b n o) m p
  set_two a b n m o p at_n at_m others =
      same_by_get a (put_or_removed (put_or_removed b n o) m p) (λ q.
      by_keys a n m q o p (maps.get b q) at_n at_m (others q)
      ∙ ap (cond (is q m) p) (sym (get_put_or_removed b n o q))
      ∙ sym (get_put_or_removed (put_or_removed b n o) m p q))

  pub taken_here : (m n : Named X) (k : List ℕ) → maps.get (taken_from m n k) k ≡ maps.get n k
  taken_here m n k = get_taken m n k k ∙ ap (λ b. cond b (maps.get n k) (maps.get m k)) (is_itself k)

  pub taken_away : (m n : Named X) (k q : List ℕ) → is q k ≡ false → maps.get (taken_from m n k) q ≡ maps.get m q
  taken_away m n k q other = get_taken m n k q ∙ ap (λ b. cond b (maps.get n k) (maps.get m q)) other

-- a chain of the same kind with another name has another key
module _ (name : Direction → List ℕ → ChainName) (same : (d : Direction) (k l : List ℕ) → is (name d k) (name d l) ≡ is k l) (k : List ℕ) (q : ChainName) (not_in : is q (name Ingress k) ≡ false) (not_out : is q (name Egress k) ≡ false) where
  other_key : (d : Direction) (j : List ℕ) → q ≡ name d j → is j k ≡ false
  other_key d j e = sym (same d j k) ∙ ap (λ (x : ChainName). is x (name d k)) (sym e) ∙ by_direction d
    where
      by_direction : (d : Direction) → is q (name d k) ≡ false
      by_direction Ingress = not_in
      by_direction Egress = not_out

-- ---- the chains of a view of which one key is taken from another

module _ (s w : View) (k : List ℕ) where
  abbrev pub with_policy : View
  with_policy = record s { policies = taken_from s.policies w.policies k }

  pub policy_step : driven_chains with_policy
      ≡ put_or_removed (put_or_removed (driven_chains s)
      (policy_chain Ingress k) (option_map (policy_rules Ingress) (maps.get w.policies k)))
      (policy_chain Egress k) (option_map (policy_rules Egress) (maps.get w.policies k))
  policy_step =
      set_two (driven_chains with_policy) (driven_chains s) (policy_chain Ingress k) (policy_chain Egress k) _ _
      (policy_at with_policy Ingress k ∙ ap (option_map (policy_rules Ingress)) (taken_here s.policies w.policies k))
      (policy_at with_policy Egress k ∙ ap (option_map (policy_rules Egress)) (taken_here s.policies w.policies k))
      (λ q a b. alike with_policy s q (record {
        policies = λ d j e. taken_away s.policies w.policies k j (other_key policy_chain policy_same k q a b d j e);
        profiles = λ d j e. refl;
        endpoints = λ d j e. refl;
        tree = λ h. refl;
      }))

  abbrev pub with_profile : View
  with_profile = record s { profiles = taken_from s.profiles w.profiles k }

  pub profile_step : driven_chains with_profile
      ≡ put_or_removed (put_or_removed (driven_chains s)
      (profile_chain Ingress k) (option_map (profile_rules Ingress) (maps.get w.profiles k)))
      (profile_chain Egress k) (option_map (profile_rules Egress) (maps.get w.profiles k))
  profile_step =
      set_two (driven_chains with_profile) (driven_chains s) (profile_chain Ingress k) (profile_chain Egress k) _ _
      (profile_at with_profile Ingress k ∙ ap (option_map (profile_rules Ingress)) (taken_here s.profiles w.profiles k))
      (profile_at with_profile Egress k ∙ ap (option_map (profile_rules Egress)) (taken_here s.profiles w.profiles k))
      (λ q a b. alike with_profile s q (record {
        policies = λ d j e. refl;
        profiles = λ d j e. taken_away s.profiles w.profiles k j (other_key profile_chain profile_same k q a b d j e);
        endpoints = λ d j e. refl;
        tree = λ h. refl;
      }))

  -- ---- an endpoint's chains, and the tree

  abbrev pub with_endpoint : View
  with_endpoint = record s { endpoints = taken_from s.endpoints w.endpoints k }

  -- the chains with those of the endpoint as it is wanted
  abbrev pub endpoint_set : Chains → Chains
  endpoint_set chains =
      put_or_removed (put_or_removed chains
      (endpoint_chain Ingress k) (option_map (endpoint_rules Ingress) (maps.get w.endpoints k)))
      (endpoint_chain Egress k) (option_map (endpoint_rules Egress) (maps.get w.endpoints k))

  pub endpoint_others : (q : ChainName) → is_dispatch q ≡ false → maps.get (driven_chains with_endpoint) q ≡ maps.get (endpoint_set (driven_chains s)) q
  endpoint_others q none =
      by_keys (driven_chains with_endpoint) (endpoint_chain Ingress k) (endpoint_chain Egress k) q _ _ (maps.get (driven_chains s) q)
      (endpoint_at with_endpoint Ingress k ∙ ap (option_map (endpoint_rules Ingress)) (taken_here s.endpoints w.endpoints k))
      (endpoint_at with_endpoint Egress k ∙ ap (option_map (endpoint_rules Egress)) (taken_here s.endpoints w.endpoints k))
      (λ a b. alike with_endpoint s q (record {
        policies = λ d j e. refl;
        profiles = λ d j e. refl;
        endpoints = λ d j e. taken_away s.endpoints w.endpoints k j (other_key endpoint_chain endpoint_same k q a b d j e);
        tree = λ h. absurd (no_false (sym h ∙ none));
      }))
      ∙ ap (cond (is q (endpoint_chain Egress k)) _) (sym (get_put_or_removed (driven_chains s) (endpoint_chain Ingress k) _ q))
      ∙ sym (get_put_or_removed (put_or_removed (driven_chains s) (endpoint_chain Ingress k) _) (endpoint_chain Egress k) _ q)
    where
      no_false : true ≡ false → ⊥
      no_false e = cc

  abbrev pub with_set : View
  with_set = record s { sets = taken_from s.sets w.sets k }
