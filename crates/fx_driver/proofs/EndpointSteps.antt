-- What a plan of dispatch chains asks of a driver's tables, and what it makes of them.
use Rattle.std.proofs.Common.{◌≡◌, ◌≢◌, inl, inr, ℕ, Bool, true, false, cond, List, [], ◌∷◌, map, Option, Some, None, is_some, option_map, refl, sym, ap, ◌∙◌}
use Rattle.std.specs.List.{AllByRecursion}
use Rattle.std.specs.Ordering.{nat_cmp}
use Rattle.std.specs.Cmp.Lexicographic.{slice_cmp, nat_list_cmp_total}
use Rattle.std.specs.FinMap as maps
use Rattle.fx_base.specs.Extended.{collected, extended, put_or_removed, taken_from}
use Rattle.fx_base.specs.Set as set
use Rattle.fx_base.proofs.AtKey.{get_empty, get_insert, get_remove, same_by_get}
use Rattle.fx_base.proofs.Entries.{entries-empty}
use Rattle.fx_base.proofs.Found.{each, entries_found}
use Rattle.fx_base.proofs.Taken.{get_taken}
use Rattle.fx_model.specs.declared.view.View.{View}
use Rattle.fx_model.specs.declared.view.ViewEndpoint.{ViewEndpoint}
use Rattle.fx_model.specs.declared.chain.ChainRule.{ChainRule}
use Rattle.fx_model.specs.Directions.{Direction, Ingress, Egress}
use Rattle.fx_model.specs.Closed.{IsClosedView}
use Rattle.fx_model.specs.Messages.{Named}
use Rattle.fx_model.specs.Tables.{ChainName, Chains, endpoint_chain, endpoint_rules, forward, root_of}
use Rattle.fx_model.specs.ViewTables.{endpoint_chains}
use Rattle.fx_tables.specs.Leads.{AllLeadElsewhere, NoneLeadsTo}
use Rattle.fx_model.specs.Tree.{child_chain, dispatch_chains_of, HoldsTree}
use Rattle.fx_dispatch.specs.Plans.{EndpointsAreThere, OthersLeadElsewhere, Replaces, ChangesOnly, applied}
use Rattle.fx_laws.specs.DispatchNames.{IsElsewhere}
use Rattle.fx_dispatch.specs.Plans as plans
use Rattle.fx_dispatch.proofs.Deletable.{place_of}
use Rattle.fx_dispatch.proofs.Once.{apart}
use Rattle.fx_laws.proofs.TreeAt.{tree-child, tree-elsewhere}
use Rattle.fx_model.specs.Tree.{tree_of}
use Rattle.fx_driver.specs.Driven.{driven_chains}
use Rattle.fx_laws.specs.DispatchNames.{is_dispatch}
use Rattle.fx_laws.proofs.EntryLookups.{is}
use Rattle.fx_laws.proofs.TablesAt.{dispatch_not_endpoint, endpoint_at, dispatch_at}
use Rattle.fx_laws.proofs.NamesApart.{endpoint_no_dispatch, endpoint_same}
use Rattle.fx_driver.proofs.Stepped.{with_endpoint, endpoint_others}
use Rattle.fx_driver.proofs.Interfaces.{Names, HasKeys, names_are}
use Rattle.fx_laws.proofs.Leads.{HasLower, endpoint_lead}
use Rattle.fx_driver.proofs.Elsewhere.{there_elsewhere, HasTree, view_rules, all_rules, tree_elsewhere}
use Rattle.fx_driver.proofs.Steps.{policy_elsewhere, profile_elsewhere, has_lower}

no_true : true ≡ false → ⊥
no_true e = cc

root_is : (d : Direction) → is_dispatch (root_of d) ≡ true
root_is Ingress = refl
root_is Egress = refl

child_is : (d : Direction) (byte : List ℕ) → is_dispatch (child_chain d byte) ≡ true
child_is Ingress byte = refl
child_is Egress byte = refl

-- a name that doesn't begin as a root's is none of a dispatch chain
elsewhere_of : (q : ChainName) → is_dispatch q ≡ false → IsElsewhere q
elsewhere_of q none =
    elim (place_of q) as (λ _. IsElsewhere q) [
      | inl a ↦ absurd (no_true (sym (root_is a.0) ∙ ap is_dispatch (sym a.1) ∙ none))
      | inr rest ↦ elim rest as (λ _. IsElsewhere q) [
        | inl b ↦ absurd (no_true (sym (child_is b.0 b.1) ∙ ap is_dispatch (sym b.2) ∙ none))
        | inr h ↦ h
      ]
    ]

module _ {X : Type 0} (m : Named X) (names : Names) (has : HasKeys names m) where
  pub tree_same : plans.tree_of names ≡ tree_of (maps.keys m)
  tree_same = ap (λ ks. collected (dispatch_chains_of ks)) (names_are m names has)

  -- a tree of names among chains is the tree of the keys
  tree_there : (chains : Chains) → HoldsTree (set.items names) chains → ((q : ChainName) → is_dispatch q ≡ true → IsElsewhere q → maps.get chains q ≡ None) → (q : ChainName) → is_dispatch q ≡ true → maps.get chains q ≡ maps.get (tree_of (maps.keys m)) q
  tree_there chains holds none q h =
      elim (place_of q) as (λ _. maps.get chains q ≡ maps.get (tree_of (maps.keys m)) q) [
        | inl a ↦ ap (maps.get chains) a.1 ∙ holds.roots a.0 ∙ ap (λ (t : Chains). maps.get t (root_of a.0)) tree_same ∙ ap (maps.get (tree_of (maps.keys m))) (sym a.1)
        | inr rest ↦ elim rest as (λ _. maps.get chains q ≡ maps.get (tree_of (maps.keys m)) q) [
          | inl b ↦ ap (maps.get chains) b.2 ∙ holds.children b.0 b.1 ∙ ap (λ (t : Chains). maps.get t (child_chain b.0 b.1)) tree_same ∙ ap (maps.get (tree_of (maps.keys m))) (sym b.2)
          | inr e ↦ none q h e ∙ sym (tree-elsewhere (maps.keys m) q e)
        ]
      ]

-- ---- a view without endpoints

abbrev bare : View → View
bare v = record v { endpoints = maps.empty }

bare_lower : (v : View) → HasLower v (driven_chains (bare v))
bare_lower v = let h = has_lower (bare v) in record { policies = h.policies; profiles = h.profiles }

bare_endpoint : (v : View) (d : Direction) (k : List ℕ) → maps.get (driven_chains (bare v)) (endpoint_chain d k) ≡ None
bare_endpoint v d k = endpoint_at (bare v) d k ∙ ap (option_map (endpoint_rules d)) (get_empty k)

bare_child : (v : View) (d : Direction) (byte : List ℕ) → maps.get (driven_chains (bare v)) (child_chain d byte) ≡ None
bare_child v d byte =
    dispatch_at (bare v) (child_chain d byte) (child_is d byte)
    ∙ ap (λ (es : List (List ℕ × ViewEndpoint)). maps.get (tree_of (map (λ e. e.0) es)) (child_chain d byte)) (entries-empty (slice_cmp nat_cmp))
    ∙ tree-child [] d byte

endpoint_elsewhere : (v : View) → IsClosedView v → (n : ChainName) → maps.get (driven_chains (bare v)) n ≡ None → (d : Direction) (k : List ℕ) (e : ViewEndpoint) → maps.get v.endpoints k ≡ Some e → AllLeadElsewhere n (endpoint_rules d e)
endpoint_elsewhere v closed n absent d k e is =
    there_elsewhere (driven_chains (bare v)) n absent (endpoint_rules d e)
    (endpoint_lead v v.sets (driven_chains (bare v)) (bare_lower v) d e (closed.endpoints k e is)).there

root_no_child : (e d : Direction) (byte : List ℕ) → root_of e ≢ child_chain d byte
root_no_child Ingress Ingress byte = apart (root_of Ingress) (child_chain Ingress byte) refl
root_no_child Ingress Egress byte = apart (root_of Ingress) (child_chain Egress byte) refl
root_no_child Egress Ingress byte = apart (root_of Egress) (child_chain Ingress byte) refl
root_no_child Egress Egress byte = apart (root_of Egress) (child_chain Egress byte) refl

root_no_endpoint : (e d : Direction) (k : List ℕ) → root_of e ≢ endpoint_chain d k
root_no_endpoint Ingress Ingress k = apart (root_of Ingress) (endpoint_chain Ingress k) refl
root_no_endpoint Ingress Egress k = apart (root_of Ingress) (endpoint_chain Egress k) refl
root_no_endpoint Egress Ingress k = apart (root_of Egress) (endpoint_chain Ingress k) refl
root_no_endpoint Egress Egress k = apart (root_of Egress) (endpoint_chain Egress k) refl

child_no_endpoint : (d e : Direction) (k : List ℕ) (byte : List ℕ) → child_chain e byte ≢ endpoint_chain d k
child_no_endpoint Ingress Ingress k byte = apart (child_chain Ingress byte) (endpoint_chain Ingress k) refl
child_no_endpoint Ingress Egress k byte = apart (child_chain Egress byte) (endpoint_chain Ingress k) refl
child_no_endpoint Egress Ingress k byte = apart (child_chain Ingress byte) (endpoint_chain Egress k) refl
child_no_endpoint Egress Egress k byte = apart (child_chain Egress byte) (endpoint_chain Egress k) refl

no_rules : {A : Type 0} (rules : List ChainRule) → None ≡ Some rules → A
no_rules rules e = cc

-- ---- a plan among chains that are a view's, but with an older tree

-- r's chains, with the tree of the endpoints of s
module _ (s r : View) (closed : IsClosedView r) (chains : Chains) (has : HasTree r (maps.keys s.endpoints) chains) (old : Names) (keys : HasKeys old s.endpoints) where
  pub holds_tree : HoldsTree (set.items old) chains
  holds_tree = record {
    roots = λ d. has.tree (root_of d) (root_is d) ∙ ap (λ (t : Chains). maps.get t (root_of d)) (sym (tree_same s.endpoints old keys));
    children = λ d byte. has.tree (child_chain d byte) (child_is d byte) ∙ ap (λ (t : Chains). maps.get t (child_chain d byte)) (sym (tree_same s.endpoints old keys));
  }

  nothing_elsewhere : (q : ChainName) → is_dispatch q ≡ true → IsElsewhere q → maps.get chains q ≡ None
  nothing_elsewhere q h e = has.tree q h ∙ tree-elsewhere (maps.keys s.endpoints) q e

  pub others_elsewhere : OthersLeadElsewhere chains
  others_elsewhere q rules e is d byte = by_test (is_dispatch q) refl
    where
      by_test : (b : Bool) → is_dispatch q ≡ b → AllLeadElsewhere (child_chain d (byte ∷ [])) rules
      by_test true h = no_rules rules (sym (nothing_elsewhere q h e) ∙ is)
      by_test false h =
          let n = child_chain d (byte ∷ []) in
          view_rules r [] (AllLeadElsewhere n) (record {
            policies = policy_elsewhere r closed n;
            profiles = profile_elsewhere r closed n;
            endpoints = endpoint_elsewhere r closed n (bare_child r d (byte ∷ []));
            tree = ((tt, tt), ((tt, tt), tt));
            first = (tt, (root_no_child Egress d (byte ∷ []), (root_no_child Ingress d (byte ∷ []), tt)));
          }) q h rules (sym (has.others q h) ∙ is)

  module _ {X : Type 0} (m : Named X) (new : Names) (writes : plans.Writes) (deletes : List ChainName) (more : HasKeys new m) (replaces : Replaces old new writes deletes) where
    -- after the plan they have the new tree
    pub planned : HasTree r (maps.keys m) (applied writes deletes chains)
    planned = record {
      tree = tree_there m new more (applied writes deletes chains) (replaces.tree chains holds_tree) (λ q h e. replaces.others chains q e ∙ nothing_elsewhere q h e);
      others = λ q h. replaces.others chains q (elsewhere_of q h) ∙ has.others q h;
    }

    -- the endpoints' chains are there
    pub ends_there : ((k : List ℕ) → maps.contains_key m k ≡ true → maps.contains_key r.endpoints k ≡ true) → EndpointsAreThere new chains
    ends_there within d name h =
        ap is_some (has.others (endpoint_chain d name) (endpoint_no_dispatch d name) ∙ endpoint_at r d name)
        ∙ mapped (endpoint_rules d) (maps.get r.endpoints name) (within name (sym (more name) ∙ h))
      where
        mapped : {X Y : Type 0} (f : X → Y) (o : Option X) → is_some o ≡ true → is_some (option_map f o) ≡ true
        mapped f None e = cc
        mapped f (Some x) e = refl

-- no plan deletes the first chain
pub first_stays : (old new : Names) (writes : plans.Writes) (deletes : List ChainName) → ChangesOnly old new writes deletes → AllByRecursion (λ name. forward ≢ name) deletes
first_stays old new writes deletes changed =
    each (λ name. maps.contains_key (plans.tree_of old) name ≡ true) (λ name. forward ≢ name)
    (λ name h same. clash (sym h ∙ ap (λ (q : ChainName). maps.contains_key (plans.tree_of old) q) (sym same) ∙ ap is_some (tree-elsewhere (set.items old) forward (elsewhere_of forward refl)))) deletes changed.stood
  where
    clash : true ≡ false → ⊥
    clash e = cc

-- chains with the view's own tree are the view's
pub whole_again : (r : View) (chains : Chains) → HasTree r (maps.keys r.endpoints) chains → chains ≡ driven_chains r
whole_again r chains has = same_by_get chains (driven_chains r) (λ q. by_test q (is_dispatch q) refl)
  where
    by_test : (q : ChainName) (b : Bool) → is_dispatch q ≡ b → maps.get chains q ≡ maps.get (driven_chains r) q
    by_test q true h = has.tree q h ∙ sym (dispatch_at r q h)
    by_test q false h = has.others q h

-- ---- an endpoint is written before the plan

module _ (s w : View) (k : List ℕ) (e : ViewEndpoint) (wanted : maps.get w.endpoints k ≡ Some e) where
  pub endpoint_written : HasTree (with_endpoint s w k) (maps.keys s.endpoints) (extended (driven_chains s) (endpoint_chains (k, e)))
  endpoint_written =
      let first = maps.insert (driven_chains s) (endpoint_chain Ingress k) (endpoint_rules Ingress e) in
      record {
        tree = λ q h.
            get_insert first (endpoint_chain Egress k) (endpoint_rules Egress e) q
            ∙ ap (λ b. cond b (Some (endpoint_rules Egress e)) (maps.get first q)) (dispatch_not_endpoint q h Egress k)
            ∙ get_insert (driven_chains s) (endpoint_chain Ingress k) (endpoint_rules Ingress e) q
            ∙ ap (λ b. cond b (Some (endpoint_rules Ingress e)) (maps.get (driven_chains s) q)) (dispatch_not_endpoint q h Ingress k)
            ∙ dispatch_at s q h;
        others = λ q h. sym (endpoint_others s w k q h ∙ ap (λ (o : Option ViewEndpoint). maps.get (put_or_removed (put_or_removed (driven_chains s) (endpoint_chain Ingress k) (option_map (endpoint_rules Ingress) o)) (endpoint_chain Egress k) (option_map (endpoint_rules Egress) o)) q) wanted);
      }

-- ---- an endpoint is deleted after the plan

module _ (s w : View) (k : List ℕ) (gone : maps.get w.endpoints k ≡ None) where
  abbrev pub left_keys : List (List ℕ)
  left_keys = maps.keys (taken_from s.endpoints w.endpoints k)

  kept_there : {X : Type 0} (b : Bool) (o : Option X) → is_some (cond b None o) ≡ true → is_some o ≡ true
  kept_there true o h = cc
  kept_there false o h = h

  pub left_within : (j : List ℕ) → maps.contains_key (taken_from s.endpoints w.endpoints k) j ≡ true → maps.contains_key s.endpoints j ≡ true
  left_within j h =
      kept_there (is j k) (maps.get s.endpoints j)
      (sym (ap is_some (get_taken s.endpoints w.endpoints k j ∙ ap (λ (o : Option ViewEndpoint). cond (is j k) o (maps.get s.endpoints j)) gone)) ∙ h)

  not_left : (j : List ℕ) (x : ViewEndpoint) → maps.get (taken_from s.endpoints w.endpoints k) j ≡ Some x → (d e : Direction) → endpoint_chain e j ≢ endpoint_chain d k
  not_left j x there d e same = by_test (is j k) refl
    where
      none_here : None ≡ Some x → ⊥
      none_here p = cc

      other_direction : (d e : Direction) → is j k ≡ false → endpoint_chain e j ≢ endpoint_chain d k
      other_direction Ingress Ingress h = apart (endpoint_chain Ingress j) (endpoint_chain Ingress k) (endpoint_same Ingress j k ∙ h)
      other_direction Egress Egress h = apart (endpoint_chain Egress j) (endpoint_chain Egress k) (endpoint_same Egress j k ∙ h)
      other_direction Ingress Egress h = apart (endpoint_chain Egress j) (endpoint_chain Ingress k) refl
      other_direction Egress Ingress h = apart (endpoint_chain Ingress j) (endpoint_chain Egress k) refl

      by_test : (b : Bool) → is j k ≡ b → ⊥
      by_test true h = none_here (sym (get_taken s.endpoints w.endpoints k j ∙ ap (λ b. cond b (maps.get w.endpoints k) (maps.get s.endpoints j)) h ∙ gone) ∙ there)
      by_test false h = other_direction d e h same

  all_keys : (P : List ℕ → Type 0) (es : List (List ℕ × ViewEndpoint)) → AllByRecursion (λ x. P x.0) es → AllByRecursion P (map (λ x. x.0) es)
  all_keys P [] h = tt
  all_keys P (x ∷ xs) h = (h.0, all_keys P xs h.1)

  none_left : (d : Direction) → AllByRecursion (λ j. (e : Direction) → endpoint_chain e j ≢ endpoint_chain d k) left_keys
  none_left d =
      let m = taken_from s.endpoints w.endpoints k in
      all_keys (λ j. (e : Direction) → endpoint_chain e j ≢ endpoint_chain d k) (maps.entries m)
      (each (λ x. maps.get m x.0 ≡ Some x.1) (λ x. (e : Direction) → endpoint_chain e x.0 ≢ endpoint_chain d k) (λ x h e. not_left x.0 x.1 h d e) (maps.entries m) (entries_found nat_list_cmp_total m))

  -- chains that are those of s, but with the tree of the endpoints that are left
  module _ (closed : IsClosedView s) (chains : Chains) (has : HasTree s left_keys chains) where
    pub endpoint_unused : (d : Direction) → NoneLeadsTo chains (endpoint_chain d k)
    endpoint_unused d =
        let n = endpoint_chain d k in
        all_rules s left_keys chains (AllLeadElsewhere n) has (record {
          policies = policy_elsewhere s closed n;
          profiles = profile_elsewhere s closed n;
          endpoints = endpoint_elsewhere s closed n (bare_endpoint s d k);
          tree = tree_elsewhere n (λ e byte. child_no_endpoint d e k byte) left_keys (none_left d);
          first = (tt, (root_no_endpoint Egress d k, (root_no_endpoint Ingress d k, tt)));
        })

    removed_alike : (a b : Chains) (n m q : ChainName) → maps.get a q ≡ maps.get b q → maps.get (maps.remove (maps.remove a n) m) q ≡ maps.get (maps.remove (maps.remove b n) m) q
    removed_alike a b n m q same =
        get_remove (maps.remove a n) m q ∙ ap (cond (is q m) None) (get_remove a n q)
        ∙ ap (λ o. cond (is q m) None (cond (is q n) None o)) same
        ∙ ap (cond (is q m) None) (sym (get_remove b n q)) ∙ sym (get_remove (maps.remove b n) m q)

    pub endpoint_deleted : maps.remove (maps.remove chains (endpoint_chain Ingress k)) (endpoint_chain Egress k) ≡ driven_chains (with_endpoint s w k)
    endpoint_deleted =
        whole_again (with_endpoint s w k) (maps.remove (maps.remove chains (endpoint_chain Ingress k)) (endpoint_chain Egress k)) (record {
          tree = λ q h.
              get_remove (maps.remove chains (endpoint_chain Ingress k)) (endpoint_chain Egress k) q
              ∙ ap (λ b. cond b None (maps.get (maps.remove chains (endpoint_chain Ingress k)) q)) (dispatch_not_endpoint q h Egress k)
              ∙ get_remove chains (endpoint_chain Ingress k) q
              ∙ ap (λ b. cond b None (maps.get chains q)) (dispatch_not_endpoint q h Ingress k)
              ∙ has.tree q h;
          others = λ q h.
              removed_alike chains (driven_chains s) (endpoint_chain Ingress k) (endpoint_chain Egress k) q (has.others q h)
              ∙ sym (endpoint_others s w k q h ∙ ap (λ (o : Option ViewEndpoint). maps.get (put_or_removed (put_or_removed (driven_chains s) (endpoint_chain Ingress k) (option_map (endpoint_rules Ingress) o)) (endpoint_chain Egress k) (option_map (endpoint_rules Egress) o)) q) gone);
        })
