-- A plan writes what is new or differs, and deletes what was there and is there no more.
use Rattle.std.proofs.Common.{◌≡◌, ◌≢◌, ℕ, Bool, true, false, cond, ◌&&◌, not, List, [], ◌∷◌, ◌++◌, Option, Some, None, is_some, refl, sym, ap, ◌∙◌, subst}
use Rattle.std.specs.Prelude.{if◌then◌else◌, nat_eq, codes}
use Rattle.std.proofs.lemmas.List.{append_cancel_left}
use Rattle.std.specs.List.{AllByRecursion}
use Rattle.std.specs.Ordering.{nat_cmp}
use Rattle.std.specs.Cmp.Lexicographic.{slice_cmp, pointwise}
use Rattle.std.specs.FinMap as maps
use Rattle.std.specs.FinMap.{find}
use Rattle.fx_base.specs.Set as set
use Rattle.fx_base.specs.Same.{both_pass}
use Rattle.fx_base.proofs.Found.{each}
use Rattle.fx_model.specs.declared.chain.Match.{Match}
use Rattle.fx_model.specs.declared.chain.Match.TheVariants as match
use Rattle.fx_model.specs.declared.chain.Target.TheVariants as target
use Rattle.fx_model.specs.declared.chain.Reason.TheVariants as reason
use Rattle.fx_model.specs.declared.chain.ChainRule.{ChainRule}
use Rattle.fx_model.specs.Directions.{Direction, Ingress, Egress}
use Rattle.fx_model.specs.Rendering.{tagged}
use Rattle.fx_model.specs.Tables.{ChainName, end_of, root_of, dispatch_rules}
use Rattle.fx_dispatch.specs.declared.way.Way.{Way}
use Rattle.fx_dispatch.specs.declared.way.Way.TheVariants.{Own, Shared}
use Rattle.fx_dispatch.specs.contracts.way.WayPartialEq.TheImpl as way
use Rattle.fx_model.specs.Tree.{Branch, has_child, child_chain, root_rules, own_rule, prefix_rule}
use Rattle.fx_dispatch.specs.Ways.{root_ways, way_rule, way_rules}
use Rattle.fx_dispatch.specs.Differences.{are_found, has_chain_found, stands}
use Rattle.fx_dispatch.specs.Plans.{Names, tree_of, AllOnce, ChangesOnly}
use Rattle.fx_laws.proofs.Gathering.{bytes-refl, pointwise-refl}
use Rattle.fx_laws.proofs.BranchLemmas.{each_found}
use Rattle.fx_laws.proofs.Uses.{all-append}
use Rattle.fx_laws.proofs.Lines.{or_else, entry_at, given, lines, names_where}
use Rattle.fx_laws.proofs.TreeAt.{child_same, towards, chain_of, tree-root, tree-child}
use Rattle.fx_dispatch.proofs.TreeLookups.{writes-both, is_deleted}
use Rattle.fx_dispatch.proofs.OwnWays.{root-ways}
use Rattle.fx_dispatch.proofs.Written.{ob, nb, writes_between, deletes_between, for_child, for_root}

-- ---- equal rules are of equal names

pub ways-refl : (w : Way) → way.eq-value.it w w ≡ true
ways-refl (Own name) = bytes-refl name
ways-refl (Shared prefix byte) = ap (λ t. t && pointwise nat_eq byte byte) (bytes-refl prefix) ∙ bytes-refl byte

same_head : (x y : ChainRule) (xs ys : List ChainRule) → x ∷ xs ≡ y ∷ ys → (x ≡ y) × (xs ≡ ys)
same_head x y xs ys e = (cc, cc)

drops_not : (d : Direction) (w : Way) → tagged [] target.Drop reason.UnknownInterface ≡ way_rule d w → ⊥
drops_not d (Own name) e = let t : target.Drop ≡ (own_rule d name).target = ap (λ (r : ChainRule). r.target) e in cc
drops_not d (Shared prefix byte) e = let t : target.Drop ≡ (prefix_rule d prefix byte).target = ap (λ (r : ChainRule). r.target) e in cc

iface_of : (e : Match) (f : Match) → e ∷ [] ≡ f ∷ [] → e ≡ f
iface_of e f h = cc

pub same_child_chain : (d : Direction) (b c : List ℕ) → child_chain d b ≡ child_chain d c → b ≡ c
same_child_chain d b c e = append_cancel_left (codes "-") b c (append_cancel_left (root_of d) (codes "-" ++ b) (codes "-" ++ c) e)

same_goto : (a b : ChainName) → target.Goto a ≡ target.Goto b → a ≡ b
same_goto a b e = cc

one_way : (d : Direction) (v w : Way) → way_rule d v ≡ way_rule d w → v ≡ w
one_way d (Own x) (Own y) e =
    let m : match.Iface (end_of d) x false ≡ match.Iface (end_of d) y false = iface_of _ _ (ap (λ (r : ChainRule). r.matches) e) in
    let n : x ≡ y = cc in
    ap Own n
one_way d (Own x) (Shared p b) e =
    let m : match.Iface (end_of d) x false ≡ match.Iface (end_of d) p true = iface_of _ _ (ap (λ (r : ChainRule). r.matches) e) in
    let wrong : false ≡ true = cc in cc
one_way d (Shared p b) (Own y) e =
    let m : match.Iface (end_of d) p true ≡ match.Iface (end_of d) y false = iface_of _ _ (ap (λ (r : ChainRule). r.matches) e) in
    let wrong : true ≡ false = cc in cc
one_way d (Shared p b) (Shared q c) e =
    let m : match.Iface (end_of d) p true ≡ match.Iface (end_of d) q true = iface_of _ _ (ap (λ (r : ChainRule). r.matches) e) in
    let n : p ≡ q = cc in
    let t : b ≡ c = same_child_chain d b c (same_goto _ _ (ap (λ (r : ChainRule). r.target) e)) in
    λ i. Shared (n i) (t i)

same_ways : (d : Direction) (vs ws : List Way) → way_rules d vs ≡ way_rules d ws → vs ≡ ws
same_ways d [] [] e = refl
same_ways d [] (w ∷ ws) e = absurd (drops_not d w (same_head _ _ _ _ e).0)
same_ways d (v ∷ vs) [] e = absurd (drops_not d v (sym (same_head _ _ _ _ e).0))
same_ways d (v ∷ vs) (w ∷ ws) e =
    let h = same_head _ _ (way_rules d vs) (way_rules d ws) e in
    λ i. one_way d v w h.0 i ∷ same_ways d vs ws h.1 i

same_dispatch : (d : Direction) (xs ys : List (List ℕ)) → dispatch_rules d xs ≡ dispatch_rules d ys → xs ≡ ys
same_dispatch d [] [] e = refl
same_dispatch d [] (y ∷ ys) e = absurd (drops_not d (Own y) (same_head _ _ _ _ e).0)
same_dispatch d (x ∷ xs) [] e = absurd (drops_not d (Own x) (sym (same_head _ _ _ _ e).0))
same_dispatch d (x ∷ xs) (y ∷ ys) e =
    let h = same_head (own_rule d x) (own_rule d y) (dispatch_rules d xs) (dispatch_rules d ys) e in
    let w : Own x ≡ Own y = one_way d (Own x) (Own y) h.0 in
    let n : x ≡ y = cc in
    λ i. n i ∷ same_dispatch d xs ys h.1 i

-- ---- what is written differs

differs : (d : Direction) (c : List ℕ) (before : Option (List (List ℕ))) (names : List (List ℕ)) → are_found before names ≡ false → given (chain_of d) c before None ≡ Some (dispatch_rules d names) → ⊥
differs d c None names apart e = cc
differs d c (Some before) names apart e = by_test (has_child c before) e
  where
    by_test : (t : Bool) → or_else (if t then Some (dispatch_rules d before) else None) None ≡ Some (dispatch_rules d names) → ⊥
    by_test true is =
        let rules : dispatch_rules d before ≡ dispatch_rules d names = cc in
        let same : pointwise (pointwise nat_eq) before names ≡ true = ap (pointwise (pointwise nat_eq) before) (sym (same_dispatch d before names rules)) ∙ pointwise-refl (pointwise nat_eq) bytes-refl before in
        cc
    by_test false is = cc

pub not_both : (s t : Bool) → (s && not t) ≡ true → t ≡ false
not_both true true e = cc
not_both true false e = refl
not_both false t e = cc

module _ (old new : Names) where
  abbrev os : List (List ℕ)
  os = set.items old

  abbrev ns : List (List ℕ)
  ns = set.items new

  abbrev Differs : ChainName × List ChainRule → Type 0
  Differs w = maps.get (tree_of old) w.0 ≢ Some w.1

  children_differ : (d : Direction) (bs : List Branch) → AllByRecursion Differs (lines (child_chain d) (child_same d) (for_child os ns d) bs)
  children_differ d [] = tt
  children_differ d (b ∷ bs) =
      all-append Differs (entry_at (child_chain d b.0) (for_child os ns d b)) (lines (child_chain d) (child_same d) (for_child os ns d) bs)
      (elim (has_child b.0 b.1 && not (stands (ob os ns) b)) as (λ t. (has_child b.0 b.1 && not (stands (ob os ns) b)) ≡ t → AllByRecursion Differs (entry_at (child_chain d b.0) (if t then Some (dispatch_rules d b.1) else None))) [
        | true ↦ λ p. (λ e. differs d b.0 (find (slice_cmp nat_cmp) b.0 (ob os ns)) b.1 (not_both _ _ p) (sym (tree-child os d b.0) ∙ e), tt)
        | false ↦ λ p. tt
      ] refl)
      (children_differ d bs)

  root_differs : (d : Direction) → AllByRecursion Differs (entry_at (root_of d) (for_root os ns d))
  root_differs d =
      elim (pointwise way.eq-value.it (root_ways os) (root_ways ns)) as (λ t. pointwise way.eq-value.it (root_ways os) (root_ways ns) ≡ t → AllByRecursion Differs (entry_at (root_of d) (if t then None else Some (way_rules d (root_ways ns))))) [
        | true ↦ λ p. tt
        | false ↦ λ p. (λ e. other p (same_ways d (root_ways os) (root_ways ns) (rules e)), tt)
      ] refl
    where
      other : pointwise way.eq-value.it (root_ways os) (root_ways ns) ≡ false → root_ways os ≡ root_ways ns → ⊥
      other p e =
          let same : pointwise way.eq-value.it (root_ways os) (root_ways ns) ≡ true = ap (pointwise way.eq-value.it (root_ways os)) (sym e) ∙ pointwise-refl way.eq-value.it ways-refl (root_ways os) in
          cc

      given_rules : (x y : List ChainRule) → Some x ≡ Some y → x ≡ y
      given_rules x y e = cc

      rules : maps.get (tree_of old) (root_of d) ≡ Some (way_rules d (root_ways ns)) → way_rules d (root_ways os) ≡ way_rules d (root_ways ns)
      rules e = root-ways d os ∙ given_rules (root_rules d os) (way_rules d (root_ways ns)) (sym (tree-root os d) ∙ e)

  towards_differ : (d : Direction) → AllByRecursion Differs (towards (for_child os ns) (for_root os ns) (nb os ns) d)
  towards_differ d = all-append Differs (lines (child_chain d) (child_same d) (for_child os ns d) (nb os ns)) (entry_at (root_of d) (for_root os ns d)) (children_differ d (nb os ns)) (root_differs d)

  all_differ : AllByRecursion Differs (writes_between os ns)
  all_differ =
      subst (AllByRecursion Differs) (sym (writes-both (ob os ns) (nb os ns) (root_ways os) (root_ways ns)))
      (all-append Differs (towards (for_child os ns) (for_root os ns) (nb os ns) Ingress) (towards (for_child os ns) (for_root os ns) (nb os ns) Egress) (towards_differ Ingress) (towards_differ Egress))

  -- ---- what is deleted was there, and is there no more

  had_chain : (c : List ℕ) (names : List (List ℕ)) (d : Direction) (found : Option (List (List ℕ))) → found ≡ Some names → has_child c names ≡ true → is_some (given (chain_of d) c found None) ≡ true
  had_chain c names d found e h =
      ap (λ f. is_some (given (chain_of d) c f None)) e
      ∙ ap (λ t. is_some (or_else (if t then Some (dispatch_rules d names) else None) None)) h

  no_chain : (c : List ℕ) (d : Direction) (found : Option (List (List ℕ))) → has_chain_found c found ≡ false → is_some (given (chain_of d) c found None) ≡ false
  no_chain c d None h = refl
  no_chain c d (Some names) h = ap (λ t. is_some (or_else (if t then Some (dispatch_rules d names) else None) None)) h

  abbrev Stood : ChainName → Type 0
  Stood name = (maps.contains_key (tree_of old) name ≡ true) × (maps.contains_key (tree_of new) name ≡ false)

  stood : (d : Direction) (bs : List Branch) → AllByRecursion (λ b. find (slice_cmp nat_cmp) b.0 (ob os ns) ≡ Some b.1) bs → AllByRecursion Stood (names_where (child_chain d) (child_same d) (is_deleted (ob os ns) (nb os ns)) bs)
  stood d [] h = tt
  stood d (b ∷ bs) h =
      all-append Stood _ (names_where (child_chain d) (child_same d) (is_deleted (ob os ns) (nb os ns)) bs)
      (elim (is_deleted (ob os ns) (nb os ns) b) as (λ t. is_deleted (ob os ns) (nb os ns) b ≡ t → AllByRecursion Stood (cond t (child_chain d b.0 ∷ []) [])) [
        | true ↦ λ p. (
          (
            ap is_some (tree-child os d b.0) ∙ had_chain b.0 b.1 d _ h.0 (both_pass _ _ p).0,
            ap is_some (tree-child ns d b.0) ∙ no_chain b.0 d _ (not_both _ _ p),
          ),
          tt,
        )
        | false ↦ λ p. tt
      ] refl)
      (stood d bs h.1)

  all_stood : AllByRecursion Stood (deletes_between os ns)
  all_stood =
      let d = λ (e : Direction). names_where (child_chain e) (child_same e) (is_deleted (ob os ns) (nb os ns)) (ob os ns) in
      all-append Stood (d Ingress) (d Egress) (stood Ingress (ob os ns) (each_found _ os)) (stood Egress (ob os ns) (each_found _ os))

  pub changes_once : AllOnce (writes_between os ns) → ChangesOnly old new (writes_between os ns) (deletes_between os ns)
  changes_once once = record {
    once = once;
    differ = all_differ;
    stood = each Stood (λ name. maps.contains_key (tree_of old) name ≡ true) (λ name h. h.0) (deletes_between os ns) all_stood;
    gone = each Stood (λ name. maps.contains_key (tree_of new) name ≡ false) (λ name h. h.1) (deletes_between os ns) all_stood;
  }
