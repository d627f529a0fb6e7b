-- A plan that is carried out puts one tree in the place of the other.
use Rattle.std.proofs.Common.{◌≡◌, ℕ, Bool, true, false, cond, ◌&&◌, not, List, Option, Some, None, refl, sym, ap, ◌∙◌}
use Rattle.std.specs.Prelude.{if◌then◌else◌, nat_eq}
use Rattle.std.specs.Ordering.{nat_cmp}
use Rattle.std.specs.Cmp.Lexicographic.{slice_cmp, pointwise}
use Rattle.std.specs.FinMap as maps
use Rattle.std.specs.FinMap.{find}
use Rattle.fx_base.specs.Extended.{extended}
use Rattle.fx_base.specs.Set as set
use Rattle.fx_base.specs.Same.{same_bytes, same_list}
use Rattle.fx_base.proofs.ExtendedKeys.{is_among}
use Rattle.fx_model.specs.declared.chain.ChainRule.{ChainRule}
use Rattle.fx_model.specs.Directions.{Direction}
use Rattle.fx_model.specs.Tables.{ChainName, Chains, root_of, dispatch_rules}
use Rattle.fx_dispatch.specs.SameWays.{same_way}
use Rattle.fx_dispatch.specs.contracts.way.WayPartialEq.TheImpl as way
use Rattle.fx_model.specs.Tree.{Branch, has_child, child_chain, root_rules, HoldsTree}
use Rattle.fx_dispatch.specs.Ways.{root_ways, way_rules}
use Rattle.fx_dispatch.specs.Differences.{are_found, has_chain_found, all_writes, all_deletes}
use Rattle.fx_dispatch.specs.Plans.{Names, applied, Replaces}
use Rattle.fx_laws.specs.DispatchNames.{IsElsewhere}
use Rattle.fx_laws.proofs.EntryLookups.{last}
use Rattle.fx_laws.proofs.Lines.{get-extended, or_else, holds_at, given}
use Rattle.fx_dispatch.proofs.Lookups.{get-without}
use Rattle.fx_laws.proofs.TreeAt.{both, both-root, both-child, both-elsewhere, chain_of, branches_in, in_order, tree-root, tree-child}
use Rattle.fx_dispatch.proofs.TreeLookups.{written_for, written_root, writes-both, is_deleted, deletes-root, deletes-child, deletes-elsewhere}
use Rattle.fx_dispatch.proofs.OwnWays.{root-ways}

-- a branch's chain after the plan, by whether it had one before, is to have one, and has the same names
chain_after : (had has same : Bool) (before after : List ChainRule) → (same ≡ true → (had ≡ has) × (before ≡ after)) →
    cond (had && not has) None (or_else (if has && not same then Some after else None) (or_else (if had then Some before else None) None)) ≡ or_else (if has then Some after else None) None
chain_after true true true before after f = ap Some (f refl).1
chain_after true true false before after f = refl
chain_after true false true before after f = refl
chain_after true false false before after f = refl
chain_after false true true before after f = let wrong : false ≡ true = (f refl).0 in cc
chain_after false true false before after f = refl
chain_after false false true before after f = refl
chain_after false false false before after f = refl

new_chain : (has : Bool) (after : List ChainRule) → or_else (if has && true then Some after else None) None ≡ or_else (if has then Some after else None) None
new_chain true after = refl
new_chain false after = refl

old_chain : (had : Bool) (before : List ChainRule) → cond (had && true) None (or_else (if had then Some before else None) None) ≡ None
old_chain true before = refl
old_chain false before = refl

pub same_names : (xs ys : List (List ℕ)) → pointwise (pointwise nat_eq) xs ys ≡ true → xs ≡ ys
same_names xs ys e = same_list (pointwise nat_eq) same_bytes xs ys e

module _ (os ns : List (List ℕ)) where
  abbrev pub ob : List Branch
  ob = branches_in os

  abbrev pub nb : List Branch
  nb = branches_in ns

  abbrev pub writes_between : List (ChainName × List ChainRule)
  writes_between = all_writes ob nb (root_ways os) (root_ways ns)

  abbrev pub deletes_between : List ChainName
  deletes_between = all_deletes ob nb

  abbrev pub for_child : Direction → Branch → Option (List ChainRule)
  for_child = written_for ob nb (root_ways os) (root_ways ns)

  abbrev pub for_root : Direction → Option (List ChainRule)
  for_root = written_root ob nb (root_ways os) (root_ways ns)

  pub after-writes : (m : Chains) (q : ChainName) → maps.get (extended m writes_between) q ≡ last (both for_child for_root nb) q (maps.get m q)
  after-writes m q = get-extended m writes_between q ∙ ap (λ es. last es q (maps.get m q)) (writes-both ob nb (root_ways os) (root_ways ns))

  after : (m : Chains) (q : ChainName) → maps.get (applied writes_between deletes_between m) q ≡ cond (is_among q deletes_between) None (last (both for_child for_root nb) q (maps.get m q))
  after m q = get-without (extended m writes_between) deletes_between q ∙ ap (cond (is_among q deletes_between) None) (after-writes m q)

  -- ---- the roots

  root_case : (d : Direction) → or_else (for_root d) (Some (root_rules d os)) ≡ Some (root_rules d ns)
  root_case d =
      elim (pointwise way.eq-value.it (root_ways os) (root_ways ns)) as (λ t. pointwise way.eq-value.it (root_ways os) (root_ways ns) ≡ t → or_else (if t then None else Some (way_rules d (root_ways ns))) (Some (root_rules d os)) ≡ Some (root_rules d ns)) [
        | true ↦ λ p. ap Some (sym (root-ways d os) ∙ ap (way_rules d) (same_list way.eq-value.it same_way (root_ways os) (root_ways ns) p) ∙ root-ways d ns)
        | false ↦ λ p. ap Some (root-ways d ns)
      ] refl

  pub root-written : (m : Chains) (d : Direction) → maps.get m (root_of d) ≡ Some (root_rules d os) → maps.get (extended m writes_between) (root_of d) ≡ Some (root_rules d ns)
  root-written m d h = after-writes m (root_of d) ∙ both-root for_child for_root nb d (maps.get m (root_of d)) ∙ ap (or_else (for_root d)) h ∙ root_case d

  root-after : (m : Chains) (d : Direction) → maps.get m (root_of d) ≡ Some (root_rules d os) → maps.get (applied writes_between deletes_between m) (root_of d) ≡ Some (root_rules d ns)
  root-after m d h =
      get-without (extended m writes_between) deletes_between (root_of d)
      ∙ ap (λ t. cond t None (maps.get (extended m writes_between) (root_of d))) (deletes-root ob nb d)
      ∙ root-written m d h

  -- ---- the chains of bytes

  pub child-written : (m : Chains) (d : Direction) (c : List ℕ) → maps.get (extended m writes_between) (child_chain d c) ≡ given (for_child d) c (find (slice_cmp nat_cmp) c nb) (maps.get m (child_chain d c))
  child-written m d c = after-writes m (child_chain d c) ∙ both-child for_child for_root nb (in_order ns) d c (maps.get m (child_chain d c))

  child_case : (d : Direction) (c : List ℕ) (before after : Option (List (List ℕ))) → find (slice_cmp nat_cmp) c ob ≡ before → find (slice_cmp nat_cmp) c nb ≡ after →
      cond (holds_at (is_deleted ob nb) c before) None (given (for_child d) c after (given (chain_of d) c before None)) ≡ given (chain_of d) c after None
  child_case d c None None e f = refl
  child_case d c None (Some names) e f =
      ap (λ o. or_else (if has_child c names && not (are_found o names) then Some (dispatch_rules d names) else None) None) e
      ∙ new_chain (has_child c names) (dispatch_rules d names)
  child_case d c (Some before) None e f =
      ap (λ o. cond (has_child c before && not (has_chain_found c o)) None (or_else (if has_child c before then Some (dispatch_rules d before) else None) None)) f
      ∙ old_chain (has_child c before) (dispatch_rules d before)
  child_case d c (Some before) (Some names) e f =
      ap (λ o. cond (has_child c before && not (has_chain_found c o)) None (or_else (if has_child c names && not (are_found (find (slice_cmp nat_cmp) c ob) names) then Some (dispatch_rules d names) else None) (or_else (if has_child c before then Some (dispatch_rules d before) else None) None))) f
      ∙ ap (λ o. cond (has_child c before && not (has_child c names)) None (or_else (if has_child c names && not (are_found o names) then Some (dispatch_rules d names) else None) (or_else (if has_child c before then Some (dispatch_rules d before) else None) None))) e
      ∙ chain_after (has_child c before) (has_child c names) (pointwise (pointwise nat_eq) before names) (dispatch_rules d before) (dispatch_rules d names)
      (λ p. (ap (has_child c) (same_names before names p), ap (dispatch_rules d) (same_names before names p)))

  child-after : (m : Chains) (d : Direction) (c : List ℕ) → maps.get m (child_chain d c) ≡ given (chain_of d) c (find (slice_cmp nat_cmp) c ob) None →
      maps.get (applied writes_between deletes_between m) (child_chain d c) ≡ given (chain_of d) c (find (slice_cmp nat_cmp) c nb) None
  child-after m d c h =
      get-without (extended m writes_between) deletes_between (child_chain d c)
      ∙ ap (λ t. cond t None (maps.get (extended m writes_between) (child_chain d c))) (deletes-child ob nb (in_order os) d c)
      ∙ ap (cond (holds_at (is_deleted ob nb) c (find (slice_cmp nat_cmp) c ob)) None)
      (child-written m d c ∙ ap (given (for_child d) c (find (slice_cmp nat_cmp) c nb)) h)
      ∙ child_case d c (find (slice_cmp nat_cmp) c ob) (find (slice_cmp nat_cmp) c nb) refl refl

  -- ---- all else

  pub elsewhere-written : (m : Chains) (q : ChainName) → IsElsewhere q → maps.get (extended m writes_between) q ≡ maps.get m q
  elsewhere-written m q h = after-writes m q ∙ both-elsewhere for_child for_root nb q h (maps.get m q)

  elsewhere-after : (m : Chains) (q : ChainName) → IsElsewhere q → maps.get (applied writes_between deletes_between m) q ≡ maps.get m q
  elsewhere-after m q h =
      get-without (extended m writes_between) deletes_between q
      ∙ ap (λ t. cond t None (maps.get (extended m writes_between) q)) (deletes-elsewhere ob nb q h)
      ∙ elsewhere-written m q h

pub old_root : (old : Names) (m : Chains) → HoldsTree (set.items old) m → (d : Direction) → maps.get m (root_of d) ≡ Some (root_rules d (set.items old))
old_root old m h d = h.roots d ∙ tree-root (set.items old) d

pub old_child : (old : Names) (m : Chains) → HoldsTree (set.items old) m → (d : Direction) (c : List ℕ) → maps.get m (child_chain d c) ≡ given (chain_of d) c (find (slice_cmp nat_cmp) c (branches_in (set.items old))) None
old_child old m h d c = h.children d c ∙ tree-child (set.items old) d c

pub replaces : (old new : Names) → Replaces old new (writes_between (set.items old) (set.items new)) (deletes_between (set.items old) (set.items new))
replaces old new =
    let os = set.items old in
    let ns = set.items new in
    record {
      tree = λ m h. record {
        roots = λ d. root-after os ns m d (old_root old m h d) ∙ sym (tree-root ns d);
        children = λ d c. child-after os ns m d c (old_child old m h d c) ∙ sym (tree-child ns d c);
      };
      others = λ m q h. elsewhere-after os ns m q h;
    }
