-- Where a byte's chain stays, a name that comes or goes is one rule more in it or one rule less, and nothing else differs.
use Rattle.std.proofs.Common.{◌≡◌, ◌≢◌, ◌≤◌, ◌<◌, ℕ, suc, Bool, true, false, cond, ◌&&◌, not, List, [], ◌∷◌, ◌++◌, length, Option, Some, None, refl, sym, ap, ◌∙◌, subst, nat_lt, arith}
use Rattle.std.proofs.lemmas.Bool.Decides.{nat_tests}
use Rattle.std.specs.Prelude.{if◌then◌else◌, nat_eq}
use Rattle.std.specs.List.{flat_map, insert, remove}
use Rattle.std.specs.Ordering.{nat_cmp}
use Rattle.std.specs.Cmp.Lexicographic.{slice_cmp, pointwise}
use Rattle.std.specs.FinMap as maps
use Rattle.std.specs.FinMap.{find, entries, get-entries}
use Rattle.fx_base.specs.Set as set
use Rattle.fx_base.proofs.AtKey.{insert_same_bytes}
use Rattle.fx_base.specs.Same.{both_pass}
use Rattle.fx_model.specs.declared.chain.ChainRule.{ChainRule}
use Rattle.fx_model.specs.Directions.{Direction, Ingress, Egress}
use Rattle.fx_model.specs.Machine.{rules_found, rules_in}
use Rattle.fx_model.specs.Tables.{ChainName, Chains, root_of, dispatch_rules}
use Rattle.fx_model.specs.Tree.{Branch, branches, has_child, names_found, next_byte, child_chain, child_entry, own_rule, tree_of}
use Rattle.fx_laws.proofs.Gathering.{pointwise-refl}
use Rattle.fx_laws.proofs.Lines.{or_else, given}
use Rattle.fx_laws.proofs.TreeAt.{chain_of, tree-child}
use Rattle.fx_dispatch.specs.declared.edit.Edit.{Edit}
use Rattle.fx_dispatch.specs.declared.edit.Edit.TheVariants as edit
use Rattle.fx_dispatch.specs.declared.tree.Tree.{Tree}
use Rattle.fx_dispatch.specs.declared.way.Way.{Way}
use Rattle.fx_dispatch.specs.declared.way.Way.TheVariants.{Own, Shared}
use Rattle.fx_dispatch.specs.contracts.way.WayPartialEq.TheImpl as way
use Rattle.fx_dispatch.specs.Beside.{BranchMap, begins, has_more, left_out, place_in, too_few, with_branch, with_placed, ways_above, ways_below, ways_with}
use Rattle.fx_dispatch.specs.Differences.{are_found, child_write, has_chain, root_write, delete_at, stands, all_writes, all_deletes}
use Rattle.fx_dispatch.specs.Edits.{writes_in, deletes_in, HasPlaces}
use Rattle.fx_dispatch.specs.Laid.{branches_of, IsTreeOf, IsRegrouped, IsEdit}
use Rattle.fx_dispatch.specs.Plans.{Names, Writes}
use Rattle.fx_dispatch.specs.Ways.{branch_ways, root_ways, way_rules}
use Rattle.fx_dispatch.proofs.Changed.{ways-refl}
use Rattle.fx_dispatch.proofs.LaidLemmas.{root_with, tree_with, written_one, deleted_one}
use Rattle.fx_dispatch.proofs.OneBranch.{no_child, none_then}
use Rattle.fx_dispatch.proofs.OneMore.{HasChain, chain_of_more, lower, higher, placed, longer, place_new, taken, shorter, place_old, place_inside, rule_more, rule_less, rules_long, first_shorter, child_of_two, few_placed, few_of_two, told_apart}
use Rattle.fx_dispatch.proofs.Regrouped.{regrouped_came, regrouped_went, found_absent, found_there}

-- ---- a byte has a chain of these names before, and of those after

module _ (tree : Tree) (os ns : List (List ℕ)) (byte : List ℕ) (names ys : List (List ℕ)) (held : IsTreeOf tree os) (moved : IsRegrouped tree byte ys ns) (found : maps.get tree.branches byte ≡ Some names) (had : has_child byte names ≡ true) (has : has_child byte ys ≡ true) (other : names ≢ ys) where
  abbrev p : List ℕ
  p = tree.shared

  found_in : find (slice_cmp nat_cmp) byte (entries tree.branches) ≡ Some names
  found_in = sym (get-entries tree.branches byte) ∙ found

  -- the rules that stood
  pub stood : (d : Direction) → rules_in (tree_of os) (child_chain d byte) ≡ dispatch_rules d names
  stood d =
      ap rules_found (tree-child os d byte ∙ ap (λ o. given (chain_of d) byte o None) (ap (find (slice_cmp nat_cmp) byte) (sym held.branches_are) ∙ found_in))
      ∙ ap (λ t. rules_found (or_else (if t then Some (dispatch_rules d names) else None) None)) had

  -- ---- the root stays

  with_these : with_branch byte names tree.branches ≡ tree.branches
  with_these = by_names names had found
    where
      by_names : (zs : List (List ℕ)) → has_child byte zs ≡ true → maps.get tree.branches byte ≡ Some zs → with_branch byte zs tree.branches ≡ tree.branches
      by_names [] h e = let wrong : false ≡ true = sym (no_child byte) ∙ h in cc
      by_names (z ∷ zs) h e = insert_same_bytes tree.branches byte (z ∷ zs) e

  unmoved : IsRegrouped tree byte names os
  unmoved = record {
    shares = sym held.shared_is;
    parts = ap entries with_these ∙ held.branches_are ∙ ap (λ q. branches q os) (sym held.shared_is);
  }

  one_way : (zs : List (List ℕ)) → has_child byte zs ≡ true → branch_ways p (byte, zs) ≡ Shared (p ++ byte) byte ∷ []
  one_way zs h = ap (λ (t : Bool). if t then shared else own) h
    where
      shared : List Way
      shared = Shared (p ++ byte) byte ∷ []

      own : List Way
      own = branch_own zs
        where
          branch_own : List (List ℕ) → List Way
          branch_own [] = []
          branch_own (z ∷ more) = Own z ∷ branch_own more

  same_ways : ways_with p (entries tree.branches) byte names ≡ ways_with p (entries tree.branches) byte ys
  same_ways = ap (λ ws. ways_below p byte (entries tree.branches) ++ (ws ++ ways_above p byte (entries tree.branches))) (one_way names had ∙ sym (one_way ys has))

  root_stays : root_ways os ≡ root_ways ns
  root_stays = sym (root_with tree os os byte names held unmoved) ∙ same_ways ∙ root_with tree os ns byte ys held moved

  root_unwritten : (d : Direction) → root_write d (root_ways os) (root_ways ns) ≡ []
  root_unwritten d =
      ap (λ (ws : List Way). if pointwise way.eq-value.it (root_ways os) ws then [] else (root_of d, way_rules d ws) ∷ []) (sym root_stays)
      ∙ ap (λ (t : Bool). if t then none else (root_of d, way_rules d (root_ways os)) ∷ []) (pointwise-refl way.eq-value.it ways-refl (root_ways os))
    where
      none : Writes
      none = []

  -- ---- the byte's chain is written, and none is deleted

  differs : stands (entries tree.branches) (byte, ys) ≡ false
  differs = ap (λ o. are_found o ys) found_in ∙ told_apart names ys other

  child_written : (d : Direction) → child_write d (entries tree.branches) (byte, ys) ≡ child_entry d (byte, ys) ∷ []
  child_written d = λ i. if has i && not (differs i) then child_entry d (byte, ys) ∷ [] else []

  none_deleted : (d : Direction) → delete_at d (entries tree.branches) byte ys ≡ []
  none_deleted d =
      ap (λ (t : Bool). if has_chain (entries tree.branches) byte && not t then child_chain d byte ∷ [] else []) has
      ∙ none_then (has_chain (entries tree.branches) byte) (child_chain d byte ∷ [])

  pub edit_of : (e : Edit) → writes_in (tree_of os) e ≡ child_entry Ingress (byte, ys) ∷ child_entry Egress (byte, ys) ∷ [] → deletes_in e ≡ [] → HasPlaces (tree_of os) e → IsEdit os ns e
  edit_of e writes deletes places = record {
    writes_are = writes
        ∙ sym (λ i. (child_written Ingress i ++ root_unwritten Ingress i) ++ (child_written Egress i ++ root_unwritten Egress i))
        ∙ (λ i. (written_one tree os ns byte ys held moved Ingress i ++ root_write Ingress (root_ways os) (root_ways ns)) ++ (written_one tree os ns byte ys held moved Egress i ++ root_write Egress (root_ways os) (root_ways ns)));
    deletes_are = deletes
        ∙ sym (λ i. none_deleted Ingress i ++ none_deleted Egress i)
        ∙ (λ i. deleted_one tree os ns byte ys held moved Ingress i ++ deleted_one tree os ns byte ys held moved Egress i);
    places_are = places;
  }

  pub tree_after : (now : BranchMap) → now ≡ with_branch byte ys tree.branches → IsTreeOf (record tree { branches = now }) ns
  tree_after now is =
      tree_with tree os ns byte ys held moved (record tree { branches = now }) refl
      (held.root_is ∙ sym (root_with tree os os byte names held unmoved) ∙ same_ways) is

-- ---- a name that comes

module _ (tree : Tree) (s : Names) (x b : List ℕ) (held : IsTreeOf tree (set.items s)) (follows : b ≡ next_byte tree.shared x) where
  abbrev found : List (List ℕ)
  found = names_found (maps.get tree.branches b)

  abbrev os : List (List ℕ)
  os = set.items s

  module _ (absent : set.contains s x ≡ false) (room : (begins x tree.shared && has_more 1 b tree.branches) ≡ true) where
    chain : HasChain 1 b tree.branches
    chain = chain_of_more 1 b tree.branches (both_pass (begins x tree.shared) (has_more 1 b tree.branches) room).1

    parted : found ≡ left_out x found
    parted = found_absent tree s x held b follows absent

    abbrev ns : List (List ℕ)
    ns = set.items (set.insert s x)

    abbrev ys : List (List ℕ)
    ys = with_placed x found

    two : 2 ≤ length ys
    two = let n = longer x found parted in let m = chain.long in grind (arith, nat_tests, n, m)

    has : has_child b ys ≡ true
    has = child_of_two b found ys chain.child two

    other : found ≢ ys
    other e = let n = longer x found parted in let m = ap length e in omega (arith, n, m)

    moved : IsRegrouped tree b ys ns
    moved =
        regrouped_came tree s x held b ys follows refl
        (λ i. (both_pass (begins x tree.shared) (has_more 1 b tree.branches) room).0 i && (ap (λ n. nat_lt n (maps.len tree.branches)) (few_placed x (lower x found) (higher x found)) ∙ chain.beside) i)

    pub there_already : maps.get tree.branches b ≡ Some found
    there_already = chain.there

    more_written : (d : Direction) (place : ℕ) (rule : ChainRule) → place ≡ place_in x found → rule ≡ own_rule d x → insert (rules_in (tree_of os) (child_chain d b)) place rule ≡ dispatch_rules d ys
    more_written d place rule at is =
        let first : place ≡ length (lower x found) = at ∙ place_new x found parted in
        (λ i. insert (stood tree os ns b found ys held moved chain.there chain.child has other d i) (first i) (is i))
        ∙ ap (λ (zs : List (List ℕ)). insert (dispatch_rules d zs) (length (lower x found)) (own_rule d x)) parted
        ∙ rule_more d (lower x found) (higher x found) x

    more_place : (d : Direction) (place : ℕ) → place ≡ place_in x found → place < length (rules_in (tree_of os) (child_chain d b))
    more_place d place at =
        let first : place ≡ length (lower x found) = at ∙ place_new x found parted in
        let within : length (lower x found) ≤ length found = subst (λ (zs : List (List ℕ)). length (lower x found) ≤ length zs) (sym parted) (first_shorter (lower x found) (higher x found)) in
        let long = ap length (stood tree os ns b found ys held moved chain.there chain.child has other d) ∙ rules_long d found in
        omega (arith, first, within, long)

    pub more_edit : (place : ℕ) (to from : ChainRule) → place ≡ place_in x found → to ≡ own_rule Ingress x → from ≡ own_rule Egress x → IsEdit os ns (edit.RuleMore b place to from)
    more_edit place to from at is_to is_from =
        edit_of tree os ns b found ys held moved chain.there chain.child has other (edit.RuleMore b place to from)
        (λ i. (child_chain Ingress b, more_written Ingress place to at is_to i) ∷ (child_chain Egress b, more_written Egress place from at is_from i) ∷ [])
        refl (λ d. more_place d place at)

    pub more_tree : (now : BranchMap) (place : ℕ) → place ≡ place_in x found → now ≡ maps.insert tree.branches b (insert found place x) → IsTreeOf (record tree { branches = now }) ns
    more_tree now place at is =
        tree_after tree os ns b found ys held moved chain.there chain.child has other now
        (is ∙ ap (maps.insert tree.branches b) (ap (λ n. insert found n x) at ∙ placed x found parted) ∙ sym (some_put (lower x found) (higher x found)))
      where
        some_put : (a c : List (List ℕ)) → with_branch b (a ++ x ∷ c) tree.branches ≡ maps.insert tree.branches b (a ++ x ∷ c)
        some_put [] c = refl
        some_put (y ∷ a) c = refl

  -- ---- a name that goes

  module _ (there : set.contains s x ≡ true) (more : has_more 2 b tree.branches ≡ true) where
    chain_left : HasChain 2 b tree.branches
    chain_left = chain_of_more 2 b tree.branches more

    around : found ≡ with_placed x found
    around = found_there tree s x held b follows there

    abbrev ms : List (List ℕ)
    ms = set.items (set.remove s x)

    abbrev zs : List (List ℕ)
    zs = left_out x found

    two_left : 2 ≤ length zs
    two_left = let n = shorter x found around in let m = chain_left.long in grind (arith, nat_tests, n, m)

    has_left : has_child b zs ≡ true
    has_left = child_of_two b found zs chain_left.child two_left

    other_left : found ≢ zs
    other_left e = let n = shorter x found around in let m = ap length e in omega (arith, n, m)

    moved_left : IsRegrouped tree b zs ms
    moved_left = regrouped_went tree s x held b zs follows refl (ap (λ n. nat_lt n (maps.len tree.branches)) (few_of_two zs two_left) ∙ chain_left.beside)

    pub there_before : maps.get tree.branches b ≡ Some found
    there_before = chain_left.there

    pub inside : (place : ℕ) → place ≡ place_in x found → place < length found
    inside place at = let h = place_inside x found around in omega (arith, at, h)

    less_written : (d : Direction) (place : ℕ) → place ≡ place_in x found → remove (rules_in (tree_of os) (child_chain d b)) place ≡ dispatch_rules d zs
    less_written d place at =
        let first : place ≡ length (lower x found) = at ∙ place_old x found around in
        (λ i. remove (stood tree os ms b found zs held moved_left chain_left.there chain_left.child has_left other_left d i) (first i))
        ∙ ap (λ (ns : List (List ℕ)). remove (dispatch_rules d ns) (length (lower x found))) around
        ∙ rule_less d (lower x found) (higher x found) x

    less_place : (d : Direction) (place : ℕ) → place ≡ place_in x found → place < length (rules_in (tree_of os) (child_chain d b))
    less_place d place at =
        let h = inside place at in
        let long = ap length (stood tree os ms b found zs held moved_left chain_left.there chain_left.child has_left other_left d) ∙ rules_long d found in
        omega (arith, h, long)

    pub less_edit : (place : ℕ) → place ≡ place_in x found → IsEdit os ms (edit.RuleLess b place)
    less_edit place at =
        edit_of tree os ms b found zs held moved_left chain_left.there chain_left.child has_left other_left (edit.RuleLess b place)
        (λ i. (child_chain Ingress b, less_written Ingress place at i) ∷ (child_chain Egress b, less_written Egress place at i) ∷ [])
        refl (λ d. less_place d place at)

    pub less_tree : (now : BranchMap) (place : ℕ) → place ≡ place_in x found → now ≡ maps.insert tree.branches b (remove found place) → IsTreeOf (record tree { branches = now }) ms
    less_tree now place at is =
        tree_after tree os ms b found zs held moved_left chain_left.there chain_left.child has_left other_left now
        (is ∙ ap (maps.insert tree.branches b) (ap (remove found) at ∙ taken x found around) ∙ sym (some_left zs two_left))
      where
        some_left : (ks : List (List ℕ)) → 2 ≤ length ks → with_branch b ks tree.branches ≡ maps.insert tree.branches b ks
        some_left [] h = absurd (omega (arith, h))
        some_left (k ∷ ks) h = refl
