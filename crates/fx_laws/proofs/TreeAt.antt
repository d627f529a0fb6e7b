-- What stands at the names of a tree's chains.
use Rattle.std.proofs.Common.{◌≡◌, ℕ, true, false, cond, List, [], ◌∷◌, ◌++◌, map, filter, Option, Some, None, refl, sym, ap, ◌∙◌}
use Rattle.std.specs.Prelude.{T, if◌then◌else◌}
use Rattle.std.specs.Ordering.{nat_cmp}
use Rattle.std.specs.Cmp.Lexicographic.{slice_cmp, texts_ties}
use Rattle.std.specs.FinMap as maps
use Rattle.std.specs.FinMap.{find, is_sorted}
use Rattle.fx_base.specs.Extended.{collected}
use Rattle.fx_model.specs.declared.chain.ChainRule.{ChainRule}
use Rattle.fx_model.specs.Directions.{Direction, Ingress, Egress}
use Rattle.fx_model.specs.Tables.{ChainName, root_of, dispatch_rules}
use Rattle.fx_model.specs.Tree.{Branch, shared_prefix, branches, has_child, child_chain, child_entry, root_rules, dispatch_chains_of}
use Rattle.fx_laws.specs.DispatchNames.{IsElsewhere}
use Rattle.fx_laws.proofs.Gathering.{is, branches-sorted}
use Rattle.fx_laws.proofs.Lines.{last, last-append, get-collected, or_else, entry_at, last-entry, given, lines, last-lines, past-lines}

-- ---- names of dispatch chains

pub child_same : (d : Direction) (c k : List ℕ) → is (child_chain d c) (child_chain d k) ≡ is c k
child_same Ingress c k = refl
child_same Egress c k = refl

pub child_no_root : (d : Direction) (c : List ℕ) → is (child_chain d c) (root_of d) ≡ false
child_no_root Ingress c = refl
child_no_root Egress c = refl

root_no_child : (d : Direction) (c : List ℕ) → is (root_of d) (child_chain d c) ≡ false
root_no_child Ingress c = refl
root_no_child Egress c = refl

root_itself : (d : Direction) → is (root_of d) (root_of d) ≡ true
root_itself Ingress = refl
root_itself Egress = refl

pub not_root : (name : ChainName) → IsElsewhere name → (d : Direction) → is name (root_of d) ≡ false
not_root name h d = sym (texts_ties name (root_of d)) ∙ h.roots d

pub not_child : (name : ChainName) → IsElsewhere name → (d : Direction) (c : List ℕ) → is name (child_chain d c) ≡ false
not_child name h d c = sym (texts_ties name (child_chain d c)) ∙ h.children d c

-- ---- chains of both directions, where g gives the rules for a branch, and x those of the root

module _ (g : Direction → Branch → Option (List ChainRule)) (x : Direction → Option (List ChainRule)) (bs : List Branch) where
  abbrev pub towards : Direction → List (ChainName × List ChainRule)
  towards d = lines (child_chain d) (child_same d) (g d) bs ++ entry_at (root_of d) (x d)

  abbrev pub both : List (ChainName × List ChainRule)
  both = towards Ingress ++ towards Egress

  at_past : (d : Direction) (q : ChainName) (o : Option (List ChainRule)) → is q (root_of d) ≡ false → ((c : List ℕ) → is q (child_chain d c) ≡ false) → last (towards d) q o ≡ o
  at_past d q o root child =
      last-append (lines (child_chain d) (child_same d) (g d) bs) (entry_at (root_of d) (x d)) q o
      ∙ ap (last (entry_at (root_of d) (x d)) q) (past-lines (child_chain d) (child_same d) (g d) bs q o child)
      ∙ last-entry (root_of d) q (x d) o ∙ ap (λ t. cond t (or_else (x d) o) o) root

  at_root : (d : Direction) (o : Option (List ChainRule)) → last (towards d) (root_of d) o ≡ or_else (x d) o
  at_root d o =
      last-append (lines (child_chain d) (child_same d) (g d) bs) (entry_at (root_of d) (x d)) (root_of d) o
      ∙ ap (last (entry_at (root_of d) (x d)) (root_of d)) (past-lines (child_chain d) (child_same d) (g d) bs (root_of d) o (root_no_child d))
      ∙ last-entry (root_of d) (root_of d) (x d) o ∙ ap (λ t. cond t (or_else (x d) o) o) (root_itself d)

  -- the chains of one direction leave those of the other
  pub other_child : (c : List ℕ) (o : Option (List ChainRule)) → (last (towards Ingress) (child_chain Egress c) o ≡ o) × (last (towards Egress) (child_chain Ingress c) o ≡ o)
  other_child c o = (at_past Ingress (child_chain Egress c) o refl (λ k. refl), at_past Egress (child_chain Ingress c) o refl (λ k. refl))

  pub other_root : (o : Option (List ChainRule)) → (last (towards Ingress) (root_of Egress) o ≡ o) × (last (towards Egress) (root_of Ingress) o ≡ o)
  other_root o = (at_past Ingress (root_of Egress) o refl (λ k. refl), at_past Egress (root_of Ingress) o refl (λ k. refl))

  pub both-elsewhere : (q : ChainName) → IsElsewhere q → (o : Option (List ChainRule)) → last both q o ≡ o
  both-elsewhere q h o =
      last-append (towards Ingress) (towards Egress) q o
      ∙ ap (last (towards Egress) q) (at_past Ingress q o (not_root q h Ingress) (not_child q h Ingress))
      ∙ at_past Egress q o (not_root q h Egress) (not_child q h Egress)

  pub both-root : (d : Direction) (o : Option (List ChainRule)) → last both (root_of d) o ≡ or_else (x d) o
  both-root Ingress o = last-append (towards Ingress) (towards Egress) (root_of Ingress) o ∙ (other_root (last (towards Ingress) (root_of Ingress) o)).1 ∙ at_root Ingress o
  both-root Egress o = last-append (towards Ingress) (towards Egress) (root_of Egress) o ∙ ap (last (towards Egress) (root_of Egress)) (other_root o).0 ∙ at_root Egress o

  module _ (sorted : T (is_sorted (slice_cmp nat_cmp) bs)) where
    pub lines-child : (d : Direction) (c : List ℕ) (o : Option (List ChainRule)) → last (lines (child_chain d) (child_same d) (g d) bs) (child_chain d c) o ≡ given (g d) c (find (slice_cmp nat_cmp) c bs) o
    lines-child d c o = last-lines (child_chain d) (child_same d) (g d) bs sorted c o

    at_child : (d : Direction) (c : List ℕ) (o : Option (List ChainRule)) → last (towards d) (child_chain d c) o ≡ given (g d) c (find (slice_cmp nat_cmp) c bs) o
    at_child d c o =
        last-append (lines (child_chain d) (child_same d) (g d) bs) (entry_at (root_of d) (x d)) (child_chain d c) o
        ∙ last-entry (root_of d) (child_chain d c) (x d) (last (lines (child_chain d) (child_same d) (g d) bs) (child_chain d c) o)
        ∙ ap (λ t. cond t (or_else (x d) (last (lines (child_chain d) (child_same d) (g d) bs) (child_chain d c) o)) (last (lines (child_chain d) (child_same d) (g d) bs) (child_chain d c) o)) (child_no_root d c)
        ∙ lines-child d c o

    pub both-child : (d : Direction) (c : List ℕ) (o : Option (List ChainRule)) → last both (child_chain d c) o ≡ given (g d) c (find (slice_cmp nat_cmp) c bs) o
    both-child Ingress c o = last-append (towards Ingress) (towards Egress) (child_chain Ingress c) o ∙ (other_child c (last (towards Ingress) (child_chain Ingress c) o)).1 ∙ at_child Ingress c o
    both-child Egress c o = last-append (towards Ingress) (towards Egress) (child_chain Egress c) o ∙ ap (last (towards Egress) (child_chain Egress c)) (other_child c o).0 ∙ at_child Egress c o

-- ---- a tree

-- the branch's chain, if it has one
abbrev pub chain_of : Direction → Branch → Option (List ChainRule)
chain_of d b = if has_child b.0 b.1 then Some (dispatch_rules d b.1) else None

children-lines : (d : Direction) (bs : List Branch) → map (child_entry d) (filter (λ b. has_child b.0 b.1) bs) ≡ lines (child_chain d) (child_same d) (chain_of d) bs
children-lines d [] = refl
children-lines d (b ∷ bs) =
    elim (has_child b.0 b.1) as (λ t. map (child_entry d) (cond t (b ∷ filter (λ k. has_child k.0 k.1) bs) (filter (λ k. has_child k.0 k.1) bs)) ≡ entry_at (child_chain d b.0) (if t then Some (dispatch_rules d b.1) else None) ++ lines (child_chain d) (child_same d) (chain_of d) bs) [
      | true ↦ ap (λ es. child_entry d b ∷ es) (children-lines d bs)
      | false ↦ children-lines d bs
    ]

module _ (names : List (List ℕ)) where
  abbrev pub branches_in : List Branch
  branches_in = branches (shared_prefix names) names

  pub in_order : T (is_sorted (slice_cmp nat_cmp) branches_in)
  in_order = branches-sorted (shared_prefix names) names

  tree-both : dispatch_chains_of names ≡ both chain_of (λ d. Some (root_rules d names)) branches_in
  tree-both = λ i.
      (children-lines Ingress branches_in i ++ (root_of Ingress, root_rules Ingress names) ∷ [])
      ++ (children-lines Egress branches_in i ++ (root_of Egress, root_rules Egress names) ∷ [])

  tree-last : (q : ChainName) → maps.get (collected {R = slice_cmp nat_cmp} (dispatch_chains_of names)) q ≡ last (both chain_of (λ d. Some (root_rules d names)) branches_in) q None
  tree-last q = get-collected (dispatch_chains_of names) q ∙ ap (λ es. last es q None) tree-both

  pub tree-root-among : (d : Direction) (o : Option (List ChainRule)) → last (dispatch_chains_of names) (root_of d) o ≡ Some (root_rules d names)
  tree-root-among d o = ap (λ es. last es (root_of d) o) tree-both ∙ both-root chain_of (λ d. Some (root_rules d names)) branches_in d o

  pub tree-root : (d : Direction) → maps.get (collected {R = slice_cmp nat_cmp} (dispatch_chains_of names)) (root_of d) ≡ Some (root_rules d names)
  tree-root d = get-collected (dispatch_chains_of names) (root_of d) ∙ tree-root-among d None

  pub tree-child : (d : Direction) (c : List ℕ) → maps.get (collected {R = slice_cmp nat_cmp} (dispatch_chains_of names)) (child_chain d c) ≡ given (chain_of d) c (find (slice_cmp nat_cmp) c branches_in) None
  tree-child d c = tree-last (child_chain d c) ∙ both-child chain_of (λ d. Some (root_rules d names)) branches_in in_order d c None

  pub tree-elsewhere : (q : ChainName) → IsElsewhere q → maps.get (collected {R = slice_cmp nat_cmp} (dispatch_chains_of names)) q ≡ None
  tree-elsewhere q h = tree-last q ∙ both-elsewhere chain_of (λ d. Some (root_rules d names)) branches_in q h None
