-- What stands at the names of chains that are written and deleted where one tree takes another's place.
use Rattle.std.proofs.Common.{◌≡◌, ℕ, Bool, true, false, ◌&&◌, ◌||◌, not, List, [], ◌∷◌, ◌++◌, Option, Some, None, refl, ap, ◌∙◌}
use Rattle.std.specs.Prelude.{T, if◌then◌else◌}
use Rattle.std.specs.List.{flat_map}
use Rattle.std.specs.Ordering.{nat_cmp}
use Rattle.std.specs.Cmp.Lexicographic.{slice_cmp, pointwise}
use Rattle.std.specs.FinMap.{find, is_sorted}
use Rattle.fx_base.proofs.ExtendedKeys.{is_among}
use Rattle.fx_model.specs.declared.chain.ChainRule.{ChainRule}
use Rattle.fx_model.specs.Directions.{Direction, Ingress, Egress}
use Rattle.fx_model.specs.Tables.{ChainName, root_of, dispatch_rules}
use Rattle.fx_dispatch.specs.declared.way.Way.{Way}
use Rattle.fx_dispatch.specs.contracts.way.WayPartialEq.TheImpl as way
use Rattle.fx_model.specs.Tree.{Branch, has_child, child_chain, child_entry}
use Rattle.fx_dispatch.specs.Ways.{way_rules}
use Rattle.fx_dispatch.specs.Differences.{stands, child_write, root_write, has_chain, writes_towards, all_writes, all_deletes}
use Rattle.fx_laws.specs.DispatchNames.{IsElsewhere}
use Rattle.fx_laws.proofs.EntryLookups.{is}
use Rattle.fx_laws.proofs.Lines.{among-append, entry_at, holds_at, lines, names_where, among-names, none-among}
use Rattle.fx_laws.proofs.TreeAt.{child_same, not_child, towards, both}

-- ---- what is written

module _ (old new : List Branch) (old_root new_root : List Way) where
  -- the rules that are written for a branch
  abbrev pub written_for : Direction → Branch → Option (List ChainRule)
  written_for d b = if has_child b.0 b.1 && not (stands old b) then Some (dispatch_rules d b.1) else None

  abbrev pub written_root : Direction → Option (List ChainRule)
  written_root d = if pointwise way.eq-value.it old_root new_root then None else Some (way_rules d new_root)

  writes-lines : (d : Direction) (bs : List Branch) → flat_map (child_write d old) bs ≡ lines (child_chain d) (child_same d) (written_for d) bs
  writes-lines d [] = refl
  writes-lines d (b ∷ bs) =
      elim (has_child b.0 b.1 && not (stands old b)) as (λ t. (if t then child_entry d b ∷ [] else []) ++ flat_map (child_write d old) bs ≡ entry_at (child_chain d b.0) (if t then Some (dispatch_rules d b.1) else None) ++ lines (child_chain d) (child_same d) (written_for d) bs) [
        | true ↦ ap (λ es. child_entry d b ∷ es) (writes-lines d bs)
        | false ↦ writes-lines d bs
      ]

  root-entry : (d : Direction) → root_write d old_root new_root ≡ entry_at (root_of d) (written_root d)
  root-entry d = by_test (pointwise way.eq-value.it old_root new_root)
    where
      by_test : (t : Bool) → (if t then [] else (root_of d, way_rules d new_root) ∷ []) ≡ entry_at (root_of d) (if t then None else Some (way_rules d new_root))
      by_test true = refl
      by_test false = refl

  pub writes_are_towards : (d : Direction) → writes_towards d old new old_root new_root ≡ towards written_for written_root new d
  writes_are_towards d i = writes-lines d new i ++ root-entry d i

  pub writes-both : all_writes old new old_root new_root ≡ both written_for written_root new
  writes-both i = writes_are_towards Ingress i ++ writes_are_towards Egress i

-- ---- what is deleted

module _ (old new : List Branch) where
  abbrev pub is_deleted : Branch → Bool
  is_deleted b = has_child b.0 b.1 && not (has_chain new b.0)

  abbrev deleted : Direction → List ChainName
  deleted d = names_where (child_chain d) (child_same d) is_deleted old

  deletes-split : (q : ChainName) → is_among q (all_deletes old new) ≡ (is_among q (deleted Ingress) || is_among q (deleted Egress))
  deletes-split q = among-append q (deleted Ingress) (deleted Egress)

  none_of : (d : Direction) (q : ChainName) → ((c : List ℕ) → is q (child_chain d c) ≡ false) → is_among q (deleted d) ≡ false
  none_of d q other = none-among (child_chain d) (child_same d) is_deleted old q other

  pub deletes-elsewhere : (q : ChainName) → IsElsewhere q → is_among q (all_deletes old new) ≡ false
  deletes-elsewhere q h = deletes-split q ∙ ap (λ t. t || is_among q (deleted Egress)) (none_of Ingress q (not_child q h Ingress)) ∙ none_of Egress q (not_child q h Egress)

  pub deletes-root : (d : Direction) → is_among (root_of d) (all_deletes old new) ≡ false
  deletes-root Ingress = deletes-split (root_of Ingress) ∙ ap (λ t. t || is_among (root_of Ingress) (deleted Egress)) (none_of Ingress (root_of Ingress) (λ c. refl)) ∙ none_of Egress (root_of Ingress) (λ c. refl)
  deletes-root Egress = deletes-split (root_of Egress) ∙ ap (λ t. t || is_among (root_of Egress) (deleted Egress)) (none_of Ingress (root_of Egress) (λ c. refl)) ∙ none_of Egress (root_of Egress) (λ c. refl)

  or_false : (t : Bool) → (t || false) ≡ t
  or_false true = refl
  or_false false = refl

  module _ (sorted : T (is_sorted (slice_cmp nat_cmp) old)) where
    own_direction : (d : Direction) (c : List ℕ) → is_among (child_chain d c) (deleted d) ≡ holds_at is_deleted c (find (slice_cmp nat_cmp) c old)
    own_direction d c = among-names (child_chain d) (child_same d) is_deleted old sorted c

    pub deletes-child : (d : Direction) (c : List ℕ) → is_among (child_chain d c) (all_deletes old new) ≡ holds_at is_deleted c (find (slice_cmp nat_cmp) c old)
    deletes-child Ingress c =
        deletes-split (child_chain Ingress c) ∙ ap (λ t. is_among (child_chain Ingress c) (deleted Ingress) || t) (none_of Egress (child_chain Ingress c) (λ k. refl))
        ∙ or_false (is_among (child_chain Ingress c) (deleted Ingress)) ∙ own_direction Ingress c
    deletes-child Egress c =
        deletes-split (child_chain Egress c) ∙ ap (λ t. t || is_among (child_chain Egress c) (deleted Egress)) (none_of Ingress (child_chain Egress c) (λ k. refl))
        ∙ own_direction Egress c
