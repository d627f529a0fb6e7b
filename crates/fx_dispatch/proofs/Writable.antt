-- The chains of a plan can be written one after another.
use Rattle.std.proofs.Common.{◌≡◌, ℕ, Bool, true, false, ◌&&◌, not, List, [], ◌∷◌, ◌++◌, Option, Some, None, is_some, refl, sym, ap, ◌∙◌, subst}
use Rattle.std.specs.Prelude.{if◌then◌else◌}
use Rattle.std.specs.List.{AllByRecursion}
use Rattle.std.specs.Ordering.{nat_cmp}
use Rattle.std.specs.Cmp.Lexicographic.{slice_cmp, pointwise}
use Rattle.std.specs.FinMap as maps
use Rattle.std.specs.FinMap.{find}
use Rattle.fx_base.specs.Extended.{extended}
use Rattle.fx_base.specs.Set as set
use Rattle.fx_base.proofs.KeyCases.{there_insert}
use Rattle.fx_base.proofs.ExtendedKeys.{there_extended}
use Rattle.fx_model.specs.declared.chain.ChainRule.{ChainRule}
use Rattle.fx_model.specs.Directions.{Direction, Ingress, Egress}
use Rattle.fx_model.specs.Tables.{ChainName, Chains, Sets, root_of, endpoint_chain, dispatch_rules}
use Rattle.fx_model.specs.Writing.{IsWritable, CanBeWritten}
use Rattle.fx_dispatch.specs.contracts.way.WayPartialEq.TheImpl as way
use Rattle.fx_model.specs.Tree.{Branch, shared_prefix, has_child, child_chain, HoldsTree}
use Rattle.fx_dispatch.specs.Ways.{root_ways, way_rules}
use Rattle.fx_dispatch.specs.Differences.{are_found, stands}
use Rattle.fx_dispatch.specs.Plans.{Names, EndpointsAreThere, AreWritable}
use Rattle.fx_laws.proofs.Lines.{get-extended, or_else, entry_at, given, lines}
use Rattle.fx_laws.proofs.TreeAt.{child_same, towards, lines-child, other_child, chain_of, in_order}
use Rattle.fx_dispatch.proofs.TreeLookups.{writes-both}
use Rattle.fx_dispatch.proofs.OwnWays.{root-ways}
use Rattle.fx_dispatch.proofs.Written.{ob, nb, writes_between, for_child, for_root, same_names, old_child}
use Rattle.fx_laws.proofs.BranchLemmas.{IsBranchOf, branches_within, each_found, items_there}
use Rattle.fx_laws.proofs.TreeWritten.{written-append, child_writable, root_writable}

both_true : (s t : Bool) → (s && t) ≡ true → s ≡ true
both_true true t e = refl
both_true false t e = cc

module _ (old new : Names) (sets : Sets) where
  abbrev os : List (List ℕ)
  os = set.items old

  abbrev ns : List (List ℕ)
  ns = set.items new

  abbrev IsNew : List ℕ → Type 0
  IsNew name = set.contains new name ≡ true

  endpoints_stay : (chains : Chains) (name : ChainName) (rules : List ChainRule) → EndpointsAreThere new chains → EndpointsAreThere new (maps.insert chains name rules)
  endpoints_stay chains name rules there d k h = there_insert chains name rules (endpoint_chain d k) (there d k h)

  -- ---- the chains of bytes

  children_writable : (chains : Chains) (d : Direction) (bs : List Branch) → EndpointsAreThere new chains → AllByRecursion (IsBranchOf IsNew) bs → CanBeWritten sets chains (lines (child_chain d) (child_same d) (for_child os ns d) bs)
  children_writable chains d [] there h = tt
  children_writable chains d (b ∷ bs) there h =
      elim (has_child b.0 b.1 && not (stands (ob os ns) b)) as (λ t. (has_child b.0 b.1 && not (stands (ob os ns) b)) ≡ t → CanBeWritten sets chains (entry_at (child_chain d b.0) (if t then Some (dispatch_rules d b.1) else None) ++ lines (child_chain d) (child_same d) (for_child os ns d) bs)) [
        | true ↦ λ p. (
          child_writable IsNew sets chains there d b (record { branch = h.0; has = both_true _ _ p }),
          children_writable (maps.insert chains (child_chain d b.0) (dispatch_rules d b.1)) d bs (endpoints_stay chains (child_chain d b.0) (dispatch_rules d b.1) there) h.1,
        )
        | false ↦ λ p. children_writable chains d bs there h.1
      ] refl

  -- ---- the roots

  -- a branch's chain was written, or stood as it is
  standing : (d : Direction) (b : Branch) (before : Option (List (List ℕ))) → has_child b.0 b.1 ≡ true → are_found before b.1 ≡ true → is_some (given (chain_of d) b.0 before None) ≡ true
  standing d b None has same = let wrong : false ≡ true = same in cc
  standing d b (Some names) has same =
      ap (λ t. is_some (or_else (if t then Some (dispatch_rules d names) else None) None)) (ap (has_child b.0) (same_names names b.1 same) ∙ has)

  child_there : (chains : Chains) (d : Direction) → ((c : List ℕ) → maps.get chains (child_chain d c) ≡ given (chain_of d) c (find (slice_cmp nat_cmp) c (ob os ns)) None) →
      (b : Branch) → find (slice_cmp nat_cmp) b.0 (nb os ns) ≡ Some b.1 → has_child b.0 b.1 ≡ true →
      maps.contains_key (extended chains (lines (child_chain d) (child_same d) (for_child os ns d) (nb os ns))) (child_chain d b.0) ≡ true
  child_there chains d before b found has =
      ap is_some (get-extended chains (lines (child_chain d) (child_same d) (for_child os ns d) (nb os ns)) (child_chain d b.0)
      ∙ lines-child (for_child os ns) (for_root os ns) (nb os ns) (in_order ns) d b.0 (maps.get chains (child_chain d b.0))
      ∙ ap (λ f. given (for_child os ns d) b.0 f (maps.get chains (child_chain d b.0))) found
      ∙ ap (or_else (for_child os ns d b)) (before b.0))
      ∙ ap (λ t. is_some (or_else (if t && not (stands (ob os ns) b) then Some (dispatch_rules d b.1) else None) (given (chain_of d) b.0 (find (slice_cmp nat_cmp) b.0 (ob os ns)) None))) has
      ∙ elim (stands (ob os ns) b) as (λ t. stands (ob os ns) b ≡ t → is_some (or_else (if not t then Some (dispatch_rules d b.1) else None) (given (chain_of d) b.0 (find (slice_cmp nat_cmp) b.0 (ob os ns)) None)) ≡ true) [
        | true ↦ λ p. standing d b (find (slice_cmp nat_cmp) b.0 (ob os ns)) has p
        | false ↦ λ p. refl
      ] refl

  -- each branch that has a chain finds it there
  abbrev AreLed : Chains → Direction → List Branch → Type 0
  AreLed chains d bs = AllByRecursion (λ b. has_child b.0 b.1 ≡ true → maps.contains_key chains (child_chain d b.0) ≡ true) bs

  root_written : (chains : Chains) (d : Direction) → EndpointsAreThere new chains → AreLed chains d (nb os ns) → CanBeWritten sets chains (entry_at (root_of d) (for_root os ns d))
  root_written chains d there led =
      elim (pointwise way.eq-value.it (root_ways os) (root_ways ns)) as (λ t. CanBeWritten sets chains (entry_at (root_of d) (if t then None else Some (way_rules d (root_ways ns))))) [
        | true ↦ tt
        | false ↦ (subst (IsWritable sets chains (root_of d)) (sym (root-ways d ns)) (root_writable IsNew sets chains there d ns (items_there new) led), tt)
      ]

  -- ---- one direction, and then the other

  towards_writable : (chains : Chains) (d : Direction) → EndpointsAreThere new chains → ((c : List ℕ) → maps.get chains (child_chain d c) ≡ given (chain_of d) c (find (slice_cmp nat_cmp) c (ob os ns)) None) → CanBeWritten sets chains (towards (for_child os ns) (for_root os ns) (nb os ns) d)
  towards_writable chains d there before =
      let children = lines (child_chain d) (child_same d) (for_child os ns d) (nb os ns) in
      written-append sets chains children (entry_at (root_of d) (for_root os ns d))
      (children_writable chains d (nb os ns) there (branches_within IsNew (shared_prefix ns) ns (items_there new)))
      (root_written (extended chains children) d (λ e k h. there_extended chains children (endpoint_chain e k) (there e k h)) (over (nb os ns) (each_found (shared_prefix ns) ns)))
    where
      over : (bs : List Branch) → AllByRecursion (λ b. find (slice_cmp nat_cmp) b.0 (nb os ns) ≡ Some b.1) bs → AreLed (extended chains (lines (child_chain d) (child_same d) (for_child os ns d) (nb os ns))) d bs
      over [] h = tt
      over (b ∷ bs) h = (child_there chains d before b h.0, over bs h.1)

  pub writable : (chains : Chains) → HoldsTree (set.items old) chains → EndpointsAreThere new chains → CanBeWritten sets chains (writes_between os ns)
  writable chains held there =
      let first = towards (for_child os ns) (for_root os ns) (nb os ns) Ingress in
      subst (CanBeWritten sets chains) (sym (writes-both (ob os ns) (nb os ns) (root_ways os) (root_ways ns)))
      (written-append sets chains first (towards (for_child os ns) (for_root os ns) (nb os ns) Egress)
      (towards_writable chains Ingress there (old_child old chains held Ingress))
      (towards_writable (extended chains first) Egress (λ e k h. there_extended chains first (endpoint_chain e k) (there e k h)) (λ c.
      get-extended chains first (child_chain Egress c) ∙ (other_child (for_child os ns) (for_root os ns) (nb os ns) c (maps.get chains (child_chain Egress c))).0 ∙ old_child old chains held Egress c)))

pub are_writable : (old new : Names) → AreWritable old new (writes_between (set.items old) (set.items new))
are_writable old new sets chains held there = writable old new sets chains held there
