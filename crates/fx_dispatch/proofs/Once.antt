-- No chain is written twice.
use Rattle.std.proofs.Common.{◌≡◌, ◌≢◌, ℕ, true, false, List, [], ◌∷◌, ◌++◌, Option, Some, None, refl, sym, ap, ◌∙◌, subst}
use Rattle.std.specs.Prelude.{T}
use Rattle.std.specs.List.{AllByRecursion}
use Rattle.std.specs.Ordering.{nat_cmp}
use Rattle.std.specs.Cmp.{eq_by_cmp_equiv}
use Rattle.std.specs.Cmp.Lexicographic.{slice_cmp, nat_list_cmp_total}
use Rattle.std.specs.FinMap.{is_sorted}
use Rattle.std.specs.FinMap.Entries.{below_all}
use Rattle.fx_base.specs.Set as set
use Rattle.fx_model.specs.declared.chain.ChainRule.{ChainRule}
use Rattle.fx_model.specs.Directions.{Direction, Ingress, Egress}
use Rattle.fx_model.specs.Tables.{ChainName, root_of}
use Rattle.fx_model.specs.Tree.{Branch, child_chain}
use Rattle.fx_dispatch.specs.Ways.{root_ways}
use Rattle.fx_dispatch.specs.Plans.{Names, Writes, AllOnce, ChangesOnly}
use Rattle.fx_laws.proofs.EntryLookups.{is, first, second, not_equal}
use Rattle.fx_laws.proofs.Lines.{entry_at, lines}
use Rattle.fx_laws.proofs.TreeAt.{child_same, child_no_root, towards, both, in_order}
use Rattle.fx_dispatch.proofs.TreeLookups.{writes-both}
use Rattle.fx_dispatch.proofs.Written.{ob, nb, writes_between, deletes_between, for_child, for_root}
use Rattle.fx_laws.proofs.Uses.{all-append}
use Rattle.fx_dispatch.proofs.Changed.{changes_once}

pub apart : (p q : ChainName) → is p q ≡ false → p ≢ q
apart p q f e =
    let same : is p q ≡ true = ap (is p) (sym e) ∙ (eq_by_cmp_equiv nat_list_cmp_total).refl p in
    cc

abbrev Entry : Type 0
Entry = ChainName × List ChainRule

-- this name is another than that of the entry
abbrev Other : Entry → Entry → Type 0
Other x y = y.0 ≢ x.0

once-append : (xs ys : Writes) → AllOnce xs → AllOnce ys → AllByRecursion (λ x. AllByRecursion (Other x) ys) xs → AllOnce (xs ++ ys)
once-append [] ys h g f = g
once-append (x ∷ xs) ys h g f = (all-append (Other x) xs ys h.0 f.0, once-append xs ys h.1 g f.1)

all_entry : (P : Entry → Type 0) (k : ChainName) (o : Option (List ChainRule)) → ((rules : List ChainRule) → P (k, rules)) → AllByRecursion P (entry_at k o)
all_entry P k None h = tt
all_entry P k (Some rules) h = (h rules, tt)

once_entry : (k : ChainName) (o : Option (List ChainRule)) → AllOnce (entry_at k o)
once_entry k None = tt
once_entry k (Some rules) = (tt, tt)

module _ (g : Direction → Branch → Option (List ChainRule)) (x : Direction → Option (List ChainRule)) where
  abbrev children : Direction → List Branch → Writes
  children d bs = lines (child_chain d) (child_same d) (g d) bs

  all_lines : (P : Entry → Type 0) (d : Direction) (bs : List Branch) → AllByRecursion (λ b. (rules : List ChainRule) → P (child_chain d b.0, rules)) bs → AllByRecursion P (children d bs)
  all_lines P d [] h = tt
  all_lines P d (b ∷ bs) h = all-append P (entry_at (child_chain d b.0) (g d b)) (children d bs) (all_entry P (child_chain d b.0) (g d b) h.0) (all_lines P d bs h.1)

  later : (d : Direction) (c : List ℕ) (bs : List Branch) → T (below_all (slice_cmp nat_cmp) c bs) → AllByRecursion (λ b. List ChainRule → child_chain d b.0 ≢ child_chain d c) bs
  later d c [] h = tt
  later d c (b ∷ bs) h = (
    λ rules. apart (child_chain d b.0) (child_chain d c) (child_same d b.0 c ∙ (eq_by_cmp_equiv nat_list_cmp_total).symm b.0 c ∙ not_equal _ (first _ _ h)),
    later d c bs (second _ _ h),
  )

  once_lines : (d : Direction) (bs : List Branch) → T (is_sorted (slice_cmp nat_cmp) bs) → AllOnce (children d bs)
  once_lines d [] h = tt
  once_lines d (b ∷ bs) h =
      once-append (entry_at (child_chain d b.0) (g d b)) (children d bs) (once_entry (child_chain d b.0) (g d b)) (once_lines d bs (second _ _ h))
      (all_entry (λ e. AllByRecursion (Other e) (children d bs)) (child_chain d b.0) (g d b) (λ rules. all_lines (Other (child_chain d b.0, rules)) d bs (later d b.0 bs (first _ _ h))))

  every : (P : Branch → Type 0) (bs : List Branch) → ((b : Branch) → P b) → AllByRecursion P bs
  every P [] h = tt
  every P (b ∷ bs) h = (h b, every P bs h)

  root_other : (d : Direction) (bs : List Branch) → AllByRecursion (λ e. AllByRecursion (Other e) (entry_at (root_of d) (x d))) (children d bs)
  root_other d bs =
      all_lines (λ e. AllByRecursion (Other e) (entry_at (root_of d) (x d))) d bs
      (every (λ b. (rules : List ChainRule) → AllByRecursion (Other (child_chain d b.0, rules)) (entry_at (root_of d) (x d))) bs (λ b rules.
      all_entry (Other (child_chain d b.0, rules)) (root_of d) (x d) (λ _ same. apart (child_chain d b.0) (root_of d) (child_no_root d b.0) (sym same))))

  once_towards : (d : Direction) (bs : List Branch) → T (is_sorted (slice_cmp nat_cmp) bs) → AllOnce (towards g x bs d)
  once_towards d bs h = once-append (children d bs) (entry_at (root_of d) (x d)) (once_lines d bs h) (once_entry (root_of d) (x d)) (root_other d bs)

  -- an entry of the other direction
  all_towards : (P : Entry → Type 0) (d : Direction) (bs : List Branch) → ((c : List ℕ) (rules : List ChainRule) → P (child_chain d c, rules)) → ((rules : List ChainRule) → P (root_of d, rules)) → AllByRecursion P (towards g x bs d)
  all_towards P d bs child root =
      all-append P (children d bs) (entry_at (root_of d) (x d)) (all_lines P d bs (every (λ b. (rules : List ChainRule) → P (child_chain d b.0, rules)) bs (λ b. child b.0)))
      (all_entry P (root_of d) (x d) root)

  pub once_both : (bs : List Branch) → T (is_sorted (slice_cmp nat_cmp) bs) → AllOnce (both g x bs)
  once_both bs h =
      once-append (towards g x bs Ingress) (towards g x bs Egress) (once_towards Ingress bs h) (once_towards Egress bs h)
      (all_towards (λ e. AllByRecursion (Other e) (towards g x bs Egress)) Ingress bs
      (λ c rules. all_towards (Other (child_chain Ingress c, rules)) Egress bs (λ k _. apart (child_chain Egress k) (child_chain Ingress c) refl) (λ _. apart (root_of Egress) (child_chain Ingress c) refl))
      (λ rules. all_towards (Other (root_of Ingress, rules)) Egress bs (λ k _. apart (child_chain Egress k) (root_of Ingress) refl) (λ _. apart (root_of Egress) (root_of Ingress) refl)))

pub all_once : (old new : Names) → AllOnce (writes_between (set.items old) (set.items new))
all_once old new =
    let os = set.items old in
    let ns = set.items new in
    subst AllOnce (sym (writes-both (ob os ns) (nb os ns) (root_ways os) (root_ways ns))) (once_both (for_child os ns) (for_root os ns) (nb os ns) (in_order ns))

pub changes_only : (old new : Names) → ChangesOnly old new (writes_between (set.items old) (set.items new)) (deletes_between (set.items old) (set.items new))
changes_only old new = changes_once old new (all_once old new)
