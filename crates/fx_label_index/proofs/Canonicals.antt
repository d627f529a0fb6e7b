-- Selectors under their canonical texts, and what is counted after a change.
use Rattle.std.proofs.Common.{◌≡◌, ℕ, ◌+◌, ◌-◌, nat_lt, true, false, cond, List, Option, Some, None, refl, sym, ap, ◌∙◌, subst}
use Rattle.std.specs.declared.cmp.Ordering.TheVariants.{Less, Equal, Greater}
use Rattle.std.specs.Ordering.{nat_cmp, is_eq, eq_by_cmp}
use Rattle.std.specs.Cmp.Lexicographic.{slice_cmp, nat_list_cmp_total}
use Rattle.std.specs.FinMap.{empty, get, insert, remove, get-insert, get-remove, get-empty}
use Rattle.fx_base.proofs.AtKey.{same_by_get}
use Rattle.fx_base.proofs.KeyCases.{bytes_exact}
use Rattle.fx_base.proofs.SetAt.{at_none}
use Rattle.fx_base.specs.Extended.{put_or_removed}
use Rattle.fx_selector.specs.Tree.{Tree, IsSelector}
use Rattle.fx_selector.specs.Canonical.{canonical_text}
use Rattle.fx_selector.specs.Places.{Spells}
use Rattle.fx_selector.proofs.Parsing.{one_spelled}
use Rattle.fx_selector.proofs.Spelling.{canonical_spells}
use Rattle.fx_label_index.specs.Canonicals.{Selectors, AreCanonical}
use Rattle.fx_label_index.specs.Counts.{uses_in, selector_in, raised, lowered_in, lowered}
use Rattle.fx_label_index.specs.declared.counted.Counted.{Counted}
use Rattle.fx_base.proofs.Cases.{hidden, same_some}

-- ---- a selector that was taken out
-- and put again
pub again : (m : Selectors) (text : List ℕ) (c : Counted) (t : List ℕ) → get (insert (remove m text) text c) t ≡ cond (eq_by_cmp (slice_cmp nat_cmp) t text) (Some c) (get m t)
again m text c t = get-insert nat_list_cmp_total (remove m text) text c t ∙ ap (cond (eq_by_cmp (slice_cmp nat_cmp) t text) (Some c)) (get-remove nat_list_cmp_total m text t) ∙ hidden (eq_by_cmp (slice_cmp nat_cmp) t text) (Some c) None (get m t)

pub insert_again : (m : Selectors) (text : List ℕ) (c : Counted) → insert (remove m text) text c ≡ insert m text c
insert_again m text c = same_by_get _ _ (λ t. again m text c t ∙ sym (get-insert nat_list_cmp_total m text c t))

-- a text that isn't there
pub remove_absent : (m : Selectors) (text : List ℕ) → get m text ≡ None → remove m text ≡ m
remove_absent m text h = same_by_get _ _ (λ t. get-remove nat_list_cmp_total m text t ∙ at_none nat_list_cmp_total bytes_exact (get m) text h t)

-- ---- each selector stands under its canonical text
pub one_canonical : (text : List ℕ) (t u : Tree) → IsSelector t → IsSelector u → text ≡ canonical_text t → text ≡ canonical_text u → t ≡ u
one_canonical text t u st su is iu = one_spelled text t u (subst (λ x. Spells x t) (sym is) (canonical_spells t st.tree)) (subst (λ x. Spells x u) (sym iu) (canonical_spells u su.tree))

not_some : {A : Type 0} (x : A) → None ≡ Some x → ⊥
not_some x e = cc

pub canonical_less : (m : Selectors) (text : List ℕ) → AreCanonical m → AreCanonical (remove m text)
canonical_less m text h = λ t counted e.
    elim (eq_by_cmp (slice_cmp nat_cmp) t text) as (λ b. cond b None (get m t) ≡ Some counted → IsSelector counted.selector × (t ≡ canonical_text counted.selector)) [
      | true ↦ λ p. absurd (not_some counted p)
      | false ↦ λ p. h t counted p
    ] (sym (get-remove nat_list_cmp_total m text t) ∙ e)

pub canonical_more : (m : Selectors) (text : List ℕ) (counted : Counted) → AreCanonical m → IsSelector counted.selector → text ≡ canonical_text counted.selector → AreCanonical (insert m text counted)
canonical_more m text counted h is at = λ t other e.
    elim (slice_cmp nat_cmp t text) as (λ r. slice_cmp nat_cmp t text ≡ r → cond (is_eq r) (Some counted) (get m t) ≡ Some other → IsSelector other.selector × (t ≡ canonical_text other.selector)) [
      | Less ↦ λ _ p. h t other p
      | Greater ↦ λ _ p. h t other p
      | Equal ↦ λ q p.
          let same = same_some counted other p in
          (subst (λ (c : Counted). IsSelector c.selector) same is, bytes_exact t text q ∙ at ∙ ap (λ (c : Counted). canonical_text c.selector) same)
    ] refl (sym (get-insert nat_list_cmp_total m text counted t) ∙ e)

pub canonical_none : AreCanonical empty
canonical_none = λ t counted e. absurd (not_some counted (sym (get-empty (slice_cmp nat_cmp) t) ∙ e))

pub canonical_out : (m n : Selectors) (text : List ℕ) → AreCanonical m → n ≡ remove m text → AreCanonical n
canonical_out m n text h is = subst AreCanonical (sym is) (canonical_less m text h)

-- ---- a selector that is counted once more
pub same_here : (m : Selectors) (text : List ℕ) (tree : Tree) → AreCanonical m → IsSelector tree → text ≡ canonical_text tree → (counted : Counted) → get m text ≡ Some counted → counted.selector ≡ tree
same_here m text tree h is at counted e =
    let k : IsSelector counted.selector × (text ≡ canonical_text counted.selector) = h text counted e in
    one_canonical text counted.selector tree k.0 is k.1 at

abbrev more_of : Option Counted → Tree → Counted
more_of found tree = record { selector = selector_in found tree; uses = uses_in found + 1 }

pub raised_is : (m n out : Selectors) (text key : List ℕ) (tree : Tree) (found : Option Counted) (counted : Counted)
    → AreCanonical m → IsSelector tree → text ≡ canonical_text tree
    → n ≡ remove m text → found ≡ get m text → key ≡ text → counted ≡ more_of found tree → out ≡ insert n key counted
    → out ≡ raised m text tree
raised_is m n out text key tree found counted h is at gone before copied more put =
    let stands : selector_in (get m text) tree ≡ tree =
    elim (get m text) as (λ o. get m text ≡ o → selector_in o tree ≡ tree) [
      | None ↦ λ e. refl
      | Some c ↦ λ e. same_here m text tree h is at c e
    ] refl in
    put ∙ (λ j. insert (gone j) (copied j) (more j)) ∙ insert_again m text (more_of found tree)
    ∙ (λ j. insert m text (more_of (before j) tree))
    ∙ ap (λ t. insert m text (record { selector = t; uses = uses_in (get m text) + 1 })) stands

pub raised_canonical : (m : Selectors) (text : List ℕ) (tree : Tree) → AreCanonical m → IsSelector tree → text ≡ canonical_text tree → AreCanonical (raised m text tree)
raised_canonical m text tree h is at = canonical_more m text (record { selector = tree; uses = uses_in (get m text) + 1 }) h is at

-- ---- a selector that is counted once less
lowered_some : (o : Option Counted) (counted : Counted) → lowered_in o ≡ Some counted → (c : Counted) × ((o ≡ Some c) × (c.selector ≡ counted.selector))
lowered_some None counted e = absurd (not_some counted e)
lowered_some (Some c) counted e =
    elim (nat_lt 1 c.uses) as (λ b. cond b (Some (record c { uses = c.uses - 1 })) None ≡ Some counted → (d : Counted) × ((Some c ≡ Some d) × (d.selector ≡ counted.selector))) [
      | true ↦ λ p. (c, (refl, ap (λ (d : Counted). d.selector) (same_some (record c { uses = c.uses - 1 }) counted p)))
      | false ↦ λ p. absurd (not_some counted p)
    ] e

module _ (m n : Selectors) (text : List ℕ) (found : Option Counted) (gone : n ≡ remove m text) (before : found ≡ get m text) where
  pub lowered_left : (out : Selectors) (key : List ℕ) (counted : Counted) → lowered_in found ≡ Some counted → key ≡ text → out ≡ insert n key counted → out ≡ lowered m text
  lowered_left out key counted left copied put =
      put ∙ (λ j. insert (gone j) (copied j) counted) ∙ insert_again m text counted
      ∙ ap (put_or_removed m text) (sym left ∙ ap lowered_in before)

  pub lowered_gone : lowered_in found ≡ None → n ≡ lowered m text
  lowered_gone none = gone ∙ ap (put_or_removed m text) (sym none ∙ ap lowered_in before)

  pub left_canonical : AreCanonical m → (counted : Counted) → lowered_in found ≡ Some counted → AreCanonical (lowered m text)
  left_canonical h counted left =
      let k : (c : Counted) × ((get m text ≡ Some c) × (c.selector ≡ counted.selector)) = lowered_some (get m text) counted (sym (ap lowered_in before) ∙ left) in
      let at : IsSelector k.0.selector × (text ≡ canonical_text k.0.selector) = h text k.0 k.1.0 in
      subst AreCanonical (ap (put_or_removed m text) (sym left ∙ ap lowered_in before))
      (canonical_more m text counted h (subst IsSelector k.1.1 at.0) (at.1 ∙ ap canonical_text k.1.1))
