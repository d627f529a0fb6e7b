-- What a selector that comes or goes changes.
use Rattle.std.proofs.Common.{◌≡◌, ℕ, ◌+◌, ◌-◌, Bool, true, false, cond, ◌&&◌, nat_lt, List, Option, Some, None, is_some, refl, sym, ap, ◌∙◌}
use Rattle.std.specs.declared.cmp.Ordering.TheVariants.{Less, Equal, Greater}
use Rattle.std.specs.Ordering.{nat_cmp, is_eq}
use Rattle.std.specs.Cmp.Lexicographic.{slice_cmp}
use Rattle.std.specs.FinMap.{get, empty}
use Rattle.fx_base.specs.Extended.{put_or_removed}
use Rattle.fx_base.proofs.AtKey.{get_insert, get_remove, get_empty}
use Rattle.fx_base.proofs.KeyCases.{bytes_exact}
use Rattle.fx_selector.specs.Tree.{Tree}
use Rattle.fx_selector.specs.Needs.{Need, needed}
use Rattle.fx_label_index.specs.Canonicals.{Selectors}
use Rattle.fx_label_index.specs.Counts.{uses_in, raised, lowered_in, lowered, last_of}
use Rattle.fx_label_rows.specs.Spots.{Spot, free, at_key, at_value, stands, at}
use Rattle.fx_label_rows.specs.TextGroups.{has_pair}
use Rattle.fx_base.specs.Grouped.{Texts, has_key, same_text}
use Rattle.fx_base.specs.Set as set
use Rattle.fx_label_rows.specs.TextGroups.{TextGroups}
use Rattle.fx_label_rows.proofs.TextLemmas.{none_there}
use Rattle.fx_label_index.specs.Indexed.{stands_in, AreNeeded}
use Rattle.fx_label_index.specs.declared.counted.Counted.{Counted}
use Rattle.fx_label_rows.specs.declared.by_need.TextsByNeed.{TextsByNeed}

-- nothing stands anywhere in an index of nothing
pub none_needed : (x : TextsByNeed) → x.by_value ≡ empty → x.by_key ≡ empty → x.free ≡ empty → (selectors : Selectors) → selectors ≡ empty → AreNeeded selectors x
none_needed x v k f selectors is s t =
    at_none s ∙ sym (ap (λ o. stands_in o s) (ap (λ m. get m t) is ∙ get_empty t))
  where
    at_none : (s : Spot) → at x s t ≡ false
    at_none free = ap (λ (s : Texts). set.contains s t) f ∙ none_there t
    at_none (at_key q) = ap (λ (m : TextGroups). has_key (get m q) t) k ∙ ap (λ (o : Option Texts). has_key o t) (get_empty q)
    at_none (at_value q w) = ap (λ m. has_pair (get m q) (w, t)) v ∙ ap (λ o. has_pair o (w, t)) (get_empty q)

module _ (m : Selectors) (x : TextsByNeed) (text : List ℕ) (is : AreNeeded m x) where
  -- one text has another selector
  moved : (now : Selectors) (y : TextsByNeed) (o : Option Counted) → ((q : List ℕ) → get now q ≡ cond (same_text q text) o (get m q)) → ((s : Spot) (q : List ℕ) → at y s q ≡ cond (same_text q text) (stands_in o s) (at x s q)) → AreNeeded now y
  moved now y o got put s q =
      put s q
      ∙ elim (same_text q text) as (λ b. cond b (stands_in o s) (at x s q) ≡ stands_in (cond b o (get m q)) s) [ true ↦ refl | false ↦ is s q ]
      ∙ ap (λ c. stands_in c s) (sym (got q))

  -- the same stands where it stood
  unmoved : (o : Option Counted) → ((s : Spot) → stands_in o s ≡ stands_in (get m text) s) → (s : Spot) (q : List ℕ) → at x s q ≡ cond (same_text q text) (stands_in o s) (at x s q)
  unmoved o stay s q =
      elim (slice_cmp nat_cmp q text) as (λ r. slice_cmp nat_cmp q text ≡ r → at x s q ≡ cond (is_eq r) (stands_in o s) (at x s q)) [
        | Less ↦ λ e. refl
        | Greater ↦ λ e. refl
        | Equal ↦ λ e. ap (at x s) (bytes_exact q text e) ∙ is s text ∙ sym (stay s)
      ] refl

  changed : (y : TextsByNeed) (n : Option Need) (b : Bool) (o : Option Counted) → ((s : Spot) (q : List ℕ) → at y s q ≡ cond (stands n s && same_text q text) b (at x s q)) → ((s : Spot) → cond (stands n s) b (stands_in (get m text) s) ≡ stands_in o s) → (s : Spot) (q : List ℕ) → at y s q ≡ cond (same_text q text) (stands_in o s) (at x s q)
  changed y n b o put row s q =
      put s q
      ∙ elim (slice_cmp nat_cmp q text) as (λ r. slice_cmp nat_cmp q text ≡ r → cond (stands n s && is_eq r) b (at x s q) ≡ cond (is_eq r) (stands_in o s) (at x s q)) [
        | Less ↦ λ e. elsewhere (stands n s) (at x s q)
        | Greater ↦ λ e. elsewhere (stands n s) (at x s q)
        | Equal ↦ λ e. here (stands n s) (at x s q) ∙ ap (cond (stands n s) b) (ap (at x s) (bytes_exact q text e) ∙ is s text) ∙ row s
      ] refl
    where
      elsewhere : (a c : Bool) → cond (a && false) b c ≡ c
      elsewhere true c = refl
      elsewhere false c = refl

      here : (a c : Bool) → cond (a && true) b c ≡ cond a b c
      here true c = refl
      here false c = refl

  -- ---- once more
  abbrev one_more : Tree → Counted
  one_more tree = record { selector = tree; uses = uses_in (get m text) + 1 }

  same_selector : (o : Option Counted) (tree : Tree) (n : ℕ) (s : Spot) → is_some o ≡ true → ((counted : Counted) → o ≡ Some counted → counted.selector ≡ tree) → stands_in (Some (record { selector = tree; uses = n })) s ≡ stands_in o s
  same_selector None tree n s h same = cc
  same_selector (Some counted) tree n s h same = ap (λ u. stands (needed u) s) (sym (same counted refl))

  pub raised_again : (tree : Tree) → is_some (get m text) ≡ true → ((counted : Counted) → get m text ≡ Some counted → counted.selector ≡ tree) → AreNeeded (raised m text tree) x
  raised_again tree there same =
      moved (raised m text tree) x (Some (one_more tree)) (get_insert m text (one_more tree))
      (unmoved (Some (one_more tree)) (λ s. same_selector (get m text) tree (uses_in (get m text) + 1) s there same))

  new_selector : (o : Option Counted) (tree : Tree) (n : ℕ) (s : Spot) → is_some o ≡ false → cond (stands (needed tree) s) true (stands_in o s) ≡ stands_in (Some (record { selector = tree; uses = n })) s
  new_selector None tree n s h = elim (stands (needed tree) s) as (λ b. cond b true false ≡ b) [ true ↦ refl | false ↦ refl ]
  new_selector (Some counted) tree n s h = cc

  pub raised_first : (tree : Tree) (y : TextsByNeed) → is_some (get m text) ≡ false → ((s : Spot) (q : List ℕ) → at y s q ≡ cond (stands (needed tree) s && same_text q text) true (at x s q)) → AreNeeded (raised m text tree) y
  raised_first tree y absent put =
      moved (raised m text tree) y (Some (one_more tree)) (get_insert m text (one_more tree))
      (changed y (needed tree) true (Some (one_more tree)) put (λ s. new_selector (get m text) tree (uses_in (get m text) + 1) s absent))

  -- ---- once less
  at_lowered : (q : List ℕ) → get (lowered m text) q ≡ cond (same_text q text) (lowered_in (get m text)) (get m q)
  at_lowered q = by_cases (lowered_in (get m text))
    where
      by_cases : (o : Option Counted) → get (put_or_removed m text o) q ≡ cond (same_text q text) o (get m q)
      by_cases None = get_remove m text q
      by_cases (Some counted) = get_insert m text counted q

  stays_in : (o : Option Counted) (s : Spot) → last_of o ≡ None → stands_in (lowered_in o) s ≡ stands_in o s
  stays_in None s h = refl
  stays_in (Some counted) s h =
      elim (nat_lt 1 counted.uses) as (λ b. cond b None (Some counted.selector) ≡ None → stands_in (cond b (Some (record counted { uses = counted.uses - 1 })) None) s ≡ stands (needed counted.selector) s) [
        | true ↦ λ e. refl
        | false ↦ λ e. cc
      ] h

  pub lowered_more : last_of (get m text) ≡ None → AreNeeded (lowered m text) x
  lowered_more h = moved (lowered m text) x (lowered_in (get m text)) at_lowered (unmoved (lowered_in (get m text)) (λ s. stays_in (get m text) s h))

  goes_in : (o : Option Counted) (tree : Tree) (s : Spot) → last_of o ≡ Some tree → cond (stands (needed tree) s) false (stands_in o s) ≡ stands_in (lowered_in o) s
  goes_in None tree s h = cc
  goes_in (Some counted) tree s h =
      elim (nat_lt 1 counted.uses) as (λ b. cond b None (Some counted.selector) ≡ Some tree → cond (stands (needed tree) s) false (stands (needed counted.selector) s) ≡ stands_in (cond b (Some (record counted { uses = counted.uses - 1 })) None) s) [
        | true ↦ λ e. cc
        | false ↦ λ e. let it : counted.selector ≡ tree = cc in
            ap (λ u. cond (stands (needed tree) s) false (stands (needed u) s)) it ∙ elim (stands (needed tree) s) as (λ b. cond b false b ≡ false) [ true ↦ refl | false ↦ refl ]
      ] h

  pub lowered_last : (tree : Tree) (y : TextsByNeed) → last_of (get m text) ≡ Some tree → ((s : Spot) (q : List ℕ) → at y s q ≡ cond (stands (needed tree) s && same_text q text) false (at x s q)) → AreNeeded (lowered m text) y
  lowered_last tree y last put =
      moved (lowered m text) y (lowered_in (get m text)) at_lowered
      (changed y (needed tree) false (lowered_in (get m text)) put (λ s. goes_in (get m text) tree s last))
