-- Counts of names after a change at one of them.
use Rattle.std.proofs.Common.{◌≡◌, ℕ, ◌+◌, ◌-◌, ◌<◌, Bool, true, false, cond, nat_eq, List, Some, None, unwrap_or, refl, sym, ap, ◌∙◌, arith}
use Rattle.std.specs.declared.cmp.Ordering.TheVariants.{Less, Equal, Greater}
use Rattle.std.specs.Ordering.{nat_cmp, eq_by_cmp, is_eq}
use Rattle.std.specs.Cmp.{tied_itself, eq_by_cmp_equiv}
use Rattle.std.specs.Cmp.Lexicographic.{slice_cmp, pointwise, texts_ties, nat_list_cmp_total}
use Rattle.std.specs.FinMap.{get, insert, remove}
use Rattle.fx_base.proofs.AtKey.{get_insert, get_remove}
use Rattle.fx_base.proofs.KeyCases.{bytes_exact}
use Rattle.fx_active.specs.Indexes.{Counts, count_at}
use Rattle.fx_base.proofs.Cases.{either, hidden}

-- names that tie by their order are those that `==` doesn't tell apart
pub tied_names : (q k : List ℕ) → eq_by_cmp (slice_cmp nat_cmp) q k ≡ pointwise nat_eq k q
tied_names q k = (eq_by_cmp_equiv nat_list_cmp_total).symm q k ∙ sym (texts_ties k q)

pub own_name : (k : List ℕ) → pointwise nat_eq k k ≡ true
own_name k = texts_ties k k ∙ ap is_eq (tied_itself nat_list_cmp_total k)

pub count_insert : (m : Counts) (k : List ℕ) (n : ℕ) (q : List ℕ) → count_at (insert m k n) q ≡ cond (pointwise nat_eq k q) n (count_at m q)
count_insert m k n q =
    ap (λ o. unwrap_or o 0) (get_insert m k n q) ∙ either (eq_by_cmp (slice_cmp nat_cmp) q k) (Some n) (get m q)
    ∙ ap (λ b. cond b n (count_at m q)) (tied_names q k)

pub count_remove : (m : Counts) (k q : List ℕ) → count_at (remove m k) q ≡ cond (pointwise nat_eq k q) 0 (count_at m q)
count_remove m k q =
    ap (λ o. unwrap_or o 0) (get_remove m k q) ∙ either (eq_by_cmp (slice_cmp nat_cmp) q k) None (get m q)
    ∙ ap (λ b. cond b 0 (count_at m q)) (tied_names q k)

-- a value at a name
pub at_name : {A : Type 0} (f : List ℕ → A) (k q : List ℕ) (x : A) → f k ≡ x → cond (pointwise nat_eq k q) x (f q) ≡ f q
at_name f k q x h =
    ap (λ b. cond b x (f q)) (sym (tied_names q k))
    ∙ elim (slice_cmp nat_cmp q k) as (λ r. slice_cmp nat_cmp q k ≡ r → cond (is_eq r) x (f q) ≡ f q) [
      | Less ↦ λ e. refl
      | Equal ↦ λ e. sym h ∙ ap f (sym (bytes_exact q k e))
      | Greater ↦ λ e. refl
    ] refl

one_more : (b : Bool) (x y : ℕ) → cond b (x + 1) (cond b x y) ≡ cond b 1 0 + cond b x y
one_more true x y = omega arith
one_more false x y = omega arith

one_less : (b : Bool) (x y : ℕ) → 0 < x → cond b 1 0 + cond b (x - 1) y ≡ cond b x y
one_less true x y h = omega arith
one_less false x y h = omega arith

minus_one : (a x : ℕ) → 1 + a ≡ x → a ≡ x - 1
minus_one a x h = omega arith

module _ (m now : Counts) (k : List ℕ) (x : ℕ) (was : x ≡ count_at m k) where
  pub raised : now ≡ insert (remove m k) k (x + 1) → (q : List ℕ) → count_at now q ≡ cond (pointwise nat_eq k q) 1 0 + count_at m q
  raised is q =
      let b = pointwise nat_eq k q in
      let same : cond b x (count_at m q) ≡ count_at m q = at_name (count_at m) k q x (sym was) in
      ap (λ n. count_at n q) is ∙ count_insert (remove m k) k (x + 1) q ∙ ap (cond b (x + 1)) (count_remove m k q) ∙ hidden b (x + 1) 0 (count_at m q)
      ∙ sym (hidden b (x + 1) x (count_at m q)) ∙ one_more b x (count_at m q) ∙ ap (λ n. cond b 1 0 + n) same

  lowered : 0 < x → ((q : List ℕ) → count_at now q ≡ cond (pointwise nat_eq k q) (x - 1) (count_at m q)) → (q : List ℕ) → cond (pointwise nat_eq k q) 1 0 + count_at now q ≡ count_at m q
  lowered some is q =
      let b = pointwise nat_eq k q in
      ap (λ n. cond b 1 0 + n) (is q) ∙ one_less b x (count_at m q) some ∙ at_name (count_at m) k q x (sym was)

  -- the count in its place is exchanged, and then taken out or exchanged again
  pub lowered_out : 0 < x → now ≡ remove (insert m k 0) k → x - 1 ≡ 0 → (q : List ℕ) → cond (pointwise nat_eq k q) 1 0 + count_at now q ≡ count_at m q
  lowered_out some is none = lowered some (λ q.
      let b = pointwise nat_eq k q in
      ap (λ n. count_at n q) is ∙ count_remove (insert m k 0) k q ∙ ap (cond b 0) (count_insert m k 0 q) ∙ hidden b 0 0 (count_at m q) ∙ ap (λ n. cond b n (count_at m q)) (sym none))

  pub lowered_in : 0 < x → now ≡ insert (insert m k 0) k (x - 1) → (q : List ℕ) → cond (pointwise nat_eq k q) 1 0 + count_at now q ≡ count_at m q
  lowered_in some is = lowered some (λ q.
      let b = pointwise nat_eq k q in
      ap (λ n. count_at n q) is ∙ count_insert (insert m k 0) k (x - 1) q ∙ ap (cond b (x - 1)) (count_insert m k 0 q) ∙ hidden b (x - 1) 0 (count_at m q))

-- what is left at the name
pub left : (m now : Counts) (k : List ℕ) → ((q : List ℕ) → cond (pointwise nat_eq k q) 1 0 + count_at now q ≡ count_at m q) → count_at now k ≡ count_at m k - 1
left m now k h = minus_one _ _ (ap (λ b. cond b 1 0 + count_at now k) (sym (own_name k)) ∙ h k)
