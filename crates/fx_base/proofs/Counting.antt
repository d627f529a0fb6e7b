-- How many entries of a map pass a test, after a change at one key.
use Rattle.std.proofs.Common.{◌≡◌, ◌≤◌, ℕ, ◌+◌, Bool, true, false, cond, List, [], ◌∷◌, Some, None, refl, sym, ap, ◌∙◌, subst, arith}
use Rattle.std.specs.List.{count_by}
use Rattle.std.specs.declared.cmp.Ordering.{Ordering}
use Rattle.std.specs.declared.cmp.Ordering.TheVariants.{Less, Equal, Greater}
use Rattle.std.specs.Ordering.{is_eq, eq_by_cmp}
use Rattle.std.specs.FinMap.Entries.{find, put, by_order}
use Rattle.std.proofs.lemmas.List.Sums.{sum_by-cons, sum_by-le-sum_by}

abbrev one_if : Bool → ℕ
one_if b = cond b 1 0

pub count-cons : {A : Type 0} (p : A → Bool) (x : A) (xs : List A) → count_by p (x ∷ xs) ≡ one_if (p x) + count_by p xs
count-cons p x xs = sum_by-cons (λ y. cond (p y) 1 0) x xs

same_count : (a b c d e f : ℕ) → a ≡ b + c → d ≡ e + f → b ≡ e → c ≡ f → a ≡ d
same_count a b c d e f p q r s = omega arith

later_count : (a b c d e f : ℕ) → a ≡ b + c → c ≡ d + e → f ≡ b + e → a ≡ d + f
later_count a b c d e f p q r = omega arith

none_more : (n : ℕ) → 0 + n ≡ n
none_more n = omega arith

module _ {K X : Type 0} (R : K → K → Ordering) where
  -- a key that is new counts once more
  pub count-put : (p : K × X → Bool) (k : K) (v : X) (es : List (K × X)) → find R k es ≡ None → count_by p (put R k v es) ≡ one_if (p (k, v)) + count_by p es
  count-put p k v [] none = count-cons p (k, v) []
  count-put p k v (e ∷ es) none =
      elim (R k e.0) as (λ r. cond (is_eq r) (Some e.1) (find R k es) ≡ None → count_by p (by_order r ((k, v) ∷ e ∷ es) ((e.0, v) ∷ es) (e ∷ put R k v es)) ≡ one_if (p (k, v)) + count_by p (e ∷ es)) [
        | Less ↦ λ is. count-cons p (k, v) (e ∷ es)
        | Equal ↦ λ is. cc
        | Greater ↦ λ is. later_count _ _ _ _ _ _ (count-cons p e (put R k v es)) (count-put p k v es is) (count-cons p e es)
      ] none

  -- tests that agree on all keys but one count alike where that one is absent
  pub count_alike : (p q : K × X → Bool) (k : K) → ((e : K × X) → eq_by_cmp R k e.0 ≡ false → p e ≡ q e) → (es : List (K × X)) → find R k es ≡ None → count_by p es ≡ count_by q es
  count_alike p q k agree [] none = refl
  count_alike p q k agree (e ∷ es) none =
      elim (eq_by_cmp R k e.0) as (λ b. eq_by_cmp R k e.0 ≡ b → cond b (Some e.1) (find R k es) ≡ None → count_by p (e ∷ es) ≡ count_by q (e ∷ es)) [
        | true ↦ λ t is. cc
        | false ↦ λ t is. same_count _ _ _ _ _ _ (count-cons p e es) (count-cons q e es) (ap one_if (agree e t)) (count_alike p q k agree es is)
      ] refl none

  -- a test of keys that fails at a key counts no more where an entry is put there
  pub count-put_failing : (p : K → Bool) (k : K) (v : X) (es : List (K × X)) → p k ≡ false → count_by (λ e. p e.0) (put R k v es) ≡ count_by (λ e. p e.0) es
  count-put_failing p k v [] fails = count-cons (λ (e : K × X). p e.0) (k, v) [] ∙ ap (λ b. one_if b + 0) fails
  count-put_failing p k v (e ∷ es) fails =
      let test = λ (f : K × X). p f.0 in
      elim (R k e.0) as (λ r. count_by test (by_order r ((k, v) ∷ e ∷ es) ((e.0, v) ∷ es) (e ∷ put R k v es)) ≡ count_by test (e ∷ es)) [
        | Less ↦ count-cons test (k, v) (e ∷ es) ∙ ap (λ b. one_if b + count_by test (e ∷ es)) fails ∙ none_more _
        | Equal ↦ count-cons test (e.0, v) es ∙ sym (count-cons test e es)
        | Greater ↦ count-cons test e (put R k v es) ∙ ap (λ n. one_if (p e.0) + n) (count-put_failing p k v es fails) ∙ sym (count-cons test e es)
      ]

no_more : (a b : Bool) → (a ≡ true → b ≡ true) → one_if a ≤ one_if b
no_more true b h = subst (λ c. one_if true ≤ one_if c) (sym (h refl)) (omega arith)
no_more false b h = omega arith

-- what passes the one test passes the other
pub count-implied : {A : Type 0} (p q : A → Bool) (xs : List A) → ((x : A) → p x ≡ true → q x ≡ true) → count_by p xs ≤ count_by q xs
count-implied p q xs h = sum_by-le-sum_by (λ x. one_if (p x)) (λ x. one_if (q x)) xs (λ x. no_more (p x) (q x) (h x))
