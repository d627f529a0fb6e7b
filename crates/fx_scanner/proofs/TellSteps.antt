-- What counts and a sink have of uses, after one use more or one less.
use Rattle.std.proofs.Common.{◌≡◌, ℕ, ◌+◌, ◌-◌, ◌==◌, Bool, true, false, cond, not, List, ◌∷◌, Option, Some, None, is_some, IsSome, unwrap_or, refl, sym, ap, ◌∙◌, subst, arith, zero-add}
use Rattle.std.specs.FinMap as maps
use Rattle.fx_base.specs.Same.{same_numbers}
use Rattle.fx_base.proofs.AtKey.{get_insert, get_insert_same, get_remove}
use Rattle.fx_names.specs.Digests.{Digest}
use Rattle.fx_model.specs.Sets.{use_name}
use Rattle.fx_model.specs.Sinks.{Uses}
use Rattle.fx_model.specs.declared.set_use.SetUse.{SetUse}
use Rattle.fx_scanner.specs.Uses.{same_text, is_use, use_key, has_key, times, Counts, count_at, with_count}
use Rattle.fx_scanner.specs.Told.{has_name, is_told, clashes, AreCounts, AreTold, AreHeld}
use Rattle.fx_scanner.proofs.Texts.{one_text, own_text, from_one, not_both, whether, at_text}
use Rattle.fx_scanner.proofs.Bags.{AreSame, zero_left, zero_right, both_zero, is_more, is_some_number, not_none, passes_not, none_if, not_true, not_false, none_by, none_with}
use Rattle.fx_scanner.proofs.SameUses.{of_value, key_has_name, one_by_name, told_value, one_told}
use Rattle.fx_base.proofs.Cases.{opposite, either}

-- ---- counts

count_put : (counts : Counts) (k : List ℕ) (n : ℕ) (q : List ℕ) → count_at (maps.insert counts k n) q ≡ cond (same_text q k) n (count_at counts q)
count_put counts k n q = ap (λ o. unwrap_or o 0) (get_insert counts k n q) ∙ either (same_text q k) (Some n) (maps.get counts q)

count_out : (counts : Counts) (k q : List ℕ) → count_at (maps.remove counts k) q ≡ cond (same_text q k) 0 (count_at counts q)
count_out counts k q = ap (λ o. unwrap_or o 0) (get_remove counts k q) ∙ either (same_text q k) None (maps.get counts q)

count_with : (counts : Counts) (k : List ℕ) (n : ℕ) (q : List ℕ) → count_at (with_count counts k n) q ≡ cond (same_text q k) n (count_at counts q)
count_with counts k n q =
    elim (n == 0) as (λ b. (n == 0) ≡ b → count_at (cond b (maps.remove counts k) (maps.insert counts k n)) q ≡ cond (same_text q k) n (count_at counts q)) [
      | true ↦ λ e. count_out counts k q ∙ ap (λ m. cond (same_text q k) m (count_at counts q)) (sym (same_numbers n 0 e))
      | false ↦ λ e. count_put counts k n q
    ] refl

one_more : (b : Bool) (x y : ℕ) → cond b (x + 1) y ≡ cond b 1 0 + cond b x y
one_more true x y = omega arith
one_more false x y = omega arith

one_less : (b : Bool) (x y n : ℕ) → (b ≡ true → x ≡ y) → y ≡ cond b 1 0 + n → cond b (x - 1) y ≡ n
one_less true x y n same is = let e : x ≡ y = same refl in omega arith
one_less false x y n same is = omega arith

module _ (counts : Counts) (us : List SetUse) (u : SetUse) where
  pub counts_more : AreCounts counts us → AreCounts (maps.insert counts (use_key u) (count_at counts (use_key u) + 1)) (u ∷ us)
  counts_more was q =
      let k = use_key u in
      let b = same_text q k in
      count_put counts k (count_at counts k + 1) q
      ∙ one_more b (count_at counts k) (count_at counts q)
      ∙ ap (λ n. cond b 1 0 + n) (at_text (count_at counts) k q (count_at counts k) refl ∙ was q)

  pub counts_less : AreCounts counts (u ∷ us) → AreCounts (with_count counts (use_key u) (count_at counts (use_key u) - 1)) us
  counts_less was q =
      let k = use_key u in
      count_with counts k (count_at counts k - 1) q
      ∙ one_less (same_text q k) (count_at counts k) (count_at counts q) (times (has_key q) us) (λ h. ap (count_at counts) (sym (one_text q k h))) (was q)

  -- the count of a use that is there, less that one
  pub others_count : AreCounts counts (u ∷ us) → count_at counts (use_key u) - 1 ≡ times (has_key (use_key u)) us
  others_count was =
      one_less true (count_at counts (use_key u)) (count_at counts (use_key u)) (times (has_key (use_key u)) us) (λ _. refl)
      (was (use_key u) ∙ ap (λ b. cond b 1 0 + times (has_key (use_key u)) us) (own_text (use_key u)))

-- ---- what the sink has

-- whether there are some, after one more that counts or doesn't
some_with : (b : Bool) (n : ℕ) → b ≡ true → true ≡ not ((cond b 1 0 + n) == 0)
some_with true n h = sym (ap not (is_more n))
some_with false n h = cc

some_without : (b : Bool) (n : ℕ) → b ≡ false → not (n == 0) ≡ not ((cond b 1 0 + n) == 0)
some_without true n h = cc
some_without false n h = ap (λ k. not (k == 0)) (sym (zero-add n))

module _ (dg : Digest) (uses : Uses) (us : List SetUse) (u : SetUse) where
  -- ---- a first use
  module _ (was : AreTold dg uses us) (apart : times (clashes dg u) us ≡ 0) (none : times (has_key (use_key u)) us ≡ 0) where
    no_name : times (has_name dg (use_name dg u)) us ≡ 0
    no_name =
        none_by (has_name dg (use_name dg u)) (clashes dg u) (has_key (use_key u))
        (λ v h e. from_one (use_key u) (use_key v) (ap use_key (one_by_name dg u v h e))) us apart none

    pub absent : maps.contains_key uses (use_name dg u) ≡ false
    absent = was.names (use_name dg u) ∙ ap (λ n. not (n == 0)) no_name

    here_now : is_told dg (maps.insert uses (use_name dg u) u) u ≡ true
    here_now = of_value u (maps.get (maps.insert uses (use_name dg u) u) (use_name dg u)) (get_insert_same uses (use_name dg u) u)

    still_told : (v : SetUse) → not (is_told dg (maps.insert uses (use_name dg u) u) v) ≡ true → not (is_told dg uses v) ≡ false → has_name dg (use_name dg u) v ≡ true
    still_told v h e =
        whether (same_text (use_name dg v) (use_name dg u))
        (λ same. from_one (use_name dg u) (use_name dg v) (sym (one_text (use_name dg v) (use_name dg u) same)))
        (λ other. not_both (is_told dg uses v) (not_true (is_told dg uses v) e)
        (sym (ap (is_use v) (get_insert uses (use_name dg u) u (use_name dg v) ∙ ap (λ b. cond b (Some u) (maps.get uses (use_name dg v))) other))
        ∙ opposite (is_told dg (maps.insert uses (use_name dg u) u) v) h))

    pub told_first : AreTold dg (maps.insert uses (use_name dg u) u) (u ∷ us)
    told_first = record {
      names = λ q.
          ap is_some (get_insert uses (use_name dg u) u q)
          ∙ elim (same_text q (use_name dg u)) as (λ b. is_some (cond b (Some u) (maps.get uses q)) ≡ not ((cond b 1 0 + times (has_name dg q) us) == 0)) [
            | true ↦ some_with true (times (has_name dg q) us) refl
            | false ↦ was.names q ∙ some_without false (times (has_name dg q) us) refl
          ];
      sets =
          both_zero (cond (not (is_told dg (maps.insert uses (use_name dg u) u) u)) 1 0) (times (λ v. not (is_told dg (maps.insert uses (use_name dg u) u) v)) us)
          (none_if (not (is_told dg (maps.insert uses (use_name dg u) u) u)) (not_false (is_told dg (maps.insert uses (use_name dg u) u) u) here_now))
          (none_by (λ v. not (is_told dg (maps.insert uses (use_name dg u) u) v)) (λ v. not (is_told dg uses v)) (has_name dg (use_name dg u)) still_told us was.sets no_name);
    }

  -- ---- a further use
  module _ (was : AreTold dg uses us) (apart : times (clashes dg u) us ≡ 0) (some : times (has_key (use_key u)) us ≡ 0 → ⊥) where
    told_already : is_told dg uses u ≡ true
    told_already =
        whether (is_told dg uses u) (λ h. h)
        (λ h. absurd (some (none_by (has_key (use_key u)) (clashes dg u) (λ v. not (is_told dg uses v))
        (λ v k e. ap not (ap (is_told dg uses) (sym (one_by_name dg u v (key_has_name dg u v k) e)) ∙ h)) us apart was.sets)))

    there_already : (q : List ℕ) → same_text q (use_name dg u) ≡ true → maps.contains_key uses q ≡ true
    there_already q h = ap (maps.contains_key uses) (one_text q (use_name dg u) h) ∙ ap is_some (told_value dg uses u told_already)

    pub told_again : AreTold dg uses (u ∷ us)
    told_again = record {
      names = λ q.
          whether (has_name dg q u)
          (λ h. there_already q h ∙ some_with (has_name dg q u) (times (has_name dg q) us) h)
          (λ h. was.names q ∙ some_without (has_name dg q u) (times (has_name dg q) us) h);
      sets =
          both_zero (cond (not (is_told dg uses u)) 1 0) (times (λ v. not (is_told dg uses v)) us)
          (none_if (not (is_told dg uses u)) (not_false (is_told dg uses u) told_already)) was.sets;
    }

  -- ---- uses of which one is given up
  module _ (was : AreTold dg uses (u ∷ us)) where
    told_first_one : is_told dg uses u ≡ true
    told_first_one = not_true (is_told dg uses u) (passes_not (not (is_told dg uses u)) (zero_left (cond (not (is_told dg uses u)) 1 0) (times (λ v. not (is_told dg uses v)) us) was.sets))

    told_others : times (λ v. not (is_told dg uses v)) us ≡ 0
    told_others = zero_right (cond (not (is_told dg uses u)) 1 0) (times (λ v. not (is_told dg uses v)) us) was.sets

    pub use_is : IsSome (maps.get uses (use_name dg u))
    use_is = subst IsSome (sym (told_value dg uses u told_first_one)) refl

    -- the last of its key
    module _ (none : times (has_key (use_key u)) us ≡ 0) where
      no_name_left : times (has_name dg (use_name dg u)) us ≡ 0
      no_name_left =
          none_by (has_name dg (use_name dg u)) (λ v. not (is_told dg uses v)) (has_key (use_key u))
          (λ v h e. from_one (use_key u) (use_key v) (ap use_key (one_told dg uses u v told_first_one (not_true (is_told dg uses v) e) h))) us told_others none

      left_told : (v : SetUse) → not (is_told dg (maps.remove uses (use_name dg u)) v) ≡ true → not (is_told dg uses v) ≡ false → has_name dg (use_name dg u) v ≡ true
      left_told v h e =
          whether (same_text (use_name dg v) (use_name dg u))
          (λ same. from_one (use_name dg u) (use_name dg v) (sym (one_text (use_name dg v) (use_name dg u) same)))
          (λ other. not_both (is_told dg uses v) (not_true (is_told dg uses v) e)
          (sym (ap (is_use v) (get_remove uses (use_name dg u) (use_name dg v) ∙ ap (λ b. cond b None (maps.get uses (use_name dg v))) other))
          ∙ opposite (is_told dg (maps.remove uses (use_name dg u)) v) h))

      pub told_last : AreTold dg (maps.remove uses (use_name dg u)) us
      told_last = record {
        names = λ q.
            ap is_some (get_remove uses (use_name dg u) q)
            ∙ whether (same_text q (use_name dg u))
            (λ h. ap (λ b. is_some (cond b None (maps.get uses q))) h ∙ sym (ap (λ n. not (n == 0)) (ap (λ t. times (has_name dg t) us) (one_text q (use_name dg u) h) ∙ no_name_left)))
            (λ h. ap (λ b. is_some (cond b None (maps.get uses q))) h ∙ was.names q ∙ sym (some_without (has_name dg q u) (times (has_name dg q) us) h));
        sets = none_by (λ v. not (is_told dg (maps.remove uses (use_name dg u)) v)) (λ v. not (is_told dg uses v)) (has_name dg (use_name dg u)) left_told us told_others no_name_left;
      }

    -- not the last of its key
    module _ (some : times (has_key (use_key u)) us ≡ 0 → ⊥) where
      some_name : times (has_name dg (use_name dg u)) us ≡ 0 → ⊥
      some_name none = some (none_with (has_key (use_key u)) (has_name dg (use_name dg u)) (λ v k. key_has_name dg u v k) us none)

      pub told_still : AreTold dg uses us
      told_still = record {
        names = λ q.
            was.names q
            ∙ whether (has_name dg q u)
            (λ h. sym (some_with (has_name dg q u) (times (has_name dg q) us) h)
            ∙ sym (ap not (is_some_number (times (has_name dg q) us) (λ none. some_name (ap (λ t. times (has_name dg t) us) (sym (one_text q (use_name dg u) h)) ∙ none)))))
            (λ h. sym (some_without (has_name dg q u) (times (has_name dg q) us) h));
        sets = told_others;
      }

-- ---- both

-- in whatever order
pub held_same : (dg : Digest) (counts : Counts) (uses : Uses) (us vs : List SetUse) → AreSame us vs → AreHeld dg counts uses us → AreHeld dg counts uses vs
held_same dg counts uses us vs same h = record {
  counts_are = λ key. h.counts_are key ∙ same (has_key key);
  told_are = record {
    names = λ name. h.told_are.names name ∙ ap (λ n. not (n == 0)) (same (has_name dg name));
    sets = sym (same (λ u. not (is_told dg uses u))) ∙ h.told_are.sets;
  };
}

module _ (dg : Digest) (counts : Counts) (uses : Uses) (us : List SetUse) (u : SetUse) where
  module _ (was : AreHeld dg counts uses us) (apart : times (clashes dg u) us ≡ 0) where
    pub first_is_absent : (count_at counts (use_key u) == 0) ≡ true → maps.contains_key uses (use_name dg u) ≡ false
    first_is_absent first = absent dg uses us u was.told_are apart (sym (was.counts_are (use_key u)) ∙ same_numbers (count_at counts (use_key u)) 0 first)

    pub held_first : (count_at counts (use_key u) == 0) ≡ true → AreHeld dg (maps.insert counts (use_key u) (count_at counts (use_key u) + 1)) (maps.insert uses (use_name dg u) u) (u ∷ us)
    held_first first = record {
      counts_are = counts_more counts us u was.counts_are;
      told_are = told_first dg uses us u was.told_are apart (sym (was.counts_are (use_key u)) ∙ same_numbers (count_at counts (use_key u)) 0 first);
    }

    pub held_again : (count_at counts (use_key u) == 0) ≡ false → AreHeld dg (maps.insert counts (use_key u) (count_at counts (use_key u) + 1)) uses (u ∷ us)
    held_again more = record {
      counts_are = counts_more counts us u was.counts_are;
      told_are = told_again dg uses us u was.told_are apart (λ none. not_none (count_at counts (use_key u)) more (was.counts_are (use_key u) ∙ none));
    }

  module _ (was : AreHeld dg counts uses (u ∷ us)) where
    pub last_is_there : IsSome (maps.get uses (use_name dg u))
    last_is_there = use_is dg uses us u was.told_are

    pub held_last : ((count_at counts (use_key u) - 1) == 0) ≡ true → AreHeld dg (with_count counts (use_key u) (count_at counts (use_key u) - 1)) (maps.remove uses (use_name dg u)) us
    held_last last = record {
      counts_are = counts_less counts us u was.counts_are;
      told_are = told_last dg uses us u was.told_are (sym (others_count counts us u was.counts_are) ∙ same_numbers (count_at counts (use_key u) - 1) 0 last);
    }

    pub held_still : ((count_at counts (use_key u) - 1) == 0) ≡ false → AreHeld dg (with_count counts (use_key u) (count_at counts (use_key u) - 1)) uses us
    held_still more = record {
      counts_are = counts_less counts us u was.counts_are;
      told_are = told_still dg uses us u was.told_are (λ none. not_none (count_at counts (use_key u) - 1) more (others_count counts us u was.counts_are ∙ none));
    }
