-- What the sink has of profiles, as one is listed once more or once less.
use Rattle.std.proofs.Common.{◌≡◌, ℕ, ◌+◌, ◌==◌, true, false, cond, nat_eq, List, Option, Some, None, refl, sym, ap, ◌∙◌, arith}
use Rattle.std.specs.Cmp.Lexicographic.{pointwise}
use Rattle.std.specs.FinMap.{get, insert, remove}
use Rattle.fx_base.specs.Same.{same_bytes}
use Rattle.fx_base.proofs.AtKey.{get_insert, get_remove}
use Rattle.fx_model.specs.Sinks.{Profiles}
use Rattle.fx_active.specs.Inputs.{Named}
use Rattle.fx_active.specs.Indexes.{Counts, count_at, AreCounted}
use Rattle.std.proofs.lemmas.Bool.Decides.{nat_tests}
use Rattle.fx_active.proofs.CountLemmas.{tied_names}

none_not : (n : ℕ) → (1 + n == 0) ≡ false
none_not n = grind (arith, nat_tests)

none_more : (n : ℕ) → 0 + n ≡ n
none_more n = omega arith

-- of a profile that is counted n times
abbrev pub profile_at : {A : Type 0} → ℕ → A → Option A
profile_at n x = cond (n == 0) None (Some x)

module _ (ps : Named) (m now : Counts) (k : List ℕ) (Q then : Profiles) (is : AreCounted ps m Q) where
  module _ (raised : (q : List ℕ) → count_at now q ≡ cond (pointwise nat_eq k q) 1 0 + count_at m q) where
    -- at another name nothing changes, and at this one the count isn't none
    at_raised : (q : List ℕ) → cond (pointwise nat_eq k q) (Some (get ps k)) (profile_at (count_at m q) (get ps q)) ≡ profile_at (count_at now q) (get ps q)
    at_raised q =
        elim (pointwise nat_eq k q) as (λ b. pointwise nat_eq k q ≡ b → cond b (Some (get ps k)) (profile_at (count_at m q) (get ps q)) ≡ profile_at (cond b 1 0 + count_at m q) (get ps q)) [
          | true ↦ λ e. ap (λ n. Some (get ps n)) (same_bytes k q e) ∙ ap (λ b. cond b None (Some (get ps q))) (sym (none_not (count_at m q)))
          | false ↦ λ e. ap (λ n. profile_at n (get ps q)) (sym (none_more (count_at m q)))
        ] refl
        ∙ ap (λ n. profile_at n (get ps q)) (sym (raised q))

    pub listed_first : then ≡ insert Q k (get ps k) → AreCounted ps now then
    listed_first e q =
        ap (λ m. get m q) e ∙ get_insert Q k (get ps k) q ∙ ap (λ b. cond b (Some (get ps k)) (get Q q)) (tied_names q k)
        ∙ ap (cond (pointwise nat_eq k q) (Some (get ps k))) (is q) ∙ at_raised q

  module _ (lowered : (q : List ℕ) → cond (pointwise nat_eq k q) 1 0 + count_at now q ≡ count_at m q) where
    pub unlisted_last : then ≡ remove Q k → (count_at now k == 0) ≡ true → AreCounted ps now then
    unlisted_last e none q =
        ap (λ m. get m q) e ∙ get_remove Q k q ∙ ap (λ b. cond b None (get Q q)) (tied_names q k)
        ∙ ap (cond (pointwise nat_eq k q) None) (is q ∙ ap (λ n. profile_at n (get ps q)) (sym (lowered q)))
        ∙ elim (pointwise nat_eq k q) as (λ b. pointwise nat_eq k q ≡ b → cond b None (profile_at (cond b 1 0 + count_at now q) (get ps q)) ≡ profile_at (count_at now q) (get ps q)) [
          | true ↦ λ e. ap (λ b. cond b None (Some (get ps q))) (sym none ∙ ap (λ n. count_at now n == 0) (same_bytes k q e))
          | false ↦ λ e. ap (λ n. profile_at n (get ps q)) (none_more (count_at now q))
        ] refl
