-- Counts of operations that are made one after another.
use Rattle.std.proofs.Common.{◌≡◌, ◌≤◌, ℕ, suc, ◌+◌, refl, ap, ◌∙◌, arith}
use Rattle.fx_base.specs.Ticks.{ticked}
use Rattle.fx_base.proofs.TickLemmas.{ticked-sum, ticked-most}

-- first so many operations, and then others
pub then_counted : (m n before now after : ℕ) → now ≡ ticked n before → after ≡ ticked m now → after ≡ ticked (n + m) before
then_counted m n before now after first then = then ∙ ap (ticked m) first ∙ ticked-sum m n before

pub then_at_most : (m n before now after : ℕ) → now ≡ ticked n before → after ≤ now + m → after ≤ before + (n + m)
then_at_most m n before now after first then = omega (arith, then, first, ticked-most n before)

-- in a loop these are counted, and those that are left are to be counted
pub record IsCounting (before now all left : ℕ) : Type 0 where
  pub whole : ticked left now ≡ ticked all before
  pub most : now + left ≤ before + all

pub counting_begun : (before all : ℕ) → IsCounting before before all all
counting_begun before all = record { whole = refl; most = omega arith }

pub counting_next : (before now next all left : ℕ) → IsCounting before now all (suc left) → next ≡ ticked 1 now → IsCounting before next all left
counting_next before now next all left i is = record {
  whole = ap (ticked left) is ∙ i.whole;
  most = omega (arith, i.most, is, ticked-most 1 now);
}
