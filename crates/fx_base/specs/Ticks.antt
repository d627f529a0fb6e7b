-- Counts that grow tick by tick.
use Rattle.std.specs.Prelude.{◌≡◌, ◌≤◌, ℕ, zero, suc, ◌+◌, ◌-◌, ◌^◌, min}

-- a count after so many ticks more; at 2 ^ 64 - 1 it stays
abbrev pub ticked : ℕ → ℕ → ℕ
ticked zero count = count
ticked (suc n) count = ticked n (min (count + 1) (2 ^ 64 - 1))

-- so many ticks at least and at most were made, from one count to another
pub record IsTicked (least most old new : ℕ) : Type 0 where
  pub count : ℕ
  pub number : new ≡ ticked count old
  pub enough : least ≤ count
  pub few : count ≤ most
