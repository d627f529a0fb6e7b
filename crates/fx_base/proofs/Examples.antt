-- Definitions at small values.
use Rattle.std.proofs.Common.{◌≡◌, ◌+◌, ◌-◌, ◌^◌, ◌==◌, ℕ, true, false, cond, [], ◌∷◌, Option, Some, None, refl, arith}
use Rattle.fx_base.specs.Grouped.{has_key}
use Rattle.fx_base.specs.Passing.{passes}
use Rattle.fx_base.specs.Projected.{projected_entries}
use Rattle.fx_base.specs.Ticks.{ticked, IsTicked}
use Rattle.std.specs.Ordering.{nat_cmp}

-- a value without the part is left out
abbrev next_of : ℕ → Option ℕ
next_of n = cond (n == 0) None (Some (n + 1))

parts : projected_entries {K = ℕ} next_of ((1, 5) ∷ (2, 0) ∷ (3, 7) ∷ []) ≡ (1, 6) ∷ ((3, 8) ∷ [])
parts = refl

-- what isn't there passes no test
absent_fails : passes (λ (e : ℕ × ℕ). true) 1 None ≡ false
absent_fails = refl

five_passes : passes (λ (e : ℕ × ℕ). e.1 == 5) 1 (Some 5) ≡ true
five_passes = refl

-- no set holds nothing
none_held : has_key {Q = nat_cmp} None 1 ≡ false
none_held = refl

-- two ticks of a count that has room for one
full : ticked 2 (2 ^ 64 - 2) ≡ 2 ^ 64 - 1
full = refl

two_of_three : IsTicked 1 3 5 7
two_of_three = record { count = 2; number = refl; enough = omega arith; few = omega arith }
