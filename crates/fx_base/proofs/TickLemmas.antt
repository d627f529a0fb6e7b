-- Ticks add up, and bounds on how many there were.
use Rattle.std.proofs.Common.{◌≡◌, ◌≤◌, ℕ, zero, suc, ◌+◌, ◌-◌, ◌^◌, min, refl, sym, ap, ◌∙◌, subst, arith}
use Rattle.fx_base.specs.Ticks.{ticked, IsTicked}
use Rattle.fx_base.proofs.Cases.{none_more}

one_later : (m n : ℕ) → suc (n + m) ≡ suc n + m
one_later m n = omega arith

-- some ticks, and then others
pub ticked-sum : (m n count : ℕ) → ticked m (ticked n count) ≡ ticked (n + m) count
ticked-sum m zero count = ap (λ k. ticked k count) (none_more m)
ticked-sum m (suc n) count = ticked-sum m n (min (count + 1) (2 ^ 64 - 1)) ∙ ap (λ k. ticked k count) (one_later m n)

at_most_one : (n count after : ℕ) → after ≤ min (count + 1) (2 ^ 64 - 1) + n → after ≤ count + suc n
at_most_one n count after h = omega (arith, h)

-- no tick counts twice
pub ticked-most : (n count : ℕ) → ticked n count ≤ count + n
ticked-most zero count = omega arith
ticked-most (suc n) count = at_most_one n count _ (ticked-most n (min (count + 1) (2 ^ 64 - 1)))

one_exactly : (n count after : ℕ) → count + suc n ≤ 2 ^ 64 - 1 → after ≡ min (count + 1) (2 ^ 64 - 1) + n → after ≡ count + suc n
one_exactly n count after fits h = omega (arith, fits, h)

one_fits : (n count : ℕ) → count + suc n ≤ 2 ^ 64 - 1 → min (count + 1) (2 ^ 64 - 1) + n ≤ 2 ^ 64 - 1
one_fits n count fits = omega (arith, fits)

-- each tick counts where the count has room
pub ticked-fits : (n count : ℕ) → count + n ≤ 2 ^ 64 - 1 → ticked n count ≡ count + n
ticked-fits zero count fits = omega arith
ticked-fits (suc n) count fits = one_exactly n count _ fits (ticked-fits n (min (count + 1) (2 ^ 64 - 1)) (one_fits n count fits))

no_tick : (count : ℕ) → min (count + 0) (2 ^ 64 - 1) ≤ count
no_tick count = omega arith

first_none : (count next : ℕ) → min (min (count + 1) (2 ^ 64 - 1) + 0) (2 ^ 64 - 1) ≤ next → min (count + 0) (2 ^ 64 - 1) ≤ next
first_none count next h = omega (arith, h)

first_one : (g count next : ℕ) → min (min (count + 1) (2 ^ 64 - 1) + g) (2 ^ 64 - 1) ≤ next → min (count + suc g) (2 ^ 64 - 1) ≤ next
first_one g count next h = omega (arith, h)

fewer : (g n : ℕ) → suc g ≤ suc n → g ≤ n
fewer g n h = omega (arith, h)

no_fewer : (g : ℕ) (A : Type 0) → suc g ≤ 0 → A
no_fewer g A h = absurd (omega (arith, h))

-- at least as many as were counted, up to the last number
pub ticked-least : (g n count : ℕ) → g ≤ n → min (count + g) (2 ^ 64 - 1) ≤ ticked n count
ticked-least zero zero count h = no_tick count
ticked-least (suc g) zero count h = no_fewer g _ h
ticked-least zero (suc n) count h = first_none count _ (ticked-least zero n (min (count + 1) (2 ^ 64 - 1)) (omega arith))
ticked-least (suc g) (suc n) count h = first_one g count _ (ticked-least g n (min (count + 1) (2 ^ 64 - 1)) (fewer g n h))

pub IsTicked-none : (count : ℕ) → IsTicked 0 0 count count
IsTicked-none count = record { count = 0; number = refl; enough = omega arith; few = omega arith }

pub IsTicked-one : (count : ℕ) → IsTicked 1 1 count (min (count + 1) (2 ^ 64 - 1))
IsTicked-one count = record { count = 1; number = refl; enough = omega arith; few = omega arith }

both_le : (a b c d : ℕ) → a ≤ b → c ≤ d → a + c ≤ b + d
both_le a b c d h k = omega (arith, h, k)

pub IsTicked-sum : (l m k n old mid new : ℕ) → IsTicked l m old mid → IsTicked k n mid new → IsTicked (l + k) (m + n) old new
IsTicked-sum l m k n old mid new a b = record {
  count = a.count + b.count;
  number = b.number ∙ ap (ticked b.count) a.number ∙ ticked-sum b.count a.count old;
  enough = both_le _ _ _ _ a.enough b.enough;
  few = both_le _ _ _ _ a.few b.few;
}

through : (a b c : ℕ) → a ≤ b → b ≤ c → a ≤ c
through a b c h k = omega (arith, h, k)

pub IsTicked-wider : (l m k n old new : ℕ) → k ≤ l → m ≤ n → IsTicked l m old new → IsTicked k n old new
IsTicked-wider l m k n old new h g a = record { count = a.count; number = a.number; enough = through _ _ _ h a.enough; few = through _ _ _ a.few g }

pub IsTicked-least : (l m old new : ℕ) → IsTicked l m old new → min (old + l) (2 ^ 64 - 1) ≤ new
IsTicked-least l m old new a = subst (λ n. min (old + l) (2 ^ 64 - 1) ≤ n) (sym a.number) (ticked-least l a.count old a.enough)
