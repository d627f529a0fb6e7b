-- The number with one digit more.
use Rattle.std.proofs.Common.{◌≡◌, ◌<◌, ◌≤◌, ◌+◌, ◌*◌, ◌^◌, inl, inr, ℕ, Bool, false, ◌&&◌, Option, Some, None, SomeIff, nat_lt, sym, ap, ◌∙◌, arith}
use Rattle.std.specs.Prelude.{if◌then◌else◌}
use Rattle.std.specs.Char.{digit_value}
use Rattle.std.proofs.lemmas.Bool.{and_from, and_left, and_right, le-ltb, lt-ltb, cases_lt}
use Rattle.fx_found.specs.Values.{with_digit}

at_least : (a b : ℕ) → ¬ (a < b) → b ≤ a
at_least a b none = elim (cases_lt a b) [ inl less ↦ absurd (none less) | inr more ↦ more ]

out : (base n c : ℕ) → (nat_lt (digit_value c) base && nat_lt (n * base + digit_value c) (2 ^ 32)) ≡ false → with_digit base n c ≡ None
out base n c e = ap (λ (b : Bool). if b then Some (n * base + digit_value c) else None) e

pub no_digit : (base n c : ℕ) → ¬ (digit_value c < base) → with_digit base n c ≡ None
no_digit base n c none = out base n c (and_left (nat_lt (digit_value c) base) (nat_lt (n * base + digit_value c) (2 ^ 32)) (le-ltb (digit_value c) base (at_least _ _ none)))

pub no_room : (base n c : ℕ) → ¬ (n * base + digit_value c < 2 ^ 32) → with_digit base n c ≡ None
no_room base n c none = out base n c (and_right (nat_lt (digit_value c) base) (nat_lt (n * base + digit_value c) (2 ^ 32)) (le-ltb (n * base + digit_value c) (2 ^ 32) (at_least _ _ none)))

pub no_product : (base n c : ℕ) → ¬ (n * base < 2 ^ 32) → with_digit base n c ≡ None
no_product base n c none = no_room base n c (λ less. none (omega (arith, less)))

pub one_more : (base n c digit product : ℕ) (o : Option ℕ) → digit ≡ digit_value c → digit_value c < base → product ≡ n * base → SomeIff o (product + digit < 2 ^ 32) (product + digit) → o ≡ with_digit base n c
one_more base n c digit product None same is times none =
    sym (no_room base n c (λ less. none (omega (arith, less, same, times))))
one_more base n c digit product (Some m) same is times held =
    let fits : n * base + digit_value c < 2 ^ 32 = omega (arith, held.0, same, times) in
    let value : m ≡ n * base + digit_value c = omega (arith, held.1, same, times) in
    ap Some value
    ∙ sym (ap (λ (b : Bool). if b then Some (n * base + digit_value c) else None) (and_from (nat_lt (digit_value c) base) (nat_lt (n * base + digit_value c) (2 ^ 32)) (lt-ltb (digit_value c) base is) (lt-ltb (n * base + digit_value c) (2 ^ 32) fits)))
