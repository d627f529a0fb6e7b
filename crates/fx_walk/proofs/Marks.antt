-- Marks as bits: what MARK leaves, and what a match on the mark says.
use Rattle.std.proofs.Common.{◌≡◌, ◌<◌, ◌≢◌, ℕ, zero, ◌+◌, ◌-◌, ◌%◌, ◌^◌, min, true, false, bit_and, refl, ap, ◌∙◌, arith, eq-eqb, ne_eqb}
use Rattle.std.specs.Int.{bit_at, bit_not, w32}
use Rattle.std.proofs.lemmas.Nat.Bits.{bit_at_and, bit_at_xor, bit_at_not, bit_at-pow_same, bit_at-pow_other, and_pow}
use Rattle.std.proofs.lemmas.Nat.{pow_pos, pow_below}
use Rattle.std.proofs.Math.Nat.{zero-div}
use Rattle.fx_model.specs.declared.packet.Packet.{Packet}
use Rattle.fx_model.specs.declared.chain.Match.TheVariants as match
use Rattle.fx_model.specs.Tables.{Sets}
use Rattle.fx_model.specs.Machine.{holds, marked}

pub bit_at_zero : (i : ℕ) → bit_at 0 i ≡ 0
bit_at_zero i = ap (λ x. x % 2) (zero-div (2 ^ i))

bit_below : (m i : ℕ) → bit_at m i < 2
bit_below m i = omega arith

marked_bit : (m v k i : ℕ) → k < 2 ^ 32 → i < 32 → bit_at (marked m v k) i ≡ (min (bit_at m i) (1 - bit_at k i) + bit_at v i) % 2
marked_bit m v k i lk li = bit_at_xor (bit_and m (bit_not w32 k)) v i ∙ rw (bit_at_and, bit_at_not w32 k i lk li) refl

below : (j : ℕ) → j < 32 → 2 ^ j < 2 ^ 32
below j h = pow_below j 32 h

pub set_same : (m j : ℕ) → j < 32 → bit_at (marked m (2 ^ j) (2 ^ j)) j ≡ 1
set_same m j h = marked_bit m (2 ^ j) (2 ^ j) j (below j h) h ∙ rw bit_at-pow_same (omega arith)

pub set_other : (m j i : ℕ) → j < 32 → i < 32 → i ≢ j → bit_at (marked m (2 ^ j) (2 ^ j)) i ≡ bit_at m i
set_other m j i h hi ne = marked_bit m (2 ^ j) (2 ^ j) i (below j h) hi ∙ rw (bit_at-pow_other j i ne) (omega (arith, bit_below m i))

pub clear_same : (m j : ℕ) → j < 32 → bit_at (marked m 0 (2 ^ j)) j ≡ 0
clear_same m j h = marked_bit m 0 (2 ^ j) j (below j h) h ∙ rw (bit_at-pow_same, bit_at_zero j) (omega arith)

pub clear_other : (m j i : ℕ) → j < 32 → i < 32 → i ≢ j → bit_at (marked m 0 (2 ^ j)) i ≡ bit_at m i
clear_other m j i h hi ne = marked_bit m 0 (2 ^ j) i (below j h) hi ∙ rw (bit_at-pow_other j i ne, bit_at_zero i) (omega (arith, bit_below m i))

-- a bit is tested for 1, or for 0
pub is_one : (sets : Sets) (a : Packet) (m j : ℕ) → bit_at m j ≡ 1 → holds sets a m (match.Mark (2 ^ j) (2 ^ j)) ≡ true
unfolding holds
is_one sets a m j e = eq-eqb _ _ (and_pow m j ∙ rw e (omega arith))

pub is_not_one : (sets : Sets) (a : Packet) (m j : ℕ) → bit_at m j ≡ 0 → holds sets a m (match.Mark (2 ^ j) (2 ^ j)) ≡ false
unfolding holds
is_not_one sets a m j e = ne_eqb _ _ (λ (q : bit_and m (2 ^ j) ≡ 2 ^ j). let z : bit_and m (2 ^ j) ≡ 0 = and_pow m j ∙ rw e (omega arith) in let p : zero < 2 ^ j = pow_pos j in absurd (omega arith))

pub is_zero : (sets : Sets) (a : Packet) (m j : ℕ) → bit_at m j ≡ 0 → holds sets a m (match.Mark 0 (2 ^ j)) ≡ true
unfolding holds
is_zero sets a m j e = eq-eqb _ _ (and_pow m j ∙ rw e (omega arith))

pub is_not_zero : (sets : Sets) (a : Packet) (m j : ℕ) → bit_at m j ≡ 1 → holds sets a m (match.Mark 0 (2 ^ j)) ≡ false
unfolding holds
is_not_zero sets a m j e = ne_eqb _ _ (λ (q : bit_and m (2 ^ j) ≡ 0). let z : bit_and m (2 ^ j) ≡ 2 ^ j = and_pow m j ∙ rw e (omega arith) in let p : zero < 2 ^ j = pow_pos j in absurd (omega arith))
