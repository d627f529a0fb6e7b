-- Steps that wrap at 2 ^ 64 come to the number that wraps once.
use Rattle.std.proofs.Common.{◌≡◌, ℕ, ◌+◌, ◌*◌, ◌/◌, ◌%◌, ◌^◌, ap, ◌∙◌}
use Rattle.std.proofs.lemmas.Nat.{mul-mod_first}
use Rattle.std.proofs.Math.Nat.{mod-add-mod}
use Rattle.fx_gen.specs.Generator.{drawn}

wraps_once : (m s i a c : ℕ) → (((s + i) % m + 1) % m * a % m + c) % m ≡ ((s + i + 1) * a + c) % m
wraps_once m s i a c =
    let moved : ((s + i) % m + 1) % m ≡ (s + i + 1) % m = mod-add-mod (s + i) m 1 in
    let times : ((s + i) % m + 1) % m * a % m ≡ (s + i + 1) * a % m = ap (λ (n : ℕ). n * a % m) moved ∙ mul-mod_first (s + i + 1) a m in
    ap (λ (n : ℕ). (n + c) % m) times ∙ mod-add-mod ((s + i + 1) * a) m c

pub drawn_wraps : (seed index : ℕ) → (((seed + index) % 2 ^ 64 + 1) % 2 ^ 64 * 6364136223846793005 % 2 ^ 64 + 1442695040888963407) % 2 ^ 64 / 2 ^ 33 ≡ drawn seed index
drawn_wraps seed index = ap (λ (n : ℕ). n / 2 ^ 33) (wraps_once (2 ^ 64) seed index 6364136223846793005 1442695040888963407)
