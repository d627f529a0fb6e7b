-- An end that is read isn't below the first port.
use Rattle.std.proofs.Common.{◌≡◌, ◌≤◌, ℕ, Bool, true, false, Some, None, Option, refl, sym}
use Rattle.std.specs.Prelude.{nat_le, ◌&&◌, if◌then◌else◌, option_and_then}
use Rattle.std.proofs.lemmas.Bool.{leb-true}
use Rattle.serde_json.specs.Data.{Data}
use Rattle.serde_json.specs.Find.{as_number, as_u64}
use Rattle.fx_fields.specs.Forms.{passing}
use Rattle.fx_fields.specs.Values.{whole_in}
use Rattle.fx_fields.proofs.Readings.{first_of}

passed : (test : ℕ → Bool) (o : Option ℕ) (n : ℕ) → passing test o ≡ Some n → test n ≡ true
passed test None n e = cc
passed test (Some m) n e = by (test m) refl e
  where
    by : (b : Bool) → test m ≡ b → (if b then Some m else None) ≡ Some n → test n ≡ true
    by true t is = let same : m ≡ n = cc in rw (sym same) t
    by false t is = cc

pub not_below : (low : ℕ) (d : Data) (n : ℕ) → whole_in low 65535 d ≡ Some n → low ≤ n
not_below low d n e =
    leb-true low n (first_of (nat_le low n) (nat_le n 65535) (passed (λ m. nat_le low m && nat_le m 65535) (option_and_then as_u64 (as_number d)) n e))
