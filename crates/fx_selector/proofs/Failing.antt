-- A fault that is handed on.
use Rattle.std.proofs.Common.{◌≡◌, ℕ, List}
use Rattle.fx_selector.specs.Reading.{Cause, Res, Stop}
use Rattle.fx_selector.specs.declared.fault.ParseError.{ParseError}
use Rattle.fx_selector.specs.declared.fault.ParseError.TheVariants.{Memory, At}
use Rattle.fx_selector.specs.Gives.{Fails}

pub fails_on : {A B : Type 0} (e : ParseError) (x : Res A) (y : Res B) → Fails e x → ((why : Cause) (rest : List ℕ) → x ≡ Stop why rest → y ≡ Stop why rest) → Fails e y
fails_on Memory x y h k = tt
fails_on (At f n) x y h k = (h.0, k _ _ h.1, h.2)
