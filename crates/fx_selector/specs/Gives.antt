-- What a function returned is what reading gives, unless memory ran out.
use Rattle.std.specs.Prelude.{◌≡◌, ℕ, List, length, Result, Ok, Err}
use Rattle.fx_selector.specs.Reading.{Cause, unexpected, deep, long, Res, Got, Stop}
use Rattle.fx_selector.specs.declared.fault.Fault.{Fault}
use Rattle.fx_selector.specs.declared.fault.Fault.TheVariants.{Unexpected, TooDeep, KeyTooLong}
use Rattle.fx_selector.specs.declared.fault.ParseError.{ParseError}
use Rattle.fx_selector.specs.declared.fault.ParseError.TheVariants.{Memory, At}

abbrev pub cause : Fault → Cause
cause Unexpected = unexpected
cause TooDeep = deep
cause KeyTooLong = long

abbrev pub Fails : {Y : Type 0} → ParseError → Res Y → Type 0
Fails Memory read = Unit {0}
Fails (At f n) read = (rest : List ℕ) × (read ≡ Stop (cause f) rest) × (n ≡ length rest)

abbrev pub Gives : {X Y : Type 0} → (X → Y) → (X → List ℕ) → Result X ParseError → Res Y → Type 0
Gives view after (Ok x) read = read ≡ Got (view x) (after x)
Gives view after (Err e) read = Fails e read
