-- What an engine answers to updates, each answer by its cause. Want of memory is the one free answer.
use Rattle.std.specs.Prelude.{◌≡◌, Bool, true, false, Option, Some, ⊤}
use Rattle.fx_names.specs.Claims.{Clash}
use Rattle.fx_engine.specs.declared.fault.UpdateFault.{UpdateFault}
use Rattle.fx_engine.specs.declared.fault.UpdateFault.TheVariants as update

-- whether memory had run out before, and whether the update clashes
abbrev pub IsUpdateCause : Bool → Option Clash → UpdateFault → Type 0
IsUpdateCause failed clash (update.Taken name holder) = (failed ≡ false) × (clash ≡ Some (record { name = name; holder = holder }))
IsUpdateCause failed clash update.Memory = failed ≡ false
IsUpdateCause failed clash update.NeedsResync = failed ≡ true

-- all stays, or memory has run out
abbrev pub UpdateLeaves : (same : Type 0) → (failed : Bool) → UpdateFault → Type 0
UpdateLeaves same failed (update.Taken name holder) = same
UpdateLeaves same failed update.Memory = failed ≡ true
UpdateLeaves same failed update.NeedsResync = same

-- it stays where the update is refused; where memory ran out, nothing is said of it
abbrev pub StaysIfRefused : (same : Type 0) → UpdateFault → Type 0
StaysIfRefused same (update.Taken name holder) = same
StaysIfRefused same update.Memory = ⊤
StaysIfRefused same update.NeedsResync = same
