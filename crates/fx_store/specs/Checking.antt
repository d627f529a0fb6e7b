-- What the answer of a check tells.
use Rattle.std.specs.Prelude.{◌≡◌, ⊤, Option, Some, None, Result, MatchResult}
use Rattle.fx_names.specs.Claims.{Clash}
use Rattle.fx_store.specs.declared.fault.CheckFault.{CheckFault}
use Rattle.fx_store.specs.declared.fault.CheckFault.TheVariants.{Taken, Memory}

-- a fault is the clash, if it isn't want of memory
abbrev pub IsCheckFault : CheckFault → Option Clash → Type 0
IsCheckFault (Taken name holder) o = o ≡ Some (record { name = name; holder = holder })
IsCheckFault Memory o = Unit

-- all is well where nothing clashes
abbrev pub Tells : {T : Type 0} → Result T CheckFault → Option Clash → Type 0
Tells r o = MatchResult r (λ _. o ≡ None) (λ e. IsCheckFault e o)

-- all stays, unless there was no memory
abbrev pub StaysIfTaken : (same : Type 0) → CheckFault → Type 0
StaysIfTaken same (Taken name holder) = same
StaysIfTaken same Memory = ⊤
