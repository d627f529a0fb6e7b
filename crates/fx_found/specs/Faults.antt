-- What code answers of rows.
use Rattle.std.specs.Prelude.{◌≡◌, ◌⊎◌, Result, Ok, Err}
use Rattle.fx_found.specs.declared.found.FoundFault.{FoundFault}
use Rattle.fx_found.specs.declared.found.FoundFault.TheVariants.{Memory}

-- the fault of the rows, unless memory is wanted
abbrev pub IsFoundFault : {A : Type 0} → Result A FoundFault → FoundFault → Type 0
IsFoundFault answer told = (told ≡ Memory) ⊎ (answer ≡ Err told)

-- what is found or the fault, unless memory is wanted
abbrev pub IsAnswerOf : {A : Type 0} → Result A FoundFault → Result A FoundFault → Type 0
IsAnswerOf answer (Ok x) = answer ≡ Ok x
IsAnswerOf answer (Err told) = IsFoundFault answer told
