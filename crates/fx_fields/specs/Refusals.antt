-- The numbers and names of refusals. docs/INPUT.md of this repository is their public source.
use Rattle.std.specs.Prelude.{◌≡◌, ◌⊎◌, ℕ, List, Bool, false, codes, Result, Ok, Err}
use Rattle.fx_fields.specs.declared.fault.ReadFault.TheVariants.{Memory}
use Rattle.fx_fields.specs.declared.refusal.Refusal.{Refusal}
use Rattle.fx_fields.specs.declared.refusal.Refusal.TheVariants.{Read, LineTooLong, BadJson, BadLine, Taken}
use Rattle.fx_fields.specs.Faults.{fault_number, fault_name, is_memory as is_memory_fault}

abbrev pub refusal_number : Refusal → ℕ
refusal_number (Read fault) = fault_number fault
refusal_number LineTooLong = 20
refusal_number BadJson = 21
refusal_number BadLine = 22
refusal_number (Taken name holder) = 30

abbrev pub refusal_name : Refusal → List ℕ
refusal_name (Read fault) = fault_name fault
refusal_name LineTooLong = codes "LineTooLong"
refusal_name BadJson = codes "BadJson"
refusal_name BadLine = codes "BadLine"
refusal_name (Taken name holder) = codes "Taken"

-- a want of memory tells nothing of the line
abbrev pub is_memory : Refusal → Bool
is_memory (Read fault) = is_memory_fault fault
is_memory LineTooLong = false
is_memory BadJson = false
is_memory BadLine = false
is_memory (Taken name holder) = false

-- What code answers of a line: what is read or the refusal, unless memory is wanted.
abbrev pub Refuses : {A : Type 0} → Result A Refusal → Result A Refusal → Type 0
Refuses answer (Ok x) = answer ≡ Ok x
Refuses answer (Err told) = (told ≡ Read Memory) ⊎ (answer ≡ Err told)
