-- What a line says, by what was read of it.
use Rattle.std.proofs.Common.{◌≡◌, inl, inr, true, false, Option, Some, None, option_map, Result, Ok, Err, sym, ap, ◌∙◌}
use Rattle.serde_json.specs.Data.{Data}
use Rattle.serde_json.specs.declared.value.Value.{Value}
use Rattle.serde_json.specs.View.{view}
use Rattle.fx_fields.specs.declared.refusal.Refusal.{Refusal}
use Rattle.fx_fields.specs.Refusals.{Refuses}
use Rattle.fx_lines.specs.Commands.{viewed}
use Rattle.fx_found.specs.declared.found.FoundFault.{FoundFault}
use Rattle.fx_found.specs.Faults.{IsFoundFault}
use Rattle.fx_restart_lines.specs.Refusals.{is_memory}

no_truth : {A : Type 0} → true ≡ false → A
no_truth e = cc

-- what code answers is the definition's where it doesn't want memory
pub refused_rows : {A : Type 0} (answer : Result A FoundFault) (fault : FoundFault) → is_memory fault ≡ false → IsFoundFault answer fault → answer ≡ Err fault
refused_rows answer fault none h = elim h as (λ _. answer ≡ Err fault) [
  | inl is ↦ no_truth (sym (ap is_memory is) ∙ none)
  | inr is ↦ is
]

-- what was read of a line is its value
pub read_value : (answer : Result (Option Data) Refusal) (value : Option Value) → Refuses answer (viewed (Ok value)) → answer ≡ Ok (option_map view value)
read_value answer None is = is
read_value answer (Some v) is = is
