-- An update is made, or the line is refused; and what holds after a call.
use Rattle.std.proofs.Common.{◌≡◌, [], Bool, true, false, Option, None, Some, Result, Ok, Err, refl, sym, ap}
use Rattle.std.specs.Prelude.{OnOk}
use Rattle.fx_names.specs.Claims.{Clash}
use Rattle.fx_model.specs.declared.resources.Update.{Update}
use Rattle.fx_fields.specs.declared.refusal.Refusal.TheVariants.{Taken}
use Rattle.fx_program.specs.Answers.{accepted_text, refusal_in, settled}
use Rattle.fx_host_lines.specs.declared.command.HostCommand.{HostCommand}
use Rattle.fx_host_lines.specs.declared.command.HostCommand.TheVariants as command
use Rattle.felix_host.specs.Output.{State, unless_taken, accepted, command_text}

module _ (o : Option Clash) (asked : HostCommand) where
  -- nothing clashes
  pub free_settled : (s : State) → o ≡ None → settled accepted s (unless_taken o asked) ≡ accepted s asked
  free_settled s free = ap (λ (p : Option Clash). settled accepted s (unless_taken p asked)) free

  pub free_told : o ≡ None → None ≡ refusal_in (unless_taken o asked)
  free_told free = sym (ap (λ (p : Option Clash). refusal_in (unless_taken p asked)) free)

  -- a name is taken
  module _ (clash : Clash) (is : o ≡ Some clash) where
    pub taken_settled : (s : State) → settled accepted s (unless_taken o asked) ≡ s
    taken_settled s = ap (λ (p : Option Clash). settled accepted s (unless_taken p asked)) is

    pub taken_told : Some (Taken clash.name clash.holder) ≡ refusal_in (unless_taken o asked)
    taken_told = sym (ap (λ (p : Option Clash). refusal_in (unless_taken p asked)) is)

-- an update writes nothing, whether it is made or not
pub untold : (s : State) (u : Update) (o : Option Clash) → accepted_text command_text s (unless_taken o (command.Update u)) ≡ []
untold s u None = refl
untold s u (Some clash) = refl

-- an engine whose memory never ran out
pub no_resync : {A : Type 0} (failed : Bool) → failed ≡ false → failed ≡ true → A
no_resync failed still was = cc

-- what holds anyway holds after a call that succeeds
pub on_ok_always : {T E P : Type 0} (r : Result T E) → P → OnOk r P
on_ok_always (Ok x) holds = holds
on_ok_always (Err e) holds = tt
