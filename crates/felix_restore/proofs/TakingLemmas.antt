-- Updates are made, or the line is refused.
use Rattle.std.proofs.Common.{◌≡◌, [], Bool, true, false, ◌∷◌, Option, None, Some, Result, Ok, Err, refl, sym, ap}
use Rattle.std.specs.Prelude.{OnOk}
use Rattle.fx_names.specs.Claims.{Clash}
use Rattle.fx_model.specs.Resources.{after}
use Rattle.fx_model.specs.declared.resources.Resources.{Resources}
use Rattle.fx_model.specs.declared.resources.Update.{Update}
use Rattle.fx_model.specs.declared.resources.Update.TheVariants as update
use Rattle.fx_laws.proofs.Records.{mark_stays-all}
use Rattle.fx_fields.specs.declared.refusal.Refusal.TheVariants.{Taken}
use Rattle.fx_program.specs.Answers.{refusal_in}
use Rattle.fx_restart_lines.specs.declared.command.RestoreCommand.{RestoreCommand}
use Rattle.fx_restart_lines.specs.declared.refusal.RestoreRefusal.TheVariants.{Line}
use Rattle.fx_restart_lines.specs.Finding.{passed}
use Rattle.felix_restore.specs.Output.{State, unless_taken, accepted, settled}
use Rattle.felix_restore.specs.Standing.{in_sync_after}

module _ (s : State) (command : RestoreCommand) (o : Option Clash) where
  -- nothing clashes
  pub free_settled : o ≡ None → settled s (unless_taken o command) ≡ accepted s command
  free_settled free = ap (λ (p : Option Clash). settled s (unless_taken p command)) free

  pub free_told : o ≡ None → None ≡ refusal_in (unless_taken o command)
  free_told free = sym (ap (λ (p : Option Clash). refusal_in (unless_taken p command)) free)

  -- a name is taken
  module _ (clash : Clash) (is : o ≡ Some clash) where
    pub taken_settled : settled s (unless_taken o command) ≡ record s { finding = passed s.finding }
    taken_settled = ap (λ (p : Option Clash). settled s (unless_taken p command)) is

    pub taken_told : Some (Line (Taken clash.name clash.holder)) ≡ refusal_in (unless_taken o command)
    taken_told = sym (ap (λ (p : Option Clash). refusal_in (unless_taken p command)) is)

-- whether the resources are in sync after an update
pub marked_after : (R : Resources) (u : Update) → in_sync_after R.in_sync u ≡ (after R u).in_sync
marked_after R update.InSync = refl
marked_after R (update.Put k x) = sym (mark_stays-all R (update.Put k x ∷ []) refl)
marked_after R (update.Delete k) = sym (mark_stays-all R (update.Delete k ∷ []) refl)

-- an agent whose memory never ran out
pub no_resync : {A : Type 0} (failed : Bool) → failed ≡ false → failed ≡ true → A
no_resync failed still was = cc

-- what holds anyway holds after a call that succeeds
pub on_ok_always : {T E P : Type 0} (r : Result T E) → P → OnOk r P
on_ok_always (Ok x) holds = holds
on_ok_always (Err e) holds = tt
