-- What counts as an accepted update behind a flush, on lines that are known, and a limit that is enough.
use Rattle.std.proofs.Common.{◌≡◌, ℕ, List, [], ◌∷◌, Option, Some, Ok, Err, is_some, sym, ap, ◌∙◌, subst, Result}
use Rattle.fx_fields.specs.declared.refusal.Refusal.{Refusal}
use Rattle.fx_lines.specs.Commands.{command_of}
use Rattle.fx_lines.specs.declared.commands.Command.{Command}
use Rattle.fx_lines.specs.declared.commands.Command.TheVariants as command
use Rattle.fx_laws.proofs.Flushes.{flush-ends}
use Rattle.fx_laws.proofs.Nearer.{nothing_to_send}
use Rattle.fx_model.specs.Messages.{differences, next_message}
use Rattle.fx_model.specs.Views.{view_of}
use Rattle.fx_model.specs.declared.resources.Update.TheVariants as update
use Rattle.fx_model.specs.declared.view.View.{View}
use Rattle.felix_replay.specs.Flushing.{IsUpdate, HaveNoUpdate, LeavesNone}
use Rattle.fx_replay.specs.Output.{State, checked, next}

-- a blank line
pub blank_line : (s : State) (line : List ℕ) → command_of line ≡ Ok command.Blank → HaveNoUpdate s (line ∷ [])
unfolding HaveNoUpdate
blank_line s line said = (subst (λ (answer : Result Command Refusal). ¬ IsUpdate (checked s.digest s.resources answer)) (sym said) (λ is. is), tt)

-- a line that says that the resources are in sync, which clashes with nothing
pub in_sync : (s : State) (line : List ℕ) → command_of line ≡ Ok (command.Update update.InSync) → ¬ HaveNoUpdate s (line ∷ [])
unfolding HaveNoUpdate
in_sync s line said none =
    none.0 (subst (λ (answer : Result Command Refusal). IsUpdate (checked s.digest s.resources answer)) (sym said) tt)

-- a batch, even one without updates, which clashes with nothing
pub empty_batch : (s : State) (line : List ℕ) → command_of line ≡ Ok (command.Batch []) → ¬ HaveNoUpdate s (line ∷ [])
unfolding HaveNoUpdate
empty_batch s line said none =
    none.0 (subst (λ (answer : Result Command Refusal). IsUpdate (checked s.digest s.resources answer)) (sym said) tt)

-- a flush again, and a line that is refused
pub flush_and_refusal : (s : State) (flush line : List ℕ) (limit : Option ℕ) (r : Refusal) → command_of flush ≡ Ok (command.Flush limit) → command_of line ≡ Err r → HaveNoUpdate s (flush ∷ line ∷ [])
unfolding HaveNoUpdate
flush_and_refusal s flush line limit r said refused =
    let quiet : Result Command Refusal → State → Type 0 = λ answer t. ¬ IsUpdate (checked t.digest t.resources answer) in (
      subst (λ (answer : Result Command Refusal). quiet answer s) (sym said) (λ is. is),
      (subst (λ (answer : Result Command Refusal). quiet answer (next s flush)) (sym refused) (λ is. is), tt),
    )

-- a limit of as many messages as there are differences is enough
pub enough : (s : State) → LeavesNone (Some (differences s.sent (view_of s.digest s.resources))) s
enough s =
    let w = view_of s.digest s.resources in
    ap (λ (v : View). is_some (next_message v w)) (flush-ends s.sent w) ∙ ap is_some (nothing_to_send w)
