-- What is asked of a flush: behind it, until the next accepted change of the resources, the sent view is that of the
-- resources, and the places in reasons are those of their rules.
use Rattle.std.specs.Prelude.{◌≡◌, ℕ, List, [], ◌∷◌, ◌++◌, Result, Ok, Err}
use Rattle.fx_fields.specs.declared.refusal.Refusal.{Refusal}
use Rattle.fx_model.specs.Views.{view_of}
use Rattle.fx_names.specs.Digests.{Digest}
use Rattle.fx_run.specs.Run.{state_after}
use Rattle.fx_service_lines.specs.declared.command.ServicesCommand.{ServicesCommand}
use Rattle.fx_service_lines.specs.declared.command.ServicesCommand.TheVariants as command
use Rattle.felix_services.specs.Output.{State, start, next, answer_of}

-- an accepted change
abbrev pub IsChange : Result ServicesCommand Refusal → Type 0
IsChange (Ok command.Blank) = ⊥
IsChange (Ok command.Tables) = ⊥
IsChange (Ok command.Flush) = ⊥
IsChange (Ok (command.Change l)) = Unit {0}
IsChange (Ok (command.Packet a)) = ⊥
IsChange (Err r) = ⊥

-- none of these lines is one
unfoldable pub HaveNoChange : State → List (List ℕ) → Type 0
HaveNoChange s [] = Unit {0}
HaveNoChange s (line ∷ lines) = (¬ IsChange (answer_of s line)) × HaveNoChange (next s line) lines

-- all was sent
pub record IsFlushed (s : State) : Type 0 where
  pub view : s.replay.sent ≡ view_of s.replay.digest s.replay.resources
  pub places : s.flushed ≡ s.places

-- after any lines, a flush, and lines behind it of which none is an accepted change, all was sent
abbrev pub FlushesSendAll : Digest → List ℕ → Type 0
FlushesSendAll dg node =
    (before : List (List ℕ)) (line : List ℕ) (behind : List (List ℕ)) →
    let s = state_after next (start dg node) before in
    answer_of s line ≡ Ok command.Flush → HaveNoChange (next s line) behind
    → IsFlushed (state_after next (start dg node) (before ++ line ∷ behind))
