-- What is asked of a flush that leaves no message: behind it, until the next accepted update or batch, the sent view is that of the
-- resources.
use Rattle.std.specs.Prelude.{◌≡◌, ℕ, List, [], ◌∷◌, ◌++◌, false, Option, Some, None, Result, Ok, Err}
use Rattle.fx_fields.specs.declared.refusal.Refusal.{Refusal}
use Rattle.fx_lines.specs.declared.commands.Command.{Command}
use Rattle.fx_lines.specs.declared.commands.Command.TheVariants as command
use Rattle.fx_model.specs.Views.{view_of}
use Rattle.fx_names.specs.Digests.{Digest}
use Rattle.fx_replay.specs.Output.{State, start, next, answer_of, leaves_more}
use Rattle.fx_run.specs.Run.{state_after}

-- an accepted update or batch
abbrev pub IsUpdate : Result Command Refusal → Type 0
IsUpdate (Ok command.Blank) = ⊥
IsUpdate (Ok command.Tables) = ⊥
IsUpdate (Ok (command.Flush limit)) = ⊥
IsUpdate (Ok (command.Update u)) = Unit {0}
IsUpdate (Ok (command.Batch us)) = Unit {0}
IsUpdate (Ok (command.Packet a)) = ⊥
IsUpdate (Err r) = ⊥

-- none of these lines is an accepted update or batch
unfoldable pub HaveNoUpdate : State → List (List ℕ) → Type 0
HaveNoUpdate s [] = Unit {0}
HaveNoUpdate s (line ∷ lines) = (¬ IsUpdate (answer_of s line)) × HaveNoUpdate (next s line) lines

-- all was sent: the sent view is that of the resources
abbrev pub IsAllSent : State → Type 0
IsAllSent s = s.sent ≡ view_of s.digest s.resources

-- a flush leaves no message: it has no limit, or its limit is enough
abbrev pub LeavesNone : Option ℕ → State → Type 0
LeavesNone None s = Unit {0}
LeavesNone (Some n) s = leaves_more (Some n) s.sent (view_of s.digest s.resources) ≡ false

-- after any lines, a flush that leaves no message, and lines behind it of which none is an accepted update or batch, all was sent
abbrev pub FlushesSendAll : Digest → List ℕ → Type 0
FlushesSendAll dg node =
    (before : List (List ℕ)) (line : List ℕ) (limit : Option ℕ) (behind : List (List ℕ)) → let s = state_after next (start dg node) before in
    answer_of s line ≡ Ok (command.Flush limit) → LeavesNone limit s → HaveNoUpdate (next s line) behind → IsAllSent (state_after next (start dg node) (before ++ line ∷ behind))
