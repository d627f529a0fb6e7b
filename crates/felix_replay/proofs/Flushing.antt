-- A flush that leaves no message sends all, and no line but an accepted update or batch changes that.
use Rattle.std.proofs.Common.{◌≡◌, ℕ, List, [], ◌∷◌, Option, Some, None, Result, Ok, Err, sym, subst}
use Rattle.fx_fields.specs.declared.refusal.Refusal.{Refusal}
use Rattle.fx_lines.specs.declared.commands.Command.{Command}
use Rattle.fx_lines.specs.declared.commands.Command.TheVariants as command
use Rattle.fx_laws.proofs.Flushes.{flush-ends}
use Rattle.fx_model.specs.Messages.{flush}
use Rattle.fx_model.specs.Views.{view_of}
use Rattle.fx_names.specs.Digests.{Digest}
use Rattle.felix_replay.specs.Flushing.{IsUpdate, HaveNoUpdate, IsAllSent, LeavesNone, FlushesSendAll}
use Rattle.fx_program.specs.Answers.{settled}
use Rattle.fx_replay.specs.Output.{State, accepted, start, answer_of, next}
use Rattle.fx_replay.proofs.PortionLemmas.{nothing_left}
use Rattle.fx_replay.proofs.SendingLemmas.{reached}
use Rattle.fx_run.specs.Run.{state_after}
use Rattle.fx_run.proofs.Runs.{state_after-append}

-- a flush that leaves no message
flushed : (limit : Option ℕ) (s : State) → LeavesNone limit s → IsAllSent (accepted s (command.Flush limit))
flushed None s none = flush-ends s.sent (view_of s.digest s.resources)
flushed (Some n) s none = let w = view_of s.digest s.resources in reached (flush (Some n) s.sent w).ends w none

-- a flush where all was sent
still : (limit : Option ℕ) (s : State) → IsAllSent s → IsAllSent (accepted s (command.Flush limit))
still None s all = flush-ends s.sent (view_of s.digest s.resources)
still (Some n) s all = nothing_left n s.sent (view_of s.digest s.resources) all

-- any other line but an update or a batch
stays : (s : State) (a : Result Command Refusal) → IsAllSent s → ¬ IsUpdate a → IsAllSent (settled accepted s a)
stays s (Ok command.Blank) all none = all
stays s (Ok command.Tables) all none = all
stays s (Ok (command.Flush limit)) all none = still limit s all
stays s (Ok (command.Update u)) all none = absurd (none tt)
stays s (Ok (command.Batch us)) all none = absurd (none tt)
stays s (Ok (command.Packet a)) all none = all
stays s (Err r) all none = all

along : (s : State) (lines : List (List ℕ)) → IsAllSent s → HaveNoUpdate s lines → IsAllSent (state_after next s lines)
unfolding state_after HaveNoUpdate
along s [] all none = all
along s (line ∷ lines) all none = along (next s line) lines (stays s (answer_of s line) all none.0) none.1

-- a flush, and lines behind it
from_flush : (s : State) (line : List ℕ) (limit : Option ℕ) (lines : List (List ℕ)) → answer_of s line ≡ Ok (command.Flush limit) → LeavesNone limit s → HaveNoUpdate (next s line) lines → IsAllSent (state_after next s (line ∷ lines))
unfolding state_after
from_flush s line limit lines said last none =
    let all = subst (λ (a : Result Command Refusal). IsAllSent (settled accepted s a)) (sym said) (flushed limit s last) in
    along (next s line) lines all none

pub flushes_send_all : (dg : Digest) (node : List ℕ) → FlushesSendAll dg node
flushes_send_all dg node before line limit behind said last none =
    subst IsAllSent (sym (state_after-append next (start dg node) before (line ∷ behind))) (from_flush (state_after next (start dg node) before) line limit behind said last none)
