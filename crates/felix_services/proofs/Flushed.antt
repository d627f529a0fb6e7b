-- A flush sends all, and no line but an accepted change alters that.
use Rattle.std.proofs.Common.{◌≡◌, ℕ, List, [], ◌∷◌, Result, Ok, Err, refl, sym, subst}
use Rattle.fx_names.specs.Digests.{Digest}
use Rattle.fx_model.specs.Views.{view_of}
use Rattle.fx_laws.proofs.Flushes.{flush-ends}
use Rattle.fx_fields.specs.declared.refusal.Refusal.{Refusal}
use Rattle.fx_program.specs.Answers.{settled}
use Rattle.fx_run.specs.Run.{state_after}
use Rattle.fx_run.proofs.Runs.{state_after-append}
use Rattle.fx_service_lines.specs.declared.command.ServicesCommand.{ServicesCommand}
use Rattle.fx_service_lines.specs.declared.command.ServicesCommand.TheVariants as command
use Rattle.felix_services.specs.Flushing.{IsChange, HaveNoChange, IsFlushed, FlushesSendAll}
use Rattle.felix_services.specs.Output.{State, start, next, accepted, answer_of}

flushed : (s : State) → IsFlushed (accepted s command.Flush)
flushed s = record { view = flush-ends s.replay.sent (view_of s.replay.digest s.replay.resources); places = refl }

stays : (s : State) (a : Result ServicesCommand Refusal) → IsFlushed s → ¬ IsChange a → IsFlushed (settled accepted s a)
stays s (Ok command.Blank) all none = all
stays s (Ok command.Tables) all none = all
stays s (Ok command.Flush) all none = flushed s
stays s (Ok (command.Change l)) all none = absurd (none tt)
stays s (Ok (command.Packet a)) all none = all
stays s (Err r) all none = all

along : (s : State) (lines : List (List ℕ)) → IsFlushed s → HaveNoChange s lines → IsFlushed (state_after next s lines)
unfolding state_after HaveNoChange
along s [] all none = all
along s (line ∷ lines) all none = along (next s line) lines (stays s (answer_of s line) all none.0) none.1

-- a flush, and lines behind it
from_flush : (s : State) (line : List ℕ) (lines : List (List ℕ)) → answer_of s line ≡ Ok command.Flush → HaveNoChange (next s line) lines → IsFlushed (state_after next s (line ∷ lines))
unfolding state_after
from_flush s line lines said none =
    let all = subst (λ (a : Result ServicesCommand Refusal). IsFlushed (settled accepted s a)) (sym said) (flushed s) in
    along (next s line) lines all none

pub flushes_send_all : (dg : Digest) (node : List ℕ) → FlushesSendAll dg node
flushes_send_all dg node before line behind said none =
    subst IsFlushed (sym (state_after-append next (start dg node) before (line ∷ behind))) (from_flush (state_after next (start dg node) before) line behind said none)
