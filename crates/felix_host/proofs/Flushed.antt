-- What a flush does, and that no line but a change leads away from it.
use Rattle.std.proofs.Common.{◌≡◌, ℕ, List, [], ◌∷◌, Result, Ok, Err, refl, sym, ap, subst}
use Rattle.fx_names.specs.Digests.{Digest}
use Rattle.fx_fields.specs.declared.refusal.Refusal.{Refusal}
use Rattle.fx_program.specs.Answers.{accepted_text, settled}
use Rattle.fx_reconcile.specs.Goal.{after_all}
use Rattle.fx_reconcile.specs.Operations.{operations}
use Rattle.fx_reconcile.proofs.End.{ends, next_in_turn, end_is_alike}
use Rattle.fx_reconcile.proofs.Kept.{allowed_in_turn}
use Rattle.fx_run.specs.Run.{state_after}
use Rattle.fx_run.proofs.Runs.{state_after-append}
use Rattle.fx_host_lines.specs.declared.command.HostCommand.{HostCommand}
use Rattle.fx_host_lines.specs.declared.command.HostCommand.TheVariants as command
use Rattle.felix_host.specs.Flushing.{Flushes, FlushesLead, IsChange, HaveNoChange, IsFlushed, TablesStay}
use Rattle.felix_host.specs.Output.{State, start, next, answer_of, accepted, command_text, goal_of}
use Rattle.felix_host.proofs.Served.{StandsAt, run_stands, tables_kept, wanted_are}

-- ---- one flush

line_flushes : (s : State) → StandsAt s → (line : List ℕ) → answer_of s line ≡ Ok command.Flush → Flushes s line
line_flushes s stands line said =
    let goal_kept = tables_kept (goal_of s) (wanted_are s.digest s.resources s.failsafe) in
    record {
      turns = next_in_turn (goal_of s) (operations s.tables (goal_of s)) s.tables refl;
      allowed = allowed_in_turn (goal_of s) goal_kept (operations s.tables (goal_of s)) s.tables (tables_kept s.tables stands.standing) refl;
      alike = end_is_alike (after_all (operations s.tables (goal_of s)) s.tables (goal_of s)) (goal_of s) (ends (goal_of s) (operations s.tables (goal_of s)) s.tables refl);
      ends = ap (λ (a : Result HostCommand Refusal). (settled accepted s a).tables) said;
      output = ap (accepted_text command_text s) said;
    }

pub flushes_lead : (dg : Digest) (node : List ℕ) → FlushesLead dg node
flushes_lead dg node lines line said = line_flushes (state_after next (start dg node) lines) (run_stands dg node lines) line said

-- ---- behind it

stays : (s : State) (a : Result HostCommand Refusal) → IsFlushed s → ¬ IsChange a → IsFlushed (settled accepted s a)
stays s (Ok command.Blank) flushed none = flushed
stays s (Ok command.Flush) flushed none = refl
stays s (Ok command.Tables) flushed none = flushed
stays s (Ok (command.Update u)) flushed none = absurd (none tt)
stays s (Ok (command.Failsafe f)) flushed none = absurd (none tt)
stays s (Ok (command.Packet p)) flushed none = flushed
stays s (Err r) flushed none = flushed

along : (s : State) (lines : List (List ℕ)) → IsFlushed s → HaveNoChange s lines → IsFlushed (state_after next s lines)
unfolding state_after HaveNoChange
along s [] flushed none = flushed
along s (line ∷ lines) flushed none = along (next s line) lines (stays s (answer_of s line) flushed none.0) none.1

-- a flush, and lines behind it
from_flush : (s : State) (line : List ℕ) (lines : List (List ℕ)) → answer_of s line ≡ Ok command.Flush → HaveNoChange (next s line) lines → IsFlushed (state_after next s (line ∷ lines))
unfolding state_after
from_flush s line lines said none =
    let flushed = subst (λ (a : Result HostCommand Refusal). IsFlushed (settled accepted s a)) (sym said) refl in
    along (next s line) lines flushed none

pub tables_stay : (dg : Digest) (node : List ℕ) → TablesStay dg node
tables_stay dg node before line behind said none =
    subst IsFlushed (sym (state_after-append next (start dg node) before (line ∷ behind))) (from_flush (state_after next (start dg node) before) line behind said none)
