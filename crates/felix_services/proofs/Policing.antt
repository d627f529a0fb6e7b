-- What the lines of a packet tell: the machine's run over the tables of what was sent.
use Rattle.std.proofs.Common.{◌≡◌, ℕ, List, [], Option, Some, None, Result, Ok, Err, sym, ap, subst}
use Rattle.fx_names.specs.Digests.{Digest}
use Rattle.fx_names.specs.Claims.{Clash}
use Rattle.fx_model.specs.declared.packet.Packet.{Packet}
use Rattle.fx_model.specs.Claims.{clash}
use Rattle.fx_model.specs.Closed.{IsClosedView}
use Rattle.fx_model.specs.Machine.{Trace}
use Rattle.fx_model.specs.ViewTables.{tables_of}
use Rattle.fx_model.specs.Views.{view_of}
use Rattle.fx_model.specs.Walk.{Ended, verdict_of, noted_in}
use Rattle.fx_laws.proofs.Flushes.{flush-ends}
use Rattle.fx_laws.proofs.Leading.{ranked-tables}
use Rattle.fx_laws.proofs.ViewClosed.{view_of-closed}
use Rattle.fx_fields.specs.declared.refusal.Refusal.{Refusal}
use Rattle.fx_driver.proofs.Drivable.{empty_view-drivable}
use Rattle.fx_program.specs.Answers.{accepted_text, settled}
use Rattle.fx_run.specs.Run.{state_after}
use Rattle.fx_run.proofs.Runs.{kept_after}
use Rattle.fx_services.specs.declared.lowered.Lowered.{Lowered}
use Rattle.fx_walk.proofs.Agree.{walk_is_run}
use Rattle.fx_walk.specs.PacketPaths.{first_walk}
use Rattle.fx_service_lines.specs.declared.command.ServicesCommand.{ServicesCommand}
use Rattle.fx_service_lines.specs.declared.command.ServicesCommand.TheVariants as command
use Rattle.fx_service_lines.specs.Commands.{command_of}
use Rattle.felix_services.specs.Output.{State, start, next, unless_taken, checked, accepted, answer_of, command_text}
use Rattle.felix_services.specs.Policed.{TellsRun, PathsAreRuns}

-- ---- the sent view

abbrev ClosedAt : State → Type 0
ClosedAt s = IsClosedView s.replay.sent

unless_closed : (s : State) → ClosedAt s → (l : Lowered) (o : Option Clash) → ClosedAt (settled accepted s (unless_taken o (command.Change l)))
unless_closed s closed l None = closed
unless_closed s closed l (Some c) = closed

after_line : (s : State) (said : Result ServicesCommand Refusal) → ClosedAt s → ClosedAt (settled accepted s (checked s.replay.digest s.replay.resources said))
after_line s (Ok command.Blank) closed = closed
after_line s (Ok command.Tables) closed = closed
after_line s (Ok command.Flush) closed =
    let w = view_of s.replay.digest s.replay.resources in subst IsClosedView (sym (flush-ends s.replay.sent w)) (view_of-closed s.replay.digest s.replay.resources)
after_line s (Ok (command.Change l)) closed = unless_closed s closed l (clash s.replay.digest s.replay.resources l.update)
after_line s (Ok (command.Packet a)) closed = closed
after_line s (Err r) closed = closed

run_closed : (dg : Digest) (node : List ℕ) (lines : List (List ℕ)) → ClosedAt (state_after next (start dg node) lines)
run_closed dg node lines = kept_after next ClosedAt (λ s line closed. after_line s (command_of line) closed) (start dg node) lines empty_view-drivable.closed

-- ---- the run of a packet

-- the walk that the text is made from is the machine's run
pub line_run : (s : State) → IsClosedView s.replay.sent → (line : List ℕ) (a : Packet) → answer_of s line ≡ Ok (command.Packet a) → TellsRun s line a
line_run s closed line a said =
    let run : Ended Trace = first_walk (tables_of s.replay.sent) a [] in
    record {
      path = (noted_in run).hops;
      verdict = verdict_of run;
      egress = (noted_in run).reasons.egress;
      ingress = (noted_in run).reasons.ingress;
      run = walk_is_run (tables_of s.replay.sent) a [] (ranked-tables s.replay.sent closed);
      output = ap (accepted_text command_text s) said;
    }

pub paths_are_runs : (dg : Digest) (node : List ℕ) → PathsAreRuns dg node
paths_are_runs dg node lines line a said = line_run (state_after next (start dg node) lines) (run_closed dg node lines) line a said
