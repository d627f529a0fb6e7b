-- Every view that is sent along a run is closed, and so are its tables.
use Rattle.std.proofs.Common.{ℕ, List, [], ◌∷◌, Result, Ok, Err}
use Rattle.std.specs.List.{AllByRecursion}
use Rattle.fx_model.specs.declared.view.View.{View}
use Rattle.fx_model.specs.Closed.{IsClosedView}
use Rattle.fx_model.specs.Messages.{Change, flush, sent_after, sent_views, step_at}
use Rattle.fx_model.specs.Views.{view_of}
use Rattle.fx_laws.proofs.Flushes.{flush-closed}
use Rattle.fx_laws.proofs.Leading.{closed-tables}
use Rattle.fx_laws.proofs.ViewClosed.{view_of-closed}
use Rattle.fx_fields.specs.declared.refusal.Refusal.{Refusal}
use Rattle.fx_names.specs.Digests.{Digest}
use Rattle.fx_lines.specs.declared.commands.Command.{Command}
use Rattle.fx_lines.specs.declared.commands.Command.TheVariants as command
use Rattle.fx_run.specs.Run.{state_after}
use Rattle.fx_program.specs.Answers.{settled}
use Rattle.fx_replay.specs.Output.{State, accepted, start, answer_of, next, flushed_in, flushed_by}
use Rattle.fx_run.proofs.Runs.{kept_after, all_written}
use Rattle.felix_replay.specs.Closing.{views_in, views_along, IsWhole}
use Rattle.fx_driver.proofs.Drivable.{empty_view-drivable}

wholes : (vs : List View) → AllByRecursion IsClosedView vs → AllByRecursion IsWhole vs
wholes [] all = tt
wholes (v ∷ vs) all = (record { view = all.0; tables = closed-tables v all.0 }, wholes vs all.1)

in_line : (s : State) (a : Result Command Refusal) → IsClosedView s.sent → AllByRecursion IsWhole (views_in s (flushed_in s a))
in_line s (Ok command.Blank) closed = tt
in_line s (Ok command.Tables) closed = tt
in_line s (Ok (command.Flush limit)) closed = wholes _ (flush-closed limit s.sent _ closed (view_of-closed s.digest s.resources))
in_line s (Ok (command.Update u)) closed = tt
in_line s (Ok (command.Batch us)) closed = tt
in_line s (Ok (command.Packet a)) closed = tt
in_line s (Err r) closed = tt

-- what holds of each view on the way of a flush, and of the one before it, holds of the one that it ends at
last_sent : (w : View) (P : View → Type 0) (cs : List Change) (s : View) → P s → AllByRecursion P (sent_views cs s w) → P (sent_after cs s w)
unfolding sent_views sent_after
last_sent w P [] s holds all = holds
last_sent w P (c ∷ cs) s holds all = last_sent w P cs (step_at c s w) all.0 all.1

after_line : (s : State) (a : Result Command Refusal) → IsClosedView s.sent → IsClosedView (settled accepted s a).sent
after_line s (Ok command.Blank) closed = closed
after_line s (Ok command.Tables) closed = closed
after_line s (Ok (command.Flush limit)) closed =
    let w = view_of s.digest s.resources in
    last_sent w IsClosedView (flush limit s.sent w).messages s.sent closed (flush-closed limit s.sent w closed (view_of-closed s.digest s.resources))
after_line s (Ok (command.Update u)) closed = closed
after_line s (Ok (command.Batch us)) closed = closed
after_line s (Ok (command.Packet a)) closed = closed
after_line s (Err r) closed = closed

after_any : (s : State) (line : List ℕ) → IsClosedView s.sent → IsClosedView (next s line).sent
after_any s line closed = after_line s (answer_of s line) closed

pub run_stays_whole : (dg : Digest) (node : List ℕ) (lines : List (List ℕ)) → AllByRecursion IsWhole (views_along (start dg node) lines)
run_stays_whole dg node lines =
    all_written next (λ s line. views_in s (flushed_by s line)) (λ s. IsClosedView s.sent) IsWhole after_any (λ s line closed. in_line s (answer_of s line) closed) (start dg node) lines empty_view-drivable.closed

pub run_closed : (dg : Digest) (node : List ℕ) (lines : List (List ℕ)) → IsClosedView (state_after next (start dg node) lines).sent
run_closed dg node lines = kept_after next (λ s. IsClosedView s.sent) after_any (start dg node) lines empty_view-drivable.closed
