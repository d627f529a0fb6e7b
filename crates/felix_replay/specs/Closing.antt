-- The views that are sent along a run, one after each single message, and what is asked of each.
use Rattle.std.specs.Prelude.{ℕ, List, [], Option, Some, None}
use Rattle.fx_model.specs.declared.view.View.{View}
use Rattle.fx_model.specs.Views.{view_of}
use Rattle.fx_model.specs.ViewTables.{tables_of}
use Rattle.fx_model.specs.Closed.{IsClosedView, AreClosedTables}
use Rattle.fx_model.specs.Messages.{Flush, sent_views}
use Rattle.fx_run.specs.Run.{written}
use Rattle.fx_replay.specs.Output.{State, flushed_by, next}

-- the sent views along what is flushed between two lines
abbrev pub views_in : State → Option Flush → List View
views_in s None = []
views_in s (Some f) = sent_views f.messages s.sent (view_of s.digest s.resources)

abbrev pub views_along : State → List (List ℕ) → List View
views_along s lines = written next (λ t line. views_in t (flushed_by t line)) s lines

-- nothing that is named is missing, in the view and in its tables
pub record IsWhole (v : View) : Type 0 where
  pub view : IsClosedView v
  pub tables : AreClosedTables (tables_of v)
