-- What stays while one node tells its part of the view, and what the log of the scanner keeps.
use Rattle.std.specs.Prelude.{◌≡◌}
use Rattle.fx_sequencer.specs.Sides.{SameSentAndSets}
use Rattle.fx_sequencer.specs.declared.sides.Sides.{Sides}
use Rattle.fx_graph_view.specs.Noted.{AreNoted, AreFormed}
use Rattle.fx_graph_view.specs.declared.scan_log.Scanned.{Scanned}

pub record IsKeptSince (start s : Scanned) : Type 0 where
  pub view : SameSentAndSets start.sequencer s.sequencer
  pub noted : AreNoted s.before start.uses s.uses
  pub formed : AreFormed s.uses

-- the sent view, and of the wanted one all but its sets
pub record SameButSets (old new : Sides) : Type 0 where
  pub sent : new.sent ≡ old.sent
  pub policies : new.wanted.policies ≡ old.wanted.policies
  pub profiles : new.wanted.profiles ≡ old.wanted.profiles
  pub endpoints : new.wanted.endpoints ≡ old.wanted.endpoints
