-- What a run over rules with services stands for between two lines.
use Rattle.std.specs.Prelude.{◌≡◌, ◌≢◌, [], false}
use Rattle.fx_names.specs.Digests.{Digest}
use Rattle.fx_agent.specs.States.{AgentState}
use Rattle.fx_replay.specs.Standing as replays
use Rattle.fx_services.specs.declared.places.Places.{Places}
use Rattle.fx_services.specs.Places.{flushed_places}
use Rattle.felix_services.specs.Output.{State}

abbrev pub state_of : Digest → AgentState → Places → State
state_of dg agent places = record {
  replay = replays.state_of dg agent;
  places = places.lists;
  flushed = flushed_places places.lists places.before;
}

-- memory never ran out, and the node has a name, so that the records of slices aren't its own
pub record IsReady (agent : AgentState) : Type 0 where
  pub unfailed : agent.failed ≡ false
  pub named : agent.resources.node ≢ []
