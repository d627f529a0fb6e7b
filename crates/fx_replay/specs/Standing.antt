-- What a replay stands for between two lines.
use Rattle.fx_names.specs.Digests.{Digest}
use Rattle.fx_agent.specs.States.{AgentState}
use Rattle.fx_replay.specs.Output.{State}

-- the agent's resources and the view that it sent
abbrev pub state_of : Digest → AgentState → State
state_of dg agent = record { digest = dg; resources = agent.resources; sent = agent.sent }
