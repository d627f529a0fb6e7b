-- What a restart stands for between two lines.
use Rattle.std.specs.Prelude.{◌≡◌, Bool, true, false}
use Rattle.fx_names.specs.Digests.{Digest}
use Rattle.fx_model.specs.declared.resources.Update.{Update}
use Rattle.fx_model.specs.declared.resources.Update.TheVariants as update
use Rattle.fx_agent.specs.States.{AgentState}
use Rattle.fx_restart_lines.specs.declared.finding.Finding.{Finding}
use Rattle.felix_restore.specs.Output.{State}

-- the agent's resources, and what was found
abbrev pub state_of : Digest → AgentState → Finding → State
state_of dg agent finding = record { digest = dg; resources = agent.resources; finding = finding }

-- memory never ran out, and the restart knows whether the resources are in sync
pub record IsReady (agent : AgentState) (in_sync : Bool) : Type 0 where
  pub sound : agent.failed ≡ false
  pub mark : in_sync ≡ agent.resources.in_sync

-- whether the resources are in sync after an update
abbrev pub in_sync_after : Bool → Update → Bool
in_sync_after in_sync update.InSync = true
in_sync_after in_sync (update.Put k x) = in_sync
in_sync_after in_sync (update.Delete k) = in_sync
