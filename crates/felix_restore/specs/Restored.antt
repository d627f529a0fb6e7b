-- What stands behind a restart. By iptables(8) and ipset(8) a rule leads to chains and names sets that are there; that
-- holds before and after each single operation, so no moment of a restart leaves a rule without what it refers to.
use Rattle.std.specs.Prelude.{◌≡◌, Option, Some, None}
use Rattle.fx_model.specs.Tables.{Tables}
use Rattle.fx_found.specs.declared.found.Found.{Found}
use Rattle.fx_reconcile.specs.Operations.{operations}
use Rattle.fx_reconcile.specs.Goal.{AreAlike, AreNextInTurn, AreAllowedInTurn}
use Rattle.fx_restart_lines.specs.declared.finding.Finding.{Finding}
use Rattle.fx_restart_lines.specs.declared.finding.Finding.TheVariants.{Read}
use Rattle.felix_restore.specs.Output.{State, goal_of, led_from}

-- What was found is led to the goal: each operation is the next one at its turn, and allowed there. In the end the sets
-- are the goal's, and the chains but for tags. The rows of others are as they were.
pub record IsLed (found : Found) (goal : Tables) (after : Found) : Type 0 where
  pub turns : AreNextInTurn (operations found.tables goal) found.tables goal
  pub allowed : AreAllowedInTurn (operations found.tables goal) found.tables goal
  pub alike : AreAlike after.tables goal
  pub foreign : after.foreign ≡ found.foreign

-- where nothing was found, or the resources aren't in sync, nothing changes
abbrev pub IsLedFrom : Option Found → Tables → (before after : Finding) → Type 0
IsLedFrom None goal before after = after ≡ before
IsLedFrom (Some found) goal before after = (led : Found) × ((after ≡ Read led) × IsLed found goal led)

pub record HasRestored (s : State) : Type 0 where
  pub after : Finding
  pub led : IsLedFrom (led_from s) (goal_of s) s.finding after
