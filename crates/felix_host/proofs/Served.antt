-- What stands after any lines: the resources can be served, the failsafe ports are of protocols that have ports, and the tables are host
-- tables.
use Rattle.std.proofs.Common.{◌≡◌, ℕ, List, true, Option, None, Some, Result, Ok, Err, IfOk, refl, sym, subst}
use Rattle.fx_names.specs.Claims.{Clash}
use Rattle.fx_names.specs.Digests.{Digest}
use Rattle.fx_model.specs.declared.resources.Resources.{Resources}
use Rattle.fx_model.specs.declared.resources.Update.{Update}
use Rattle.fx_model.specs.Claims.{clash}
use Rattle.fx_model.specs.Formed.{is_formed}
use Rattle.fx_model.specs.Ranks.{IsRanked}
use Rattle.fx_model.specs.Tables.{Tables}
use Rattle.fx_model.specs.Views.{empty_view, view_of}
use Rattle.fx_laws.proofs.SetKinds.{wanted_sets-of-kinds}
use Rattle.fx_laws.proofs.ViewClosed.{view_of-closed}
use Rattle.fx_fields.specs.declared.refusal.Refusal.{Refusal}
use Rattle.fx_tables.specs.Invariant.{AreKept}
use Rattle.fx_driver.proofs.Drivable.{empty_view-drivable}
use Rattle.fx_program.specs.Answers.{settled}
use Rattle.fx_run.specs.Run.{state_after}
use Rattle.fx_run.proofs.Runs.{kept_after}
use Rattle.fx_hostep.specs.declared.failsafe.Failsafe.{Failsafe}
use Rattle.fx_hostep.specs.FailsafePorts.{no_failsafe, have_port_protocols}
use Rattle.fx_hostep.specs.HostRuns.{HasHooks, IsHostServable}
use Rattle.fx_hostep.specs.HostTables.{host_tables_of}
use Rattle.fx_hostep.proofs.HostAt.{hooks_there}
use Rattle.fx_hostep.proofs.HostLeads.{host-kept, host-ranked}
use Rattle.fx_host_lines.specs.declared.command.HostCommand.{HostCommand}
use Rattle.fx_host_lines.specs.declared.command.HostCommand.TheVariants as command
use Rattle.fx_host_lines.specs.Commands.{command_of}
use Rattle.fx_host_lines.specs.Formed.{IsReadHost}
use Rattle.felix_host.specs.Output.{State, start, next, unless_taken, checked, accepted}
use Rattle.felix_host.specs.Standing.{AreHostTables}
use Rattle.felix_host.proofs.NodeLemmas.{none-host-servable, host-servable-after}
use Rattle.fx_host_lines.proofs.ReadForms.{command_of-read}

-- ---- host tables

module _ (tables : Tables) (are : AreHostTables tables) where
  pub tables_ranked : IsRanked tables.chains
  tables_ranked = subst (λ (t : Tables). IsRanked t.chains) (sym are.same) (host-ranked are.view are.failsafe are.closed)

  pub tables_kept : AreKept tables
  tables_kept = subst AreKept (sym are.same) (host-kept are.view are.failsafe are.closed are.kinds)

  pub tables_hooked : HasHooks tables.chains
  tables_hooked = subst (λ (t : Tables). HasHooks t.chains) (sym are.same) (hooks_there are.view are.failsafe)

-- those of resources
pub wanted_are : (dg : Digest) (R : Resources) (f : Failsafe) → AreHostTables (host_tables_of (view_of dg R) f)
wanted_are dg R f = record { view = view_of dg R; failsafe = f; closed = view_of-closed dg R; kinds = wanted_sets-of-kinds dg R; same = refl }

-- ---- along a run

pub record Stands (dg : Digest) (R : Resources) (f : Failsafe) (tables : Tables) : Type 0 where
  pub servable : IsHostServable dg R
  pub protocols : have_port_protocols f ≡ true
  pub standing : AreHostTables tables

abbrev pub StandsAt : State → Type 0
StandsAt s = Stands s.digest s.resources s.failsafe s.tables

start_stands : (dg : Digest) (node : List ℕ) → StandsAt (start dg node)
start_stands dg node = record {
  servable = none-host-servable dg node;
  protocols = refl;
  standing = record { view = empty_view; failsafe = no_failsafe; closed = empty_view-drivable.closed; kinds = empty_view-drivable.kinds; same = refl };
}

untaken : (s : State) → StandsAt s → (u : Update) → is_formed u ≡ true → (o : Option Clash) → clash s.digest s.resources u ≡ o → StandsAt (settled accepted s (unless_taken o (command.Update u)))
untaken s was u formed (Some c) is = was
untaken s was u formed None is = record {
  servable = host-servable-after s.digest s.resources was.servable u formed is;
  protocols = was.protocols;
  standing = was.standing;
}

answered : (s : State) → StandsAt s → (said : Result HostCommand Refusal) → IfOk said IsReadHost → StandsAt (settled accepted s (checked s.digest s.resources said))
answered s was (Ok command.Blank) read = was
answered s was (Ok command.Flush) read = record { servable = was.servable; protocols = was.protocols; standing = wanted_are s.digest s.resources s.failsafe }
answered s was (Ok command.Tables) read = was
answered s was (Ok (command.Update u)) read = untaken s was u read (clash s.digest s.resources u) refl
answered s was (Ok (command.Failsafe f)) read = record { servable = was.servable; protocols = read; standing = was.standing }
answered s was (Ok (command.Packet p)) read = was
answered s was (Err r) read = was

pub run_stands : (dg : Digest) (node : List ℕ) (lines : List (List ℕ)) → StandsAt (state_after next (start dg node) lines)
run_stands dg node lines = kept_after next StandsAt (λ s line was. answered s was (command_of line) (command_of-read line)) (start dg node) lines (start_stands dg node)

-- ---- what an accepted line has read

pub checked_read : (dg : Digest) (R : Resources) (said : Result HostCommand Refusal) → IfOk said IsReadHost → IfOk (checked dg R said) IsReadHost
checked_read dg R (Ok command.Blank) read = read
checked_read dg R (Ok command.Flush) read = read
checked_read dg R (Ok command.Tables) read = read
checked_read dg R (Ok (command.Update u)) read = by_clash (clash dg R u)
  where
    by_clash : (o : Option Clash) → IfOk (unless_taken o (command.Update u)) IsReadHost
    by_clash None = read
    by_clash (Some c) = tt
checked_read dg R (Ok (command.Failsafe f)) read = read
checked_read dg R (Ok (command.Packet p)) read = read
checked_read dg R (Err r) read = tt
