-- The nodes below are one step behind: the upper two told these changes, which those below haven't been given yet.
use Rattle.std.specs.Prelude.{◌≡◌, ℕ, List, Option}
use Rattle.fx_names.specs.Digests.{Digest}
use Rattle.fx_members.specs.Members.{AreMembers}
use Rattle.fx_resolver.specs.Resolved.{IsResolved}
use Rattle.fx_scanner.specs.Scanned.{IsScanned}
use Rattle.fx_graph_rules.specs.Counting.{with_some}
use Rattle.fx_logs.specs.Run.{IsRun}
use Rattle.fx_model.specs.PairRuns.{IsPairRun}
use Rattle.fx_graph_rules.specs.Uppers.{AreInStep}
use Rattle.fx_graph_view.specs.Knowing.{AreKnownBut}
use Rattle.fx_graph_view.specs.Noted.{AreFormed}
use Rattle.fx_logs.specs.Touched.{IsTouched}
use Rattle.fx_logs.specs.declared.pair_log.PairChange.{PairChange}
use Rattle.fx_logs.specs.declared.active_log.Logged.{Logged}
use Rattle.fx_graph.specs.Used.{used_in}
use Rattle.fx_graph.specs.declared.nodes.Nodes.{Nodes}

pub record IsBehindBy (dg : Digest) (before : Option (List ℕ)) (g : Nodes) (changes : List PairChange) (logged : Logged) : Type 0 where
  pub upper : AreInStep g.upper.joined (with_some before (used_in g.uses)) logged.told.policies logged.told.profiles logged.told.pairs
  pub policies : IsTouched logged.policies g.scanner.policies logged.told.policies
  pub profiles : IsTouched logged.profiles g.scanner.profiles logged.told.profiles
  pub scanned : IsScanned dg g.scanner g.sequencer.wanted.policies g.sequencer.wanted.profiles g.uses
  pub behind : AreKnownBut dg logged.policies logged.told.policies g.resolver.policies
  pub pairs : IsPairRun logged.pairs g.resolver.pairs logged.told.pairs
  pub resolved : IsResolved g.resolver g.sequencer.wanted.endpoints
  pub uses : g.members.uses ≡ g.uses
  pub run : IsRun changes g.members.matched g.upper.joined.pairs
  pub members : AreMembers g.members g.sequencer.wanted.sets
  pub formed : AreFormed g.uses
