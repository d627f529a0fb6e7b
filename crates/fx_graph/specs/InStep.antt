-- The nodes are in step: what each was given is what the one above it told, and what it told is its definition over that.
use Rattle.std.specs.Prelude.{◌≡◌, ℕ, List, Option}
use Rattle.fx_names.specs.Digests.{Digest}
use Rattle.fx_members.specs.Members.{AreMembers}
use Rattle.fx_resolver.specs.Resolved.{IsResolved}
use Rattle.fx_scanner.specs.Scanned.{IsScanned}
use Rattle.fx_graph_rules.specs.Counting.{with_some}
use Rattle.fx_graph_rules.specs.Uppers.{AreInStep}
use Rattle.fx_graph_view.specs.Knowing.{AreKnown}
use Rattle.fx_graph_view.specs.Noted.{AreFormed}
use Rattle.fx_graph.specs.Used.{used_in}
use Rattle.fx_graph.specs.declared.nodes.Nodes.{Nodes}

-- the index counts the selectors of the policies and of the used sets, and besides them the text that a policy had before, if any
pub record IsInStep (dg : Digest) (before : Option (List ℕ)) (g : Nodes) : Type 0 where
  pub upper : AreInStep g.upper.joined (with_some before (used_in g.uses)) g.told.policies g.told.profiles g.told.pairs
  pub policies : g.scanner.policies ≡ g.told.policies
  pub profiles : g.scanner.profiles ≡ g.told.profiles
  pub scanned : IsScanned dg g.scanner g.sequencer.wanted.policies g.sequencer.wanted.profiles g.uses
  pub known : AreKnown dg g.told.policies g.resolver.policies
  pub pairs : g.resolver.pairs ≡ g.told.pairs
  pub resolved : IsResolved g.resolver g.sequencer.wanted.endpoints
  pub uses : g.members.uses ≡ g.uses
  pub matched : g.members.matched ≡ g.upper.joined.pairs
  pub members : AreMembers g.members g.sequencer.wanted.sets
  pub formed : AreFormed g.uses
