-- The graph of some resources: what its nodes hold is theirs, and the view that is wanted is their view.
use Rattle.std.specs.Prelude.{◌≡◌, None, true}
use Rattle.fx_names.specs.Digests.{Digest}
use Rattle.fx_model.specs.Claims.{IsClashFree}
use Rattle.fx_model.specs.Formed.{are_formed}
use Rattle.fx_model.specs.Resources.{after}
use Rattle.fx_model.specs.Views.{view_of}
use Rattle.fx_model.specs.declared.resources.Resources.{Resources}
use Rattle.fx_model.specs.declared.resources.Update.{Update}
use Rattle.fx_sequencer.specs.declared.sides.Sides.{Sides}
use Rattle.fx_node_laws.specs.Tied.{IsTied}
use Rattle.fx_node_laws.specs.Waits.{AreWaiting}
use Rattle.fx_graph.specs.InStep.{IsInStep}
use Rattle.fx_graph.specs.declared.nodes.Nodes.{Nodes}
use Rattle.fx_graph.specs.declared.state.GraphState.{GraphState}

-- the nodes agree, and what they hold is the resources'
pub record AreOf (dg : Digest) (R : Resources) (g : Nodes) : Type 0 where
  pub settled : IsInStep dg None g
  pub tied : IsTied dg R g.upper.joined.index g.upper.joined.active g.resolver g.members
  pub waiting : AreWaiting R g.waiting

-- the view that was sent, and the one that is wanted
abbrev pub sides_of : GraphState → Sides
sides_of g = g.nodes.sequencer

-- a graph is that of the resources
pub record IsGraphOf (dg : Digest) (R : Resources) (g : GraphState) : Type 0 where
  pub node : g.node ≡ R.node
  pub in_sync : g.in_sync ≡ R.in_sync
  pub nodes : AreOf dg R g.nodes
  pub now : (sides_of g).wanted ≡ view_of dg R

-- the resources after an update are formed, and no two of them claim one name
pub record IsAccepted (dg : Digest) (R : Resources) (u : Update) : Type 0 where
  pub formed : are_formed (after R u) ≡ true
  pub apart : IsClashFree dg (after R u)

-- the graph is that of some resources, and these are accepted after the update
abbrev pub CanFollow : Digest → Update → GraphState → Type 0
CanFollow dg u g = (R : Resources) × (IsGraphOf dg R g × IsAccepted dg R u)

-- of whichever resources the old graph is, the new one is that of the resources after the update
abbrev pub Follows : Digest → Update → GraphState → GraphState → Type 0
Follows dg u old new = (R : Resources) → IsGraphOf dg R old → IsGraphOf dg (after R u) new

-- a graph stays that of the same resources
abbrev pub KeepsResources : Digest → GraphState → GraphState → Type 0
KeepsResources dg old new = (R : Resources) → IsGraphOf dg R old → IsGraphOf dg R new
