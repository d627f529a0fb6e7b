-- Updates that a graph is given one by one.
use Rattle.std.specs.Prelude.{◌≡◌, List, [], ◌∷◌, true, ⊤}
use Rattle.fx_names.specs.Digests.{Digest}
use Rattle.fx_model.specs.declared.resources.Resources.{Resources}
use Rattle.fx_model.specs.declared.resources.Update.{Update}
use Rattle.fx_model.specs.Batches.{after_all}
use Rattle.fx_model.specs.Formed.{is_formed}
use Rattle.fx_model.specs.Resources.{after}
use Rattle.fx_graph.specs.declared.state.GraphState.{GraphState}
use Rattle.fx_graph.specs.Graphs.{IsAccepted, IsGraphOf}

-- each of the updates is formed, and the resources after it are accepted
abbrev pub AreAccepted : Digest → Resources → List Update → Type 0
AreAccepted dg R [] = ⊤
AreAccepted dg R (u ∷ us) = ((is_formed u ≡ true) × IsAccepted dg R u) × AreAccepted dg (after R u) us

-- the graph is that of some resources, and these are accepted after each of the updates
abbrev pub CanFollowAll : Digest → List Update → GraphState → Type 0
CanFollowAll dg us g = (R : Resources) × (IsGraphOf dg R g × AreAccepted dg R us)

-- of whichever accepted resources the old graph is, the new one is that of the resources after the updates
abbrev pub FollowsAll : Digest → List Update → GraphState → GraphState → Type 0
FollowsAll dg us old new = (R : Resources) → IsGraphOf dg R old → IsGraphOf dg (after_all R us) new
