-- A store and a graph that were given the same updates.
use Rattle.std.specs.Prelude.{◌≡◌, true}
use Rattle.fx_names.specs.Digests.{plain_digest}
use Rattle.fx_model.specs.Claims.{IsClashFree}
use Rattle.fx_model.specs.Formed.{are_formed}
use Rattle.fx_model.specs.declared.resources.Resources.{Resources}
use Rattle.fx_store.specs.declared.store.Store.{Store}
use Rattle.fx_store.specs.Keeping.{KeepsClaims}
use Rattle.fx_graph.specs.declared.state.GraphState.{GraphState}
use Rattle.fx_graph.specs.Graphs.{IsGraphOf}

-- the resources are formed and claim names of their own, their claims are kept, and the graph is theirs
pub record AreAlike (s : Store) (g : GraphState) : Type 0 where
  pub formed : are_formed s.resources ≡ true
  pub apart : IsClashFree plain_digest s.resources
  pub claims : KeepsClaims plain_digest s
  pub graph : IsGraphOf plain_digest s.resources g

-- a graph stays that of the same resources
abbrev pub StaysAlike : GraphState → GraphState → Type 0
StaysAlike old new = (R : Resources) → IsGraphOf plain_digest R old → IsGraphOf plain_digest R new
