-- What holds of an engine.
use Rattle.std.specs.Prelude.{◌≡◌, Bool, true, false}
use Rattle.fx_names.specs.Digests.{Digest}
use Rattle.fx_model.specs.Claims.{IsClashFree}
use Rattle.fx_model.specs.Formed.{are_formed}
use Rattle.fx_graph.specs.declared.state.GraphState.{GraphState}
use Rattle.fx_graph.specs.Graphs.{IsGraphOf}
use Rattle.fx_store.specs.declared.store.Store.{Store}
use Rattle.fx_store.specs.Keeping.{KeepsClaims}

-- The resources are formed, and no two holders claim one name. The store keeps what they claim, and the graph is theirs.
pub record IsSound (dg : Digest) (s : Store) (g : GraphState) : Type 0 where
  pub formed : are_formed s.resources ≡ true
  pub apart : IsClashFree dg s.resources
  pub claims : KeepsClaims dg s
  pub graph : IsGraphOf dg s.resources g

-- until memory has run out all of that holds
pub record IsEngine (dg : Digest) (s : Store) (g : GraphState) (failed : Bool) : Type 0 where
  pub sound : failed ≡ false → IsSound dg s g
