-- A resolver and its sink, where one item at most is an endpoint.
use Rattle.std.specs.Prelude.{◌≡◌, Some}
use Rattle.std.specs.FinMap as map
use Rattle.fx_model.specs.Pairs.{PolicyPairs}
use Rattle.fx_model.specs.Sinks.{EndpointsByInterface}
use Rattle.fx_model.specs.declared.ids.ItemKey.{ItemKey}
use Rattle.fx_resolver.specs.declared.inputs.Inputs.{Inputs}
use Rattle.fx_resolver.specs.declared.known.KnownEndpoint.{KnownEndpoint}
use Rattle.fx_resolver.specs.Resolved.{IsResolved}

-- the sink has what follows from the node's inputs, these pairs are the node's, and no other item is an endpoint
pub record IsResolverBench (n : Inputs) (endpoints : EndpointsByInterface) (pairs : PolicyPairs) (item : ItemKey) : Type 0 where
  pub resolved : IsResolved n endpoints
  pub told : n.pairs ≡ pairs
  pub only : (i : ItemKey) (e : KnownEndpoint) → map.get n.endpoints i ≡ Some e → i ≡ item
