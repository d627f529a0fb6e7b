use Rattle.std.proofs.Common.{◌≡◌, None, map as each}
use Rattle.std.specs.FinMap as map
use Rattle.fx_base.specs.Extended.{extended}
use Rattle.fx_base.proofs.Walk.{IsRest}
use Rattle.fx_node_laws.specs.Waits.{known_waiting}
use Rattle.fx_graph.specs.InStep.{IsInStep}
use Rattle.fx_graph.specs.Taking.{IsBeside, taken_of}
use Rattle.fx_graph.proofs.Serving.{AreThere, IsPlacing}
use Rattle.fx_graph.proofs.nodes.Nodes.put_locals.Given as goal

abbrev pub invariant-loop-key : goal.invariant-loop-key
invariant-loop-key g l = record {
  left : IsRest l.waiting l.key-iterator;
  placing : IsPlacing g.R.DigestRule.digest_of (extended l.fn.self.resolver.endpoints (each (λ x. (x.0, known_waiting g.R.DigestRule.digest_of x.1)) (map.entries l.waiting))) l.self.resolver.endpoints l.key-iterator;
  there : AreThere g.R.DigestRule.digest_of l.waiting (taken_of l.fn.self) l.self.resolver.endpoints;
  others : taken_of l.self ≡ record (taken_of l.fn.self) { locals = l.self.resolver.endpoints };
  beside : IsBeside l.fn.self l.self;
  settled : IsInStep g.R.DigestRule.digest_of None l.self;
  index : l.self.upper.joined.index ≡ l.fn.self.upper.joined.index;
}
