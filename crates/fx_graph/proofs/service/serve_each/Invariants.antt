use Rattle.std.proofs.Common.{◌≡◌, ℕ, List, map as each}
use Rattle.std.specs.FinMap as map
use Rattle.fx_base.specs.Extended.{extended}
use Rattle.fx_graph_rules.specs.Uppers.{AreInStep, AreInStepForSome}
use Rattle.fx_graph.proofs.Serving.{IsServing}
use Rattle.fx_graph.proofs.service.serve_each.Given as goal

abbrev pub invariant-loop-key : goal.invariant-loop-key
invariant-loop-key g l = record {
  index : l.upper.joined.index ≡ l.fn.upper.joined.index;
  pairs : l.upper.joined.pairs ≡ l.fn.upper.joined.pairs;
  active : l.upper.joined.active ≡ record l.fn.upper.joined.active { endpoints = l.upper.joined.active.endpoints };
  serving : IsServing (extended l.fn.upper.joined.active.endpoints (each (λ x. (x.0, x.1.profiles)) (map.entries l.waiting))) l.upper.joined.active.endpoints l.key-iterator;
  some : AreInStepForSome l.upper.joined (g.S.ActiveSink.policies l.sink) (g.S.ActiveSink.profiles l.sink) (g.S.ActiveSink.pairs l.sink);
  upper : (used : List ℕ → ℕ) → AreInStep l.fn.upper.joined used (g.S.ActiveSink.policies l.fn.sink) (g.S.ActiveSink.profiles l.fn.sink) (g.S.ActiveSink.pairs l.fn.sink) → AreInStep l.upper.joined used (g.S.ActiveSink.policies l.sink) (g.S.ActiveSink.profiles l.sink) (g.S.ActiveSink.pairs l.sink);
}
