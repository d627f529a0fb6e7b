use Rattle.std.proofs.Common.{◌≡◌, ◌&&◌}
use Rattle.std.specs.FinMap as map
use Rattle.fx_base.specs.Set as set
use Rattle.fx_active.specs.Steps.{is_typed}
use Rattle.fx_active.proofs.UpdateWalk.{IsHalfUpdated}
use Rattle.fx_active.proofs.pairs.update_ids.Given as goal

abbrev pub invariant-loop-id : goal.invariant-loop-id
invariant-loop-id g l = record {
  half : IsHalfUpdated l.policies (λ id. set.contains l.fn.ids id && is_typed (map.get l.policies id)) (λ id. l.others) l.item l.added
      (g.S.ActiveSink.policies l.fn.sink) (g.S.ActiveSink.pairs l.fn.sink) l.fn.ids (g.S.ActiveSink.policies l.sink) (g.S.ActiveSink.pairs l.sink) l.id-iterator;
  profiles : g.S.ActiveSink.profiles l.sink ≡ g.S.ActiveSink.profiles l.fn.sink;
}
