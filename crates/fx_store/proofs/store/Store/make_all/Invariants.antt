use Rattle.std.proofs.Common.{◌≡◌, drop}
use Rattle.fx_model.specs.Batches.{after_all}
use Rattle.fx_store.proofs.store.Store.make_all.Given as goal

-- once those that are left are made, all are
abbrev pub invariant-loop-update : goal.invariant-loop-update
invariant-loop-update l = record {
  made : after_all l.self.resources (drop l.update-index l.updates) ≡ after_all l.fn.self.resources l.updates;
  claims : l.self.registry ≡ l.fn.self.registry;
}
