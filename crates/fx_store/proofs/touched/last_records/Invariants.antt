use Rattle.std.proofs.Common.{◌≡◌, drop}
use Rattle.std.specs.FinMap as map
use Rattle.fx_store.specs.Touched.{recorded_all}
use Rattle.fx_store.proofs.touched.last_records.Given as goal

-- once those that are left are made, the records are those of all
abbrev pub invariant-loop-update : goal.invariant-loop-update
invariant-loop-update l = recorded_all l.records (drop l.update-index l.updates) ≡ recorded_all map.empty l.updates
