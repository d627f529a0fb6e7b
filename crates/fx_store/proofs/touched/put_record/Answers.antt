use Rattle.std.proofs.Common.{◌∙◌}
use Rattle.std.specs.FinMap as map
use Rattle.fx_model.specs.SameIds.{copies_key}
use Rattle.fx_store.proofs.touched.put_record.Goals as goal

pub returns : goal.returns
returns c =
    c.in_ok-insert.ensures.ok
    ∙ (λ i. map.insert c.args.records.now (copies_key _ _ c.in_ok-clone.ensures.cases i) (c.in_ok-clone-2.ensures.cases i))
