use Rattle.fx_base.proofs.TextPlaces.{none_ascend}
use Rattle.fx_selector.proofs.labels.Labels.new.Goals as goal

pub invariant_of-result : goal.invariant_of-result
invariant_of-result c = none_ascend _ c.new.ensures.items
