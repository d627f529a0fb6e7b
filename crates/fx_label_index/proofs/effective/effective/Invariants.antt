use Rattle.std.proofs.Common.{◌≡◌}
use Rattle.std.specs.FinMap as map
use Rattle.fx_model.specs.Labels.{inherited}
use Rattle.fx_model.proofs.Inheriting.{inherited_over}
use Rattle.fx_label_index.proofs.effective.effective.Given as goal

-- with those that are left put in, the labels are all that is inherited
abbrev pub invariant-loop-name : goal.invariant-loop-name
invariant-loop-name l = inherited_over (map.get l.parents) l.name-iterator.iter.rest.now l.labels ≡ inherited (map.get l.parents) l.held.parents
