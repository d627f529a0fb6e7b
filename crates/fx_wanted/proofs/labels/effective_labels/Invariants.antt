use Rattle.std.proofs.Common.{◌≡◌}
use Rattle.fx_model.specs.Labels.{inherited}
use Rattle.fx_model.proofs.Inheriting.{parents_in, inherited_over}
use Rattle.fx_wanted.proofs.labels.effective_labels.Given as goal

-- with those that are left put in, the labels are all that is inherited
abbrev pub invariant-loop-name : goal.invariant-loop-name
invariant-loop-name l = inherited_over (parents_in l.resources) l.name-iterator.iter.rest.now l.labels ≡ inherited (parents_in l.resources) l.parents
