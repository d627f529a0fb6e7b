use Rattle.std.proofs.Common.{sym, ap, ◌∙◌, subst}
use Rattle.std.specs.FinMap.{from_entries}
use Rattle.fx_base.specs.TextPlaces.{Ascends}
use Rattle.fx_selector.proofs.labels.Labels.shared.Goals as goal

pub invariant_of-result : goal.invariant_of-result
invariant_of-result c = subst Ascends (sym (c.in_ok-held.ensures ∙ c.deref.ensures.value)) c.self.invariant

pub returns : goal.returns
returns c = ap from_entries (c.in_ok-held.ensures ∙ c.deref.ensures.value) ∙ c.self.view_is
