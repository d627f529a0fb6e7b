use Rattle.std.proofs.Common.{sym, subst}
use Rattle.fx_selector.specs.Tree.{AreStrings}
use Rattle.fx_fields.proofs.NameTexts.{label_values-strings}
use Rattle.fx_k8s.proofs.label_texts.LabelValues.from_vec.Goals as goal

pub invariant_of-result : goal.invariant_of-result
invariant_of-result c = subst AreStrings (sym c.from_vec-held.ensures) (label_values-strings c.args.values.items c.requires)
