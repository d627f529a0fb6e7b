use Rattle.std.proofs.Common.{sym, subst}
use Rattle.fx_selector.specs.Tree.{AreStrings}
use Rattle.fx_k8s.proofs.label_texts.LabelValues.texts.Goals as goal

pub returns-clause-strings : goal.returns-clause-strings
returns-clause-strings c = subst AreStrings (sym c.as_slice.ensures) c.self.invariant
