use Rattle.std.proofs.Common.{sym, subst}
use Rattle.fx_selector.specs.Tree.{IsString}
use Rattle.fx_k8s.proofs.label_texts.LabelValue.bytes.Goals as goal

pub returns-clause-string : goal.returns-clause-string
returns-clause-string c = subst IsString (sym c.bytes.ensures) c.self.invariant
