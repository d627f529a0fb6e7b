use Rattle.std.proofs.Common.{sym, subst}
use Rattle.fx_selector.specs.Tree.{IsKey}
use Rattle.fx_k8s.proofs.label_texts.LabelKey.bytes.Goals as goal

pub returns-clause-key : goal.returns-clause-key
returns-clause-key c = subst IsKey (sym c.bytes.ensures) c.self.invariant
