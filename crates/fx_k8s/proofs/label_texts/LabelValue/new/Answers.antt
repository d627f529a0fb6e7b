use Rattle.std.proofs.Common.{sym, subst}
use Rattle.fx_selector.specs.Tree.{IsString}
use Rattle.fx_fields.proofs.NameTexts.{label_value-string}
use Rattle.fx_k8s.proofs.label_texts.LabelValue.new.Goals as goal

pub invariant_of-result : goal.invariant_of-result
invariant_of-result c = subst IsString (sym c.in_ok-held.ensures) (label_value-string c.args.value.now c.requires)
