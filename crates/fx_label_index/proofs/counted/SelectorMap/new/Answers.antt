use Rattle.std.proofs.Common.{sym, subst}
use Rattle.fx_label_index.specs.Canonicals.{AreCanonical}
use Rattle.fx_label_index.proofs.Canonicals.{canonical_none}
use Rattle.fx_label_index.proofs.counted.SelectorMap.new.Goals as goal

pub invariant_of-result : goal.invariant_of-result
invariant_of-result c = subst AreCanonical (sym c.new.ensures) canonical_none
