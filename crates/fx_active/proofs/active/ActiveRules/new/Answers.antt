use Rattle.std.proofs.Common.{sym, subst}
use Rattle.std.specs.FinMap as map
use Rattle.fx_active.specs.Node.{IsActive}
use Rattle.fx_active.proofs.NodeLemmas.{none_active}
use Rattle.fx_active.proofs.active.ActiveRules.new.Goals as goal

pub returns-clause-active : goal.returns-clause-active
returns-clause-active c = subst (λ n. IsActive n map.empty map.empty map.empty) (sym c.new.ensures) none_active
