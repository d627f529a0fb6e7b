use Rattle.std.proofs.Common.{sym, subst}
use Rattle.fx_resolver.specs.declared.state.State.{State}
use Rattle.fx_resolver.specs.Kept.{IsKeptState}
use Rattle.fx_resolver.proofs.Resolving.{nothing_kept}
use Rattle.fx_resolver.proofs.state.State.new.Goals as goal

pub returns-clause-kept : goal.returns-clause-kept
returns-clause-kept c = subst (λ (s : State). IsKeptState s) (λ j. record { inputs = sym c.new.ensures j; rows = sym c.new-2.ensures j }) nothing_kept
