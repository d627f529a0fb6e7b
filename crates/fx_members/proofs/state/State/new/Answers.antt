use Rattle.std.proofs.Common.{sym, subst}
use Rattle.fx_members.specs.Kept.{IsKept}
use Rattle.fx_members.specs.declared.state.State.{State}
use Rattle.fx_members.proofs.UseLemmas.{nothing_kept}
use Rattle.fx_members.proofs.state.State.new.Goals as goal

pub returns-clause-kept : goal.returns-clause-kept
returns-clause-kept c =
    subst (λ (s : State). IsKept s)
    (λ j. record { inputs = sym c.new.ensures j; names = sym c.new-2.ensures j; texts = sym c.new-3.ensures j; counts = sym c.new-4.ensures j })
    nothing_kept
