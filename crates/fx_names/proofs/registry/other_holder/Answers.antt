use Rattle.std.proofs.Common.{sym}
use Rattle.fx_names.proofs.ClaimLists.{other_holder-more, other_holder-at}
use Rattle.fx_names.proofs.registry.other_holder.Goals as goal

pub returns-then-clashes : goal.returns-then-clashes
returns-then-clashes c = sym (other_holder-at _ _ _ _ c.loop-held-test.true c.held-item.is c.loop-held.invariant (sym c.if-clashes.ensures))

pub loop-held-preserved : goal.loop-held-preserved
loop-held-preserved c = other_holder-more _ _ _ _ c.loop-held-test.true c.held-item.is c.loop-held.invariant (sym c.if-clashes.ensures)
