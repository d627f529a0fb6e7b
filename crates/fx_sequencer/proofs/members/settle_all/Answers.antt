use Rattle.std.proofs.Common.{◌<◌, refl, sym, subst}
use Rattle.fx_base.specs.Set as set
use Rattle.fx_model.proofs.Orders.{member_total}
use Rattle.fx_sequencer.proofs.Settling.{fewer, none_first, settling, settled_all}
use Rattle.fx_sequencer.proofs.members.settle_all.Goals as goal

pub loop-member-init : goal.loop-member-init
loop-member-init c = record { ends = λ m. refl }

pub loop-member-preserved : goal.loop-member-preserved
loop-member-preserved c =
    settling c.args.members.now c.loop-member.members c.args.noted.now c.loop-member.noted c.loop-member.invariant c.in-Some.member c.in-Some.ensures
    c.settle_one.new.members c.remove.new.self (record { at = c.settle_one.ensures }) c.remove.ensures.removed

pub loop-member-smaller : goal.loop-member-smaller
loop-member-smaller c =
    subst (λ s. set.len s < set.len c.loop-member.noted) (sym c.remove.ensures.removed) (fewer member_total c.loop-member.noted c.in-Some.member c.in-Some.ensures)

pub returns-clause-members : goal.returns-clause-members
returns-clause-members c = settled_all c.args.members.now c.loop-member.members c.args.noted.now c.loop-member.noted c.loop-member.invariant c.in_default.ensures

pub returns-clause-none : goal.returns-clause-none
returns-clause-none c = none_first member_total c.loop-member.noted c.in_default.ensures
