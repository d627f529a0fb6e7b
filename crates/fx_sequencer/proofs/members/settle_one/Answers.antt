use Rattle.std.proofs.Common.{sym, ◌∙◌}
use Rattle.fx_sequencer.proofs.Settling.{told_stays, told_goes, wanted_held}
use Rattle.fx_sequencer.proofs.members.settle_one.Goals as goal

pub swap-requires : goal.swap-requires
swap-requires c = wanted_held _ (sym c.is_wanted.ensures ∙ c.if-is_wanted.true)

pub returns-then-is_wanted : goal.returns-then-is_wanted
returns-then-is_wanted c = (told_stays c.args.members.now c.swap.new.self c.args.member (sym c.is_wanted.ensures ∙ c.if-is_wanted.true) c.swap.ensures.swapped).at

pub returns-else-is_wanted : goal.returns-else-is_wanted
returns-else-is_wanted c = (told_goes c.args.members.now c.remove.new.self c.args.member (sym c.is_wanted.ensures ∙ c.if-is_wanted.false) c.remove.ensures.removed).at
