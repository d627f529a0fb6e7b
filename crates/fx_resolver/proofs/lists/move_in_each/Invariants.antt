use Rattle.std.specs.Option.{option_copied}
use Rattle.fx_resolver.proofs.ListLemmas.{IsHalfMoved}
use Rattle.fx_resolver.proofs.lists.move_in_each.Given as goal

abbrev pub invariant-loop-item : goal.invariant-loop-item
invariant-loop-item l = IsHalfMoved (option_copied l.before) (option_copied l.after) l.items l.fn.lists l.lists l.item-iterator
