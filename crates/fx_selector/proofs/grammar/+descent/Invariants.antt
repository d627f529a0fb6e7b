use Rattle.std.proofs.Common.{◌<◌, ◌+◌, ◌*◌, [], ◌∷◌, length, map}
use Rattle.fx_selector.specs.Reader.{and_of, not_of}
use Rattle.fx_selector.specs.Nodes.{tree}
use Rattle.fx_selector.specs.Going.{Going}
use Rattle.fx_selector.proofs.grammar.+descent.Given as goal

abbrev pub decreases-negated_at : goal.decreases-negated_at
decreases-negated_at l = 4 * l.depth

abbrev pub decreases-group_at : goal.decreases-group_at
decreases-group_at l = 4 * l.depth

abbrev pub decreases-not_at : goal.decreases-not_at
decreases-not_at l = 4 * l.depth + 1

abbrev pub decreases-and_at : goal.decreases-and_at
decreases-and_at l = 4 * l.depth + 2

abbrev pub decreases-or_at : goal.decreases-or_at
decreases-or_at l = 4 * l.depth + 3

abbrev pub invariant-and_at-more : goal.invariant-and_at-more
invariant-and_at-more l = Going (λ n. not_of l.fn.limit n l.fn.depth) 38 (38 ∷ []) l.fn.rest (map tree l.parts.items) l.after × (length l.after < length l.fn.rest)

abbrev pub decreases-and_at-more : goal.decreases-and_at-more
decreases-and_at-more l = length l.after

abbrev pub invariant-or_at-more : goal.invariant-or_at-more
invariant-or_at-more l = Going (λ n. and_of (not_of l.fn.limit n l.fn.depth) n) 124 (124 ∷ []) l.fn.rest (map tree l.parts.items) l.after × (length l.after < length l.fn.rest)

abbrev pub decreases-or_at-more : goal.decreases-or_at-more
decreases-or_at-more l = length l.after
