use Rattle.std.proofs.Common.{◌<◌, [], length}
use Rattle.fx_selector.specs.Reader.{string}
use Rattle.fx_selector.specs.Going.{Going}
use Rattle.fx_selector.proofs.grammar.strings_at.Given as goal

abbrev pub invariant-more : goal.invariant-more
invariant-more l = Going (λ _. string) 44 [] l.fn.rest l.parts.items l.after × (length l.after < length l.fn.rest)

abbrev pub decreases-more : goal.decreases-more
decreases-more l = length l.after
