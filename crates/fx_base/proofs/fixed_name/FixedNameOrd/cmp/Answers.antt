use Rattle.std.proofs.Common.{◌∙◌}
use Rattle.std.specs.Ordering.{nat_cmp, ordering_then}
use Rattle.std.specs.Cmp.Lexicographic.{slice_cmp}
use Rattle.fx_base.proofs.WordLemmas.{order_filled}
use Rattle.fx_base.proofs.fixed_name.FixedNameOrd.cmp.Goals as goal

pub returns : goal.returns
returns g c =
    c.then.ensures ∙ (λ j. ordering_then (c.order_by_words.ensures j) (c.cmp.ensures j))
    ∙ order_filled _ _ _ _ _ c.self.invariant c.other.invariant ∙ (λ j. slice_cmp nat_cmp (c.self.view_is j) (c.other.view_is j))
