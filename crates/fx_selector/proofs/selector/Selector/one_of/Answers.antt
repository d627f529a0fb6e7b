use Rattle.std.proofs.Common.{ap, ◌∙◌}
use Rattle.fx_selector.specs.Tree.{set_of}
use Rattle.fx_selector.proofs.Sound.{one_of_selector}
use Rattle.fx_selector.proofs.selector.Selector.one_of.Goals as goal

pub invariant_of-result : goal.invariant_of-result
invariant_of-result c =
    let values = c.ascending-set.ensures ∙ ap set_of (c.in_ok-from_clones.ensures.items_if_clones_equal (λ x y h. h)) in
    rw (c.in_ok-new.ensures, c.one_of.ensures c.args.key.now, values) (one_of_selector c.args.key.now c.args.values.now c.args.not c.requires.key c.requires.values)

pub returns-clause-selector : goal.returns-clause-selector
returns-clause-selector c = invariant_of-result c
