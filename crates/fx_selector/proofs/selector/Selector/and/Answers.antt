use Rattle.std.proofs.Common.{◌<◌, length, sym, ap, subst, ◌∙◌, arith}
use Rattle.std.proofs.lemmas.Grind.{common_steps}
use Rattle.std.proofs.lemmas.List.{length-map}
use Rattle.fx_selector.specs.Tree.{together, each, IsSelector}
use Rattle.fx_selector.specs.Nodes.{tree}
use Rattle.fx_selector.proofs.Sound.{and_selector, and_of-filled}
use Rattle.fx_selector.proofs.selector.Selector.and.Goals as goal

pub invariant_of-result-2 : goal.invariant_of-result-2
invariant_of-result-2 c =
    let some : 0 < length c.in_ok-nodes.nodes.items = grind (arith, common_steps) in
    let filled : 0 < length c.args.parts.items = omega (arith, some, ap length c.in_ok-nodes.ensures.trees, length-map c.in_ok-nodes.nodes.items tree) in
    subst IsSelector
    (sym (c.all_of.ensures ∙ (ap (together each) c.in_ok-nodes.ensures.trees ∙ and_of-filled c.args.parts.items filled)))
    (and_selector c.args.parts.items c.in_ok-nodes.ensures.sound c.requires)

pub returns-clause-selector : goal.returns-clause-selector
returns-clause-selector c = invariant_of-result-2 c
