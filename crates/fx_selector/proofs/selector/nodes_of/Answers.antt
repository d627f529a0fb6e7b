use Rattle.std.proofs.Common.{ap, subst, ◌∙◌, ◌++◌, [], ◌∷◌, map}
use Rattle.std.proofs.lemmas.List.{map_push}
use Rattle.fx_selector.specs.Tree.{IsTree}
use Rattle.fx_selector.specs.Nodes.{tree}
use Rattle.fx_selector.proofs.Sound.{trees-push}
use Rattle.fx_selector.proofs.selector.nodes_of.Goals as goal

pub loop-part-preserved : goal.loop-part-preserved
loop-part-preserved c = record {
  trees =
      ap (map tree) c.in_ok-push.ensures.items
      ∙ (map_push tree c.loop-part.nodes.items c.part.inside.node
      ∙ (ap (λ ts. ts ++ tree c.part.inside.node ∷ []) c.loop-part.invariant.trees ∙ ap (λ t. c.loop-part.yielded ++ t ∷ []) c.part.view_is));
  sound = trees-push c.loop-part.yielded c.in-Some.part c.loop-part.invariant.sound (subst IsTree c.part.view_is c.part.invariant.tree);
}
