use Rattle.std.proofs.Common.{◌≡◌, true, Option, subst}
use Rattle.std.proofs.lemmas.Bool.{leb-true}
use Rattle.fx_selector.specs.Tree.{Tree, height}
use Rattle.fx_services.specs.Lowerable.{is_low}
use Rattle.fx_services.proofs.lowering.plain_selector.Goals as goal

pub plain_tree-requires : goal.plain_tree-requires
plain_tree-requires c =
    leb-true (height c.in-Some.selector) 138 (subst (λ (o : Option Tree). is_low o ≡ true) c.in-Some.is c.requires)
