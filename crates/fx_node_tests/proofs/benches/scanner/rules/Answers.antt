use Rattle.std.proofs.Common.{◌≡◌, List, [], ◌∷◌, ◌++◌, None, sym, ap, ◌∙◌, subst}
use Rattle.std.specs.List.{AllByRecursion}
use Rattle.fx_selector.specs.Tree.{Tree}
use Rattle.fx_model.specs.Sets.{nets_use, rules_uses, side_uses}
use Rattle.fx_model.specs.declared.rules.Rule.{Rule}
use Rattle.fx_model.specs.declared.set_use.SetUse.{SetUse}
use Rattle.fx_node_tests.proofs.benches.scanner.rules.Goals as goal

-- one rule, with a selector at its destination
one_rule : (before now : List Rule) (r : Rule) (t s : Tree) → now ≡ before ++ (r ∷ []) → before ≡ [] → side_uses r.protocol r.source ≡ [] → side_uses r.protocol r.destination ≡ nets_use t ∷ [] → t ≡ s → rules_uses now ≡ nets_use s ∷ []
one_rule before now r t s pushed none source destination same =
    ap rules_uses (pushed ∙ ap (λ rs. rs ++ (r ∷ [])) none) ∙ (λ i. (source i ++ destination i) ++ []) ∙ ap (λ u. nets_use u ∷ []) same

pub returns : goal.returns
returns c =
    subst (λ (us : List SetUse). AllByRecursion (λ u. u ≡ nets_use c.args.selector.now) us)
    (sym (one_rule _ _ _ _ c.args.selector.now c.in_ok-push.ensures.ok c.new-rules.ensures (c.side.ensures None) (c.side-2.ensures None) c.in_ok-clone.ensures.cases)) ((λ _. nets_use c.args.selector.now), tt)
