-- What an edit writes among chains that hold the tree is what it writes among the dispatch chains alone.
use Rattle.std.proofs.Common.{◌≡◌, ◌<◌, List, [], ◌∷◌, Option, length, refl, sym, subst}
use Rattle.std.specs.List.{insert, remove}
use Rattle.fx_base.specs.Set as set
use Rattle.fx_model.specs.declared.chain.ChainRule.{ChainRule}
use Rattle.fx_model.specs.Directions.{Ingress, Egress}
use Rattle.fx_model.specs.Machine.{rules_found}
use Rattle.fx_model.specs.Tables.{Chains}
use Rattle.fx_model.specs.Tree.{child_chain, HoldsTree}
use Rattle.fx_dispatch.specs.declared.edit.Edit.{Edit}
use Rattle.fx_dispatch.specs.declared.edit.Edit.TheVariants as edit
use Rattle.fx_dispatch.specs.Edits.{writes_in, HasPlaces}
use Rattle.fx_dispatch.specs.Plans.{Names, tree_of}

module _ (names : Names) (chains : Chains) (holds : HoldsTree (set.items names) chains) where
  pub same_writes : (e : Edit) → writes_in chains e ≡ writes_in (tree_of names) e
  same_writes (edit.Chains plan) = refl
  same_writes (edit.RuleMore byte place to from) = λ i.
      (child_chain Ingress byte, insert (rules_found (holds.children Ingress byte i)) place to)
      ∷ (child_chain Egress byte, insert (rules_found (holds.children Egress byte i)) place from)
      ∷ []
  same_writes (edit.RuleLess byte place) = λ i.
      (child_chain Ingress byte, remove (rules_found (holds.children Ingress byte i)) place)
      ∷ (child_chain Egress byte, remove (rules_found (holds.children Egress byte i)) place)
      ∷ []

  pub same_places : (e : Edit) → HasPlaces (tree_of names) e → HasPlaces chains e
  same_places (edit.Chains plan) h = tt
  same_places (edit.RuleMore byte place to from) h = λ d. subst (λ (o : Option (List ChainRule)). place < length (rules_found o)) (sym (holds.children d byte)) (h d)
  same_places (edit.RuleLess byte place) h = λ d. subst (λ (o : Option (List ChainRule)). place < length (rules_found o)) (sym (holds.children d byte)) (h d)
