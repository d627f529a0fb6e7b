-- What an edit of dispatch chains writes and deletes among chains.
use Rattle.std.specs.Prelude.{ℕ, ◌<◌, List, [], ◌∷◌, length}
use Rattle.std.specs.List.{insert, remove}
use Rattle.fx_model.specs.Directions.{Direction, Ingress, Egress}
use Rattle.fx_model.specs.Machine.{rules_in}
use Rattle.fx_model.specs.Tables.{ChainName, Chains}
use Rattle.fx_model.specs.Tree.{child_chain}
use Rattle.fx_dispatch.specs.declared.edit.Edit.{Edit}
use Rattle.fx_dispatch.specs.declared.edit.Edit.TheVariants as edit
use Rattle.fx_dispatch.specs.Plans.{Writes}

-- the chains that it writes, as they are then
abbrev pub writes_in : Chains → Edit → Writes
writes_in chains (edit.Chains plan) = plan.writes
writes_in chains (edit.RuleMore byte place to from) =
    (child_chain Ingress byte, insert (rules_in chains (child_chain Ingress byte)) place to)
    ∷ (child_chain Egress byte, insert (rules_in chains (child_chain Egress byte)) place from)
    ∷ []
writes_in chains (edit.RuleLess byte place) =
    (child_chain Ingress byte, remove (rules_in chains (child_chain Ingress byte)) place)
    ∷ (child_chain Egress byte, remove (rules_in chains (child_chain Egress byte)) place)
    ∷ []

abbrev pub deletes_in : Edit → List ChainName
deletes_in (edit.Chains plan) = plan.deletes
deletes_in (edit.RuleMore byte place to from) = []
deletes_in (edit.RuleLess byte place) = []

-- where it has a place, the byte's chains have a rule there
abbrev pub HasPlaces : Chains → Edit → Type 0
HasPlaces chains (edit.Chains plan) = Unit {0}
HasPlaces chains (edit.RuleMore byte place to from) = (d : Direction) → place < length (rules_in chains (child_chain d byte))
HasPlaces chains (edit.RuleLess byte place) = (d : Direction) → place < length (rules_in chains (child_chain d byte))
