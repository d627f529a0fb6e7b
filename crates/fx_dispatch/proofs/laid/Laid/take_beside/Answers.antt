use Rattle.std.proofs.Common.{is_some, sym, subst, ap, ◌∙◌}
use Rattle.fx_base.specs.Set as set
use Rattle.fx_dispatch.specs.declared.edit.Edit.TheVariants as edit
use Rattle.fx_dispatch.specs.Beside.{place_in}
use Rattle.fx_dispatch.specs.Laid.{IsTreeOf, IsEdit}
use Rattle.fx_dispatch.specs.Plans.{Names}
use Rattle.fx_dispatch.proofs.OneRule.{there_before, inside, less_edit, less_tree}
use Rattle.fx_dispatch.proofs.laid.Laid.take_beside.Goals as goal

pub remove_name-requires-clause-there : goal.remove_name-requires-clause-there
remove_name-requires-clause-there c =
    let s = c.args.self.now in
    ap is_some (there_before s.tree s.names c.args.name.now c.args.byte.now c.requires.kept c.requires.follows c.requires.there c.requires.more)

pub remove_name-requires-clause-within : goal.remove_name-requires-clause-within
remove_name-requires-clause-within c =
    let s = c.args.self.now in
    inside s.tree s.names c.args.name.now c.args.byte.now c.requires.kept c.requires.follows c.requires.there c.requires.more
    c.place_in-place.result (c.place_in-place.ensures.found ∙ ap (place_in c.args.name.now) c.names_at.ensures)

pub returns-clause-laid : goal.returns-clause-laid
returns-clause-laid c =
    let s = c.args.self.now in
    subst (λ (n : Names). IsTreeOf (record s.tree { branches = c.remove_name.new.branches }) (set.items n)) (sym c.remove.ensures)
    (less_tree s.tree s.names c.args.name.now c.args.byte.now c.requires.kept c.requires.follows c.requires.there c.requires.more
    c.remove_name.new.branches c.place_in-place.result (c.place_in-place.ensures.found ∙ ap (place_in c.args.name.now) c.names_at.ensures) c.remove_name.ensures)

pub returns-clause-planned : goal.returns-clause-planned
returns-clause-planned c =
    let s = c.args.self.now in
    subst (λ (n : Names). IsEdit (set.items s.names) (set.items n) (edit.RuleLess c.args.byte.now c.place_in-place.result)) (sym c.remove.ensures)
    (less_edit s.tree s.names c.args.name.now c.args.byte.now c.requires.kept c.requires.follows c.requires.there c.requires.more
    c.place_in-place.result (c.place_in-place.ensures.found ∙ ap (place_in c.args.name.now) c.names_at.ensures))
