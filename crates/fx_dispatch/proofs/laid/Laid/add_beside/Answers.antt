use Rattle.std.proofs.Common.{is_some, sym, subst, ap, ◌∙◌, length}
use Rattle.std.specs.FinMap as map
use Rattle.fx_base.specs.Set as set
use Rattle.fx_model.specs.Tree.{names_found}
use Rattle.fx_dispatch.specs.declared.edit.Edit.TheVariants as edit
use Rattle.fx_dispatch.specs.Beside.{place_in}
use Rattle.fx_dispatch.specs.Laid.{IsTreeOf, IsEdit}
use Rattle.fx_dispatch.specs.Plans.{Names}
use Rattle.fx_tables.proofs.Exchanged.{on_err}
use Rattle.fx_dispatch.proofs.OneRule.{there_already, more_edit, more_tree}
use Rattle.fx_dispatch.proofs.laid.Laid.add_beside.Goals as goal

pub insert_beside-requires-clause-there : goal.insert_beside-requires-clause-there
insert_beside-requires-clause-there c =
    let s = c.args.self.now in
    ap is_some (there_already s.tree s.names c.args.name c.args.byte.now c.requires.kept c.requires.follows c.requires.absent c.requires.room)

pub insert_beside-requires-clause-within : goal.insert_beside-requires-clause-within
insert_beside-requires-clause-within c = rw c.names_at.ensures at c.place_in-place.ensures.within

pub returns-in_err-insert_beside-clause-err : goal.returns-in_err-insert_beside-clause-err
returns-in_err-insert_beside-clause-err c =
    let s = c.args.self.now in
    on_err c.from_residual-in_err-insert_beside.result
    (λ j. record s { names = c.in_err-insert_beside.ensures.same_names j; tree = record s.tree { branches = c.in_err-insert_beside.ensures.same_branches j } })

pub returns-clause-laid : goal.returns-clause-laid
returns-clause-laid c =
    let s = c.args.self.now in
    subst (λ (n : Names). IsTreeOf (record s.tree { branches = c.insert_beside.new.branches }) (set.items n)) (sym c.in_ok-insert_beside.ensures.inserted)
    (more_tree s.tree s.names c.args.name c.args.byte.now c.requires.kept c.requires.follows c.requires.absent c.requires.room
    c.insert_beside.new.branches c.place_in-place.result (c.place_in-place.ensures.found ∙ ap (place_in c.args.name) c.names_at.ensures) c.in_ok-insert_beside.ensures.placed)

pub returns-clause-planned : goal.returns-clause-planned
returns-clause-planned c =
    let s = c.args.self.now in
    subst (λ (n : Names). IsEdit (set.items s.names) (set.items n) (edit.RuleMore c.args.byte.now c.place_in-place.result c.in_ok-to.to c.in_ok-from.from)) (sym c.in_ok-insert_beside.ensures.inserted)
    (more_edit s.tree s.names c.args.name c.args.byte.now c.requires.kept c.requires.follows c.requires.absent c.requires.room
    c.place_in-place.result c.in_ok-to.to c.in_ok-from.from (c.place_in-place.ensures.found ∙ ap (place_in c.args.name) c.names_at.ensures) c.in_ok-to.ensures c.in_ok-from.ensures)
