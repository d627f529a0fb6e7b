use Rattle.std.proofs.Common.{sym, subst, refl, ◌∙◌}
use Rattle.fx_base.specs.Set as set
use Rattle.fx_tables.proofs.Exchanged.{on_err}
use Rattle.fx_dispatch.specs.declared.tree.Tree.{Tree}
use Rattle.fx_dispatch.specs.Laid.{IsTreeOf, IsPlan}
use Rattle.fx_dispatch.specs.Plans.{Names}
use Rattle.fx_dispatch.proofs.LaidLemmas.{plan_with, tree_with}
use Rattle.fx_dispatch.proofs.laid.Laid.add_at.Goals as goal

pub returns-in_err-insert_both-clause-err : goal.returns-in_err-insert_both-clause-err
returns-in_err-insert_both-clause-err c =
    let s = c.args.self.now in
    on_err c.from_residual-in_err-insert_both.result
    (λ j. record s { names = c.in_err-insert_both.ensures.same_names j; tree = record s.tree { branches = c.in_err-insert_both.ensures.same_branches j } })

pub returns-clause-laid : goal.returns-clause-laid
returns-clause-laid c =
    let s = c.args.self.now in
    let now : Tree = record s.tree { root = c.in_ok-root.root; branches = c.insert_both.new.branches } in
    subst (λ (n : Names). IsTreeOf now (set.items n)) (sym c.in_ok-insert_both.ensures.inserted)
    (tree_with s.tree (set.items s.names) (set.items (set.insert s.names c.args.name)) c.args.byte.now c.args.branch c.requires.kept c.requires.regrouped
    now refl c.in_ok-root.ensures (c.in_ok-insert_both.ensures.placed ∙ sym c.requires.placed))

pub returns-clause-planned : goal.returns-clause-planned
returns-clause-planned c =
    let s = c.args.self.now in
    subst (λ (n : Names). IsPlan (set.items s.names) (set.items n) c.in_ok-plan.plan) (sym c.in_ok-insert_both.ensures.inserted)
    (plan_with s.tree (set.items s.names) (set.items (set.insert s.names c.args.name)) c.args.byte.now c.args.branch c.requires.kept c.requires.regrouped
    c.in_ok-plan.plan c.in_ok-root.root c.in_ok-root.ensures c.in_ok-plan.ensures.writes c.in_ok-plan.ensures.deletes)
