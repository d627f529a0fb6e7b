use Rattle.std.proofs.Common.{ap, sym, subst, ◌∙◌}
use Rattle.fx_base.specs.Set as set
use Rattle.fx_dispatch.specs.Beside.{left_out}
use Rattle.fx_dispatch.specs.Laid.{IsPlan}
use Rattle.fx_dispatch.specs.Plans.{Names}
use Rattle.fx_dispatch.proofs.Regrouped.{regrouped_went, none_left}
use Rattle.fx_dispatch.proofs.laid.Laid.take_anew.Goals as goal

pub take_at-requires-clause-there : goal.take_at-requires-clause-there
take_at-requires-clause-there c = λ none.
    none_left c.args.self.now.tree.branches c.args.byte.now c.args.name.now c.in_ok-branch.branch
    (c.in_ok-branch.ensures ∙ ap (left_out c.args.name.now) c.names_at.ensures) none

pub take_at-requires-clause-regrouped : goal.take_at-requires-clause-regrouped
take_at-requires-clause-regrouped c =
    regrouped_went c.args.self.now.tree c.args.self.now.names c.args.name.now c.requires.kept c.args.byte.now c.in_ok-branch.branch c.requires.follows
    (c.in_ok-branch.ensures ∙ ap (left_out c.args.name.now) c.names_at.ensures) (sym c.are_parted.ensures ∙ c.if-are_parted.true)

-- the names that were laid out whole are those that were there, without this one
pub returns-clause-interfaces : goal.returns-clause-interfaces
returns-clause-interfaces c =
    c.in_ok-whole.ensures.interfaces ∙ c.remove.ensures ∙ ap (λ (s : Names). set.remove s c.args.name.now) c.in_ok-names.ensures.cases

pub returns-clause-planned : goal.returns-clause-planned
returns-clause-planned c =
    subst (λ (s : Names). IsPlan (set.items c.args.self.now.names) (set.items s) c.in_ok-whole.whole) (sym c.in_ok-whole.ensures.interfaces) c.in_ok-whole.ensures.planned
