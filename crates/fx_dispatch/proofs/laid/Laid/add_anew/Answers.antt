use Rattle.std.proofs.Common.{ap, sym, subst, ◌∙◌}
use Rattle.fx_base.specs.Set as set
use Rattle.fx_dispatch.specs.Beside.{with_placed}
use Rattle.fx_dispatch.specs.Laid.{IsPlan}
use Rattle.fx_dispatch.specs.Plans.{Names}
use Rattle.fx_dispatch.proofs.Regrouped.{regrouped_came, placed_some}
use Rattle.fx_dispatch.proofs.laid.Laid.add_anew.Goals as goal

pub add_at-requires-clause-placed : goal.add_at-requires-clause-placed
add_at-requires-clause-placed c = placed_some c.args.self.now.tree.branches c.args.byte.now c.args.name c.names_at.result.now c.in_ok-branch.branch c.in_ok-branch.ensures

pub add_at-requires-clause-regrouped : goal.add_at-requires-clause-regrouped
add_at-requires-clause-regrouped c =
    regrouped_came c.args.self.now.tree c.args.self.now.names c.args.name c.requires.kept c.args.byte.now c.in_ok-branch.branch c.requires.follows
    (c.in_ok-branch.ensures ∙ ap (with_placed c.args.name) c.names_at.ensures) (sym c.fits.ensures ∙ c.if-fits.true)

-- the names that were laid out whole are those that were there, and this one
pub returns-clause-interfaces : goal.returns-clause-interfaces
returns-clause-interfaces c =
    c.in_ok-whole.ensures.interfaces ∙ c.in_ok-insert.ensures.ok ∙ ap (λ (s : Names). set.insert s c.args.name) c.in_ok-names.ensures.cases

pub returns-clause-planned : goal.returns-clause-planned
returns-clause-planned c =
    subst (λ (s : Names). IsPlan (set.items c.args.self.now.names) (set.items s) c.in_ok-whole.whole) (sym c.in_ok-whole.ensures.interfaces) c.in_ok-whole.ensures.planned
