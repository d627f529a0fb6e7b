use Rattle.std.proofs.Common.{sym, subst, ap, ◌∙◌}
use Rattle.fx_label_index.specs.Canonicals.{AreCanonical}
use Rattle.fx_label_index.specs.Counts.{raised}
use Rattle.fx_label_index.proofs.Canonicals.{canonical_out, same_here, raised_is, raised_canonical}
use Rattle.fx_label_index.proofs.counted.SelectorMap.raise.Goals as goal

pub invariant_of-self : goal.invariant_of-self
invariant_of-self c = canonical_out c.self.inside.held _ c.args.text.now c.self.invariant c.remove-found.ensures.removed

pub invariant_of-self-in_err-insert : goal.invariant_of-self-in_err-insert
invariant_of-self-in_err-insert c = canonical_out c.self.inside.held _ c.args.text.now c.self.invariant (c.in_err-insert.ensures.err ∙ c.remove-found.ensures.removed)

pub invariant_of-self-2 : goal.invariant_of-self-2
invariant_of-self-2 c =
    let m = c.self.inside.held in
    let is = raised_is m c.remove-found.new.self c.insert.new.self c.args.text.now c.in_ok-key.key c.args.selector.now c.remove-found.result c.in_ok-counted.counted
    c.self.invariant c.requires.selector c.requires.text c.remove-found.ensures.removed c.remove-found.ensures.before c.in_ok-key.ensures.cases c.in_ok-counted.ensures c.in_ok-insert.ensures.ok in
    subst AreCanonical (sym is) (raised_canonical m c.args.text.now c.args.selector.now c.self.invariant c.requires.selector c.requires.text)

pub returns-clause-raised : goal.returns-clause-raised
returns-clause-raised c =
    raised_is c.self.inside.held c.remove-found.new.self c.insert.new.self c.args.text.now c.in_ok-key.key c.args.selector.now c.remove-found.result c.in_ok-counted.counted
    c.self.invariant c.requires.selector c.requires.text c.remove-found.ensures.removed c.remove-found.ensures.before c.in_ok-key.ensures.cases c.in_ok-counted.ensures c.in_ok-insert.ensures.ok
    ∙ ap (λ m. raised m c.args.text.now c.args.selector.now) c.self.view_is

pub returns-clause-same : goal.returns-clause-same
returns-clause-same c = same_here c.args.self.now c.args.text.now c.args.selector.now (subst AreCanonical c.self.view_is c.self.invariant) c.requires.selector c.requires.text
