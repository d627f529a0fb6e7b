use Rattle.std.proofs.Common.{sym, subst, ap, ◌∙◌}
use Rattle.fx_label_index.specs.Canonicals.{AreCanonical}
use Rattle.fx_label_index.specs.Counts.{lowered}
use Rattle.fx_label_index.proofs.Canonicals.{canonical_out, lowered_left, lowered_gone, left_canonical}
use Rattle.fx_label_index.proofs.counted.SelectorMap.lower.Goals as goal

pub invariant_of-self : goal.invariant_of-self
invariant_of-self c = canonical_out c.self.inside.held _ c.args.text.now c.self.invariant c.remove-found.ensures.removed

pub returns-in_default : goal.returns-in_default
returns-in_default c =
    lowered_gone c.self.inside.held c.remove-found.new.self c.args.text.now c.remove-found.result c.remove-found.ensures.removed c.remove-found.ensures.before (sym c.once_less.ensures ∙ c.in_default.is)
    ∙ ap (λ m. lowered m c.args.text.now) c.self.view_is

pub invariant_of-self-in_err-insert : goal.invariant_of-self-in_err-insert
invariant_of-self-in_err-insert c = canonical_out c.self.inside.held _ c.args.text.now c.self.invariant (c.in_err-insert.ensures.err ∙ c.remove-found.ensures.removed)

pub invariant_of-self-2 : goal.invariant_of-self-2
invariant_of-self-2 c =
    let left = sym c.once_less.ensures ∙ c.in-Some.is in
    let is = lowered_left c.self.inside.held c.remove-found.new.self c.args.text.now c.remove-found.result c.remove-found.ensures.removed c.remove-found.ensures.before
    c.insert.new.self c.in_ok-key.key c.in-Some.counted left c.in_ok-key.ensures.cases c.in_ok-insert.ensures.ok in
    subst AreCanonical (sym is) (left_canonical c.self.inside.held c.remove-found.new.self c.args.text.now c.remove-found.result c.remove-found.ensures.removed c.remove-found.ensures.before c.self.invariant c.in-Some.counted left)

pub returns : goal.returns
returns c =
    let left = sym c.once_less.ensures ∙ c.in-Some.is in
    lowered_left c.self.inside.held c.remove-found.new.self c.args.text.now c.remove-found.result c.remove-found.ensures.removed c.remove-found.ensures.before
    c.insert.new.self c.in_ok-key.key c.in-Some.counted left c.in_ok-key.ensures.cases c.in_ok-insert.ensures.ok
    ∙ ap (λ m. lowered m c.args.text.now) c.self.view_is
