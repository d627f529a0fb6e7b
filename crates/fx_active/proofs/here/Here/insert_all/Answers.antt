use Rattle.std.proofs.Common.{true, subst, sym, ◌∙◌}
use Rattle.fx_active.proofs.HereWalk.{IsHalfHere, here_start, here_next, here_end}
use Rattle.fx_active.proofs.here.Here.insert_all.Goals as goal

pub loop-text-init : goal.loop-text-init
loop-text-init c =
    subst (λ es. IsHalfHere c.args.texts.now c.args.item.now true c.args.self.now c.args.self.now es)
    (sym (c.into_iter-text-iterator.ensures.into_iter_gives ∙ c.iter-text-items.ensures)) (here_start c.args.texts.now c.args.item.now true c.args.self.now)

pub loop-text-preserved : goal.loop-text-preserved
loop-text-preserved c =
    let half = subst (λ es. IsHalfHere c.args.texts.now c.args.item.now true c.args.self.now c.loop-text.self es) c.in-Some.ensures.steps c.loop-text.invariant in
    here_next c.args.texts.now c.args.item.now true c.args.self.now c.loop-text.self _ _ half c.insert.new.self c.in_ok-insert.ensures

pub returns : goal.returns
returns c =
    here_end c.args.texts.now c.args.item.now true c.args.self.now c.loop-text.self
    (subst (λ es. IsHalfHere c.args.texts.now c.args.item.now true c.args.self.now c.loop-text.self es) c.in-None.ensures.steps.0 c.loop-text.invariant)
