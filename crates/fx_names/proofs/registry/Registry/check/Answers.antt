use Rattle.std.proofs.Common.{sym, ◌∙◌, take}
use Rattle.fx_names.proofs.ClaimLists.{other_holder-first, other_holder-later, first_clash-at, first_clash-more, first_clash-end}
use Rattle.fx_names.proofs.registry.Registry.check.Goals as goal

pub returns-in-Some : goal.returns-in-Some
returns-in-Some c = λ others k.
    sym (c.loop-i.invariant others k ∙ first_clash-at others c.args.new.now c.loop-i.i c.index-new-i.result c.loop-i-test.true c.index-new-i.is c.in-Some.holder.now
    (other_holder-first others (take c.loop-i.i c.args.new.now) c.index-new-i.result c.in-Some.holder.now (sym (c.in-Some.ensures others k))))

pub loop-i-preserved : goal.loop-i-preserved
loop-i-preserved c = λ others k.
    c.loop-i.invariant others k ∙ first_clash-more others c.args.new.now c.loop-i.i c.index-new-i.result c.loop-i-test.true c.index-new-i.is
    (other_holder-later others (take c.loop-i.i c.args.new.now) c.index-new-i.result (sym (c.in_default.ensures others k)) ∙ sym c.in_default-other_holder.ensures)

pub returns : goal.returns
returns c = λ others k. sym (c.loop-i.invariant others k ∙ first_clash-end others c.args.new.now c.loop-i.i c.loop-i-test.false)

pub returns-in-Some-other_holder : goal.returns-in-Some-other_holder
returns-in-Some-other_holder c = λ others k.
    sym (c.loop-i.invariant others k ∙ first_clash-at others c.args.new.now c.loop-i.i c.index-new-i.result c.loop-i-test.true c.index-new-i.is c.in-Some-other_holder.holder.now
    (other_holder-later others (take c.loop-i.i c.args.new.now) c.index-new-i.result (sym (c.in_default.ensures others k)) ∙ sym c.in-Some-other_holder.ensures))
