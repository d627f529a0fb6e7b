use Rattle.std.proofs.Common.{sym, ◌∙◌, subst}
use Rattle.std.specs.Option.{option_copied}
use Rattle.fx_base.specs.Grouped.{has_key}
use Rattle.fx_resolver.proofs.OrderLemmas.{AreCovered, covered_start, covered_next}
use Rattle.fx_resolver.proofs.orders.items_of.Goals as goal

pub loop-id-init : goal.loop-id-init
loop-id-init c =
    subst (λ es. AreCovered c.args.ids.now c.args.pairs.now c.new-items.result es) (sym (c.into_iter-id-iterator.ensures.into_iter_gives ∙ c.iter-id-items.ensures))
    (covered_start c.args.ids.now c.args.pairs.now c.new-items.result)

pub loop-id-preserved : goal.loop-id-preserved
loop-id-preserved c =
    covered_next c.args.ids.now c.args.pairs.now c.loop-id.items c.add_items.new.items _ _ (has_key (option_copied c.items.result)) c.items.ensures c.in_ok-add_items.ensures
    (subst (λ es. AreCovered c.args.ids.now c.args.pairs.now c.loop-id.items es) c.in-Some.ensures.steps c.loop-id.invariant)
