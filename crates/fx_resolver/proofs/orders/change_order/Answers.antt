use Rattle.std.proofs.Common.{ap, sym, ◌∙◌}
use Rattle.fx_model.specs.SamePlaces.{same_stand}
use Rattle.fx_model.specs.TierOrder.{tier_stand}
use Rattle.fx_resolver.proofs.Keeping.{order_same, order_none, order_untold, order_kept}
use Rattle.fx_resolver.proofs.OrderLemmas.{places_before}
use Rattle.fx_resolver.proofs.orders.change_order.Goals as goal
use Rattle.fx_resolver.specs.Placed.{stands_of}

pub returns-then-eq-clause-kept : goal.returns-then-eq-clause-kept
returns-then-eq-clause-kept g c =
    order_same c.requires.kept c.args.name.now c.args.after
    (sym (c.of_tier-before.ensures ∙ ap tier_stand c.get.ensures) ∙ same_stand _ _ (sym c.eq.ensures ∙ c.if-eq.true))

pub returns-in_default-clause-kept : goal.returns-in_default-clause-kept
returns-in_default-clause-kept g c = order_none c.requires.kept c.args.name.now c.args.after (λ id. sym (c.in_default.ensures id))

pub move_ids-requires : goal.move_ids-requires
move_ids-requires g c =
    places_before (stands_of c.args.inputs.now.tiers) c.args.inputs.now.policies c.args.inputs.now.pairs c.args.name.now c.in-Some.ids.now c.in-Some.ensures c.args.rows.now.lists c.requires.kept.lists_are
    c.of_tier-before.result (sym (c.of_tier-before.ensures ∙ ap tier_stand c.get.ensures))

pub tell_items-requires-clause-told : goal.tell_items-requires-clause-told
tell_items-requires-clause-told g c =
    order_untold c.requires.kept c.args.name.now c.args.after c.in-Some.ids.now c.in-Some.ensures c.move_ids.new.lists c.in_ok-move_ids.ensures c.in_ok-items.items c.in_ok-items.ensures

pub returns-clause-kept : goal.returns-clause-kept
returns-clause-kept g c =
    order_kept c.requires.kept c.args.name.now c.args.after c.in-Some.ids.now c.in-Some.ensures c.move_ids.new.lists c.in_ok-move_ids.ensures
    c.tell_items.new.rows c.in_ok-tell_items.ensures.lists c.in_ok-tell_items.ensures.told
