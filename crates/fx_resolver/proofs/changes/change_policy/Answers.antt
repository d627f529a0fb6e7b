use Rattle.std.proofs.Common.{◌≡◌, cond, ap, ◌∙◌}
use Rattle.std.specs.Option.{option_copied}
use Rattle.std.specs.FinMap as map
use Rattle.fx_model.specs.declared.ids.ItemKey.{ItemKey}
use Rattle.fx_base.specs.Grouped.{has_key}
use Rattle.fx_resolver.specs.Lists.{item_lists, moved}
use Rattle.fx_resolver.specs.Placed.{stands_of, placed}
use Rattle.fx_resolver.proofs.Keeping.{policy_untold, policy_kept}
use Rattle.fx_resolver.proofs.changes.change_policy.Goals as goal

pub tell_items-requires-clause-told : goal.tell_items-requires-clause-told
tell_items-requires-clause-told g c =
    let n = c.args.inputs.now in
    let place = placed (stands_of n.tiers) c.args.id.now in
    let keys = has_key (option_copied c.items-items.result) in
    let from : option_copied c.as_ref.result ≡ place (map.get n.policies c.args.id.now) = c.as_ref.ensures.value ∙ c.in_ok-from.ensures ∙ ap place c.get.ensures in
    let to : option_copied c.as_ref-2.result ≡ place (option_copied c.args.after) = c.as_ref-2.ensures.value ∙ c.in_ok-to.ensures in
    policy_untold c.requires.kept c.args.id.now (option_copied c.args.after) c.move_in_items.new.lists keys c.items-items.ensures
    (λ (i : ItemKey). c.in_ok-move_in_items.ensures i ∙ (λ j. cond (keys i) (moved (from j) (to j) (item_lists c.args.rows.now.lists i)) (item_lists c.args.rows.now.lists i)))

pub returns-clause-kept : goal.returns-clause-kept
returns-clause-kept g c =
    let n = c.args.inputs.now in
    let place = placed (stands_of n.tiers) c.args.id.now in
    let keys = has_key (option_copied c.items-items.result) in
    let from : option_copied c.as_ref.result ≡ place (map.get n.policies c.args.id.now) = c.as_ref.ensures.value ∙ c.in_ok-from.ensures ∙ ap place c.get.ensures in
    let to : option_copied c.as_ref-2.result ≡ place (option_copied c.args.after) = c.as_ref-2.ensures.value ∙ c.in_ok-to.ensures in
    policy_kept c.requires.kept c.args.id.now (option_copied c.args.after) c.move_in_items.new.lists keys c.items-items.ensures
    (λ (i : ItemKey). c.in_ok-move_in_items.ensures i ∙ (λ j. cond (keys i) (moved (from j) (to j) (item_lists c.args.rows.now.lists i)) (item_lists c.args.rows.now.lists i)))
    c.tell_items.new.rows c.in_ok-tell_items.ensures.lists c.in_ok-tell_items.ensures.told
