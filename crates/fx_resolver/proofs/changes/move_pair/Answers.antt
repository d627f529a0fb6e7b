use Rattle.std.proofs.Common.{◌≡◌, Some, None, not, cond, ap, sym, ◌∙◌}
use Rattle.std.specs.Option.{option_copied}
use Rattle.std.specs.FinMap as map
use Rattle.fx_model.specs.TierOrder.{tier_stand}
use Rattle.fx_model.specs.declared.ids.ItemKey.{ItemKey}
use Rattle.fx_resolver.specs.Indexes.{same_item}
use Rattle.fx_resolver.specs.Lists.{item_lists, moved}
use Rattle.fx_resolver.specs.Placed.{stands_of, placed, placed_at}
use Rattle.fx_resolver.proofs.Keeping.{lent_if}
use Rattle.fx_resolver.proofs.Placing.{pair_moved}
use Rattle.fx_resolver.proofs.Retelling.{unmoved}
use Rattle.fx_resolver.proofs.changes.move_pair.Goals as goal

pub returns-in_default-clause-lists : goal.returns-in_default-clause-lists
returns-in_default-clause-lists c =
    let n = c.args.inputs.now in
    let change = c.args.change.now in
    let lists = c.args.lists.now in
    let place = placed (stands_of n.tiers) change.policy in
    pair_moved (stands_of n.tiers) n.policies n.pairs change.policy change.item change.on lists lists c.requires.lists c.requires.pair
    (λ i. unmoved change.on (same_item i change.item) (place (map.get n.policies change.policy)) (ap place (sym c.in_default.ensures)) (item_lists lists i))

pub returns-clause-lists : goal.returns-clause-lists
returns-clause-lists c =
    let n = c.args.inputs.now in
    let change = c.args.change.now in
    let id = change.policy in
    let lists = c.args.lists.now in
    let own : Some c.in_ok-placed.placed ≡ placed (stands_of n.tiers) id (map.get n.policies id) =
    ap Some (c.in_ok-placed.ensures ∙ ap (λ at. placed_at at id c.in-Some.policy.now) (c.of_tier-stand.ensures ∙ ap tier_stand c.get-2.ensures))
    ∙ ap (placed (stands_of n.tiers) id) c.in-Some.ensures in
    let from : option_copied c.then_some-from.result ≡ cond (not change.on) (placed (stands_of n.tiers) id (map.get n.policies id)) None =
    ap option_copied c.then_some-from.ensures ∙ lent_if _ _ ∙ ap (λ o. cond (not change.on) o None) own in
    let to : option_copied c.then_some-to.result ≡ cond change.on (placed (stands_of n.tiers) id (map.get n.policies id)) None =
    ap option_copied c.then_some-to.ensures ∙ lent_if _ _ ∙ ap (λ o. cond change.on o None) own in
    pair_moved (stands_of n.tiers) n.policies n.pairs id change.item change.on lists c.move_in_item.new.lists c.requires.lists c.requires.pair
    (λ (i : ItemKey). c.in_ok-move_in_item.ensures i ∙ (λ j. cond (same_item i change.item) (moved (from j) (to j) (item_lists lists i)) (item_lists lists i)))

pub returns-clause-others : goal.returns-clause-others
returns-clause-others c i isnt =
    c.in_ok-move_in_item.ensures i ∙ ap (λ b. cond b (moved (option_copied c.then_some-from.result) (option_copied c.then_some-to.result) (item_lists c.args.lists.now i)) (item_lists c.args.lists.now i)) isnt
