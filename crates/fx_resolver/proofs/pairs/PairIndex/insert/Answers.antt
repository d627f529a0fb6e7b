use Rattle.std.proofs.Common.{unwrap_or, ap, ◌∙◌}
use Rattle.std.specs.FinMap as map
use Rattle.fx_base.specs.Set as set
use Rattle.fx_base.proofs.Keyed.{key_added}
use Rattle.fx_model.specs.SameIds.{copies_item, copies_policy_id}
use Rattle.fx_model.proofs.Orders.{policy_total, exact_policy, item_total}
use Rattle.fx_resolver.proofs.PairLemmas.{pair_put}
use Rattle.fx_resolver.proofs.pairs.PairIndex.insert.Goals as goal

pub returns : goal.returns
returns c =
    let id = c.args.id.now in
    let item = c.args.item.now in
    pair_put c.self.inside.by_policy c.insert-2.new.self id item
    (key_added policy_total exact_policy item_total c.self.inside.by_policy c.insert-2.new.self id item c.unwrap_or-items.result
    (c.unwrap_or-items.ensures ∙ (λ j. unwrap_or (c.remove.ensures.before j) (c.new.ensures j)))
    (c.in_ok-insert-2.ensures.ok
    ∙ (λ j. map.insert (c.remove.ensures.removed j) (copies_policy_id _ _ c.in_ok-clone-2.ensures.cases j) (c.in_ok-insert.ensures.ok j))
    ∙ (λ j. map.insert (map.remove c.self.inside.by_policy id) id (set.insert c.unwrap_or-items.result (copies_item _ _ c.in_ok-clone.ensures.cases j)))))
    ∙ ap (λ s. set.insert s (id, item)) c.self.view_is
