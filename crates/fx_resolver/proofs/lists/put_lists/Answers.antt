use Rattle.std.proofs.Common.{cond, ap, sym, ◌∙◌}
use Rattle.std.specs.FinMap as map
use Rattle.fx_model.specs.SameIds.{copies_item}
use Rattle.fx_resolver.specs.Indexes.{same_item}
use Rattle.fx_resolver.specs.Lists.{item_lists}
use Rattle.fx_resolver.proofs.ListLemmas.{lists_put, lists_absent}
use Rattle.fx_resolver.proofs.lists.put_lists.Goals as goal

pub returns-then-is_empty : goal.returns-then-is_empty
returns-then-is_empty c = λ i.
    lists_absent c.args.lists.now c.args.item.now i c.requires
    ∙ ap (λ l. cond (same_item i c.args.item.now) l (item_lists c.args.lists.now i)) (sym (c.is_empty.ensures c.if-is_empty.true))

pub returns : goal.returns
returns c = λ i.
    ap (λ m. item_lists m i) (c.in_ok-insert.ensures.ok ∙ (λ j. map.insert c.args.lists.now (copies_item _ _ c.in_ok-clone.ensures.cases j) c.args.own))
    ∙ lists_put c.args.lists.now c.args.item.now i c.args.own
