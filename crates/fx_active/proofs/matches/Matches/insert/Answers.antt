use Rattle.std.proofs.Common.{unwrap_or, ap, ◌∙◌}
use Rattle.std.specs.Cmp.Lexicographic.{nat_list_cmp_total}
use Rattle.std.specs.FinMap as map
use Rattle.fx_base.specs.Set as set
use Rattle.fx_base.proofs.Keyed.{key_added}
use Rattle.fx_model.specs.SameIds.{copies_item}
use Rattle.fx_model.proofs.Orders.{item_total, exact_item}
use Rattle.fx_active.proofs.RowLemmas.{pair_put}
use Rattle.fx_active.proofs.matches.Matches.insert.Goals as goal

pub returns : goal.returns
returns c =
    let text = c.args.text.now in
    let item = c.args.item.now in
    pair_put c.self.inside.by_item c.insert-2.new.self text item
    (key_added item_total exact_item nat_list_cmp_total c.self.inside.by_item c.insert-2.new.self item text c.unwrap_or-texts.result
    (c.unwrap_or-texts.ensures ∙ (λ j. unwrap_or (c.remove.ensures.before j) (c.new.ensures j)))
    (c.in_ok-insert-2.ensures.ok
    ∙ (λ j. map.insert (c.remove.ensures.removed j) (copies_item _ _ c.in_ok-clone-2.ensures.cases j) (c.in_ok-insert.ensures.ok j))
    ∙ (λ j. map.insert (map.remove c.self.inside.by_item item) item (set.insert c.unwrap_or-texts.result (c.in_ok-clone.ensures.cases j)))))
    ∙ ap (λ s. set.insert s (text, item)) c.self.view_is
