use Rattle.std.proofs.Common.{unwrap_or, ap, ◌∙◌}
use Rattle.std.specs.Cmp.Lexicographic.{nat_list_cmp_total}
use Rattle.std.specs.FinMap as map
use Rattle.fx_base.specs.Set as set
use Rattle.fx_base.proofs.KeyCases.{bytes_exact}
use Rattle.fx_base.proofs.Keyed.{key_added}
use Rattle.fx_model.specs.SameIds.{copies_item}
use Rattle.fx_model.proofs.Orders.{item_total}
use Rattle.fx_members.proofs.PairLemmas.{pair_put}
use Rattle.fx_members.proofs.matches.Matches.insert.Goals as goal

pub returns : goal.returns
returns c =
    let text = c.args.text.now in
    let item = c.args.item.now in
    pair_put c.self.inside.by_text c.insert-2.new.self text item
    (key_added nat_list_cmp_total bytes_exact item_total c.self.inside.by_text c.insert-2.new.self text item c.unwrap_or-items.result
    (c.unwrap_or-items.ensures ∙ (λ j. unwrap_or (c.remove.ensures.before j) (c.new.ensures j)))
    (c.in_ok-insert-2.ensures.ok
    ∙ (λ j. map.insert (c.remove.ensures.removed j) (c.in_ok-clone-2.ensures.cases j) (c.in_ok-insert.ensures.ok j))
    ∙ (λ j. map.insert (map.remove c.self.inside.by_text text) text (set.insert c.unwrap_or-items.result (copies_item _ _ c.in_ok-clone.ensures.cases j)))))
    ∙ ap (λ s. set.insert s (text, item)) c.self.view_is
