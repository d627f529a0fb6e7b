use Rattle.std.proofs.Common.{cond, ◌&&◌, true, None, refl, ap, ◌∙◌}
use Rattle.std.specs.Cmp.{tied_itself}
use Rattle.std.specs.Ordering.{is_eq}
use Rattle.std.specs.FinMap as map
use Rattle.fx_base.specs.Grouped.{has_key}
use Rattle.fx_base.proofs.AtKey.{insert_removed}
use Rattle.fx_selector.specs.Truth.{is_among}
use Rattle.fx_model.specs.SameIds.{copies_item}
use Rattle.fx_model.proofs.Orders.{item_total, exact_item}
use Rattle.fx_label_index.specs.Indexed.{lists}
use Rattle.fx_label_index.specs.Matched.{item_eq}
use Rattle.fx_label_index.proofs.Moving.{come}
use Rattle.fx_label_index.proofs.state.list_anew.Goals as goal

pub returns-clause-items : goal.returns-clause-items
returns-clause-items c =
    c.in_ok-insert.ensures.ok ∙ (λ j. map.insert (c.in_ok-unlist.ensures.items j) (copies_item _ _ c.in_ok-clone.ensures.cases j) c.args.held)
    ∙ insert_removed item_total exact_item c.args.items.now c.args.key.now c.args.held

pub returns-clause-listed : goal.returns-clause-listed
returns-clause-listed c = λ name i.
    come item_total exact_item lists (λ a. refl) c.unlist.new.items c.args.key.now c.args.held c.insert.new.self
    (λ a k. has_key (map.get c.unlist.new.by_parent a) k) (λ a k. has_key (map.get c.change_all.new.self a) k)
    (ap (λ m. map.get m c.args.key.now) c.in_ok-unlist.ensures.items ∙ map.get-remove item_total c.args.items.now c.args.key.now c.args.key.now ∙ ap (λ r. cond (is_eq r) None (map.get c.args.items.now c.args.key.now)) (tied_itself item_total c.args.key.now))
    (c.in_ok-insert.ensures.ok ∙ ap (λ k. map.insert c.unlist.new.items k c.args.held) (copies_item _ _ c.in_ok-clone.ensures.cases))
    c.in_ok-unlist.ensures.listed
    (λ a k. c.in_ok-change_all.ensures a k ∙ ap (λ ns. cond (is_among ns a && item_eq k c.args.key.now) true (has_key (map.get c.unlist.new.by_parent a) k)) c.as_slice.ensures) name i
