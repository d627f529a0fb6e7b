use Rattle.std.proofs.Common.{cond, ◌&&◌, false, refl, sym, ap, ◌∙◌}
use Rattle.std.specs.FinMap as map
use Rattle.fx_base.specs.Grouped.{has_key}
use Rattle.fx_selector.specs.Truth.{is_among}
use Rattle.fx_model.proofs.Orders.{item_total, exact_item}
use Rattle.fx_label_index.specs.Indexed.{lists}
use Rattle.fx_label_index.specs.Matched.{item_eq}
use Rattle.fx_label_index.proofs.Moving.{taken, none_taken}
use Rattle.fx_label_index.proofs.state.unlist.Goals as goal

pub returns-in_ok-change_all-clause-listed : goal.returns-in_ok-change_all-clause-listed
returns-in_ok-change_all-clause-listed c = λ name i.
    taken item_total exact_item lists (λ a. refl) c.args.items.now c.args.key.now c.in-Some.held c.remove.new.self
    (λ a k. has_key (map.get c.args.by_parent.now a) k) (λ a k. has_key (map.get c.change_all.new.self a) k)
    (sym c.remove.ensures.before ∙ c.in-Some.is) c.remove.ensures.removed c.requires
    (λ a k. c.in_ok-change_all.ensures a k ∙ ap (λ ns. cond (is_among ns a && item_eq k c.args.key.now) false (has_key (map.get c.args.by_parent.now a) k)) c.as_slice.ensures) name i

pub returns-in_default-clause-listed : goal.returns-in_default-clause-listed
returns-in_default-clause-listed c = λ name i.
    none_taken item_total exact_item lists (λ a. refl) c.args.items.now c.args.key.now c.remove.new.self
    (λ a k. has_key (map.get c.args.by_parent.now a) k) (sym c.remove.ensures.before ∙ c.in_default.is) c.remove.ensures.removed c.requires name i
