use Rattle.std.proofs.Common.{unwrap_or, ap, sym, ◌∙◌}
use Rattle.std.specs.Cmp.Lexicographic.{nat_list_cmp_total}
use Rattle.std.specs.FinMap as map
use Rattle.fx_model.specs.SameIds.{copies_item}
use Rattle.fx_model.proofs.Orders.{item_total, exact_item}
use Rattle.fx_base.proofs.Keyed.{key_removed, last_removed}
use Rattle.fx_members.proofs.groups.remove_text.Goals as goal

pub returns-then-has_no_text : goal.returns-then-has_no_text
returns-then-has_no_text c =
    last_removed item_total exact_item nat_list_cmp_total c.args.texts.now c.remove.new.self c.args.item.now c.args.text.now c.unwrap_or-own.result
    (c.unwrap_or-own.ensures ∙ (λ j. unwrap_or (c.remove.ensures.before j) (c.new.ensures j)))
    (ap map.entries (sym c.remove-2.ensures.removed) ∙ c.has_no_text.ensures c.if-has_no_text.true)
    c.remove.ensures.removed

pub returns : goal.returns
returns c =
    key_removed item_total exact_item nat_list_cmp_total c.args.texts.now c.insert.new.self c.args.item.now c.args.text.now c.unwrap_or-own.result
    (c.unwrap_or-own.ensures ∙ (λ j. unwrap_or (c.remove.ensures.before j) (c.new.ensures j)))
    (c.in_ok-insert.ensures.ok ∙ (λ j. map.insert (c.remove.ensures.removed j) (copies_item _ _ c.in_ok-clone.ensures.cases j) (c.remove-2.ensures.removed j)))
