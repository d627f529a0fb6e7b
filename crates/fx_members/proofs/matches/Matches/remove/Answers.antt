use Rattle.std.proofs.Common.{unwrap_or, ap, sym, ◌∙◌}
use Rattle.std.specs.Cmp.Lexicographic.{nat_list_cmp_total}
use Rattle.std.specs.FinMap as map
use Rattle.fx_base.specs.Set as set
use Rattle.fx_base.proofs.KeyCases.{bytes_exact}
use Rattle.fx_base.proofs.Keyed.{key_removed, last_removed}
use Rattle.fx_model.proofs.Orders.{item_total}
use Rattle.fx_members.proofs.PairLemmas.{pair_out}
use Rattle.fx_members.proofs.matches.Matches.remove.Goals as goal

pub returns-then-is_empty : goal.returns-then-is_empty
returns-then-is_empty c =
    let text = c.args.text.now in
    let item = c.args.item.now in
    pair_out c.self.inside.by_text c.remove.new.self text item
    (last_removed nat_list_cmp_total bytes_exact item_total c.self.inside.by_text c.remove.new.self text item c.unwrap_or-items.result
    (c.unwrap_or-items.ensures ∙ (λ j. unwrap_or (c.remove.ensures.before j) (c.new.ensures j)))
    (ap map.entries (sym c.remove-2.ensures.removed) ∙ c.is_empty.ensures.0 c.if-is_empty.true)
    c.remove.ensures.removed)
    ∙ ap (λ s. set.remove s (text, item)) c.self.view_is

pub returns : goal.returns
returns c =
    let text = c.args.text.now in
    let item = c.args.item.now in
    pair_out c.self.inside.by_text c.insert.new.self text item
    (key_removed nat_list_cmp_total bytes_exact item_total c.self.inside.by_text c.insert.new.self text item c.unwrap_or-items.result
    (c.unwrap_or-items.ensures ∙ (λ j. unwrap_or (c.remove.ensures.before j) (c.new.ensures j)))
    (c.in_ok-insert.ensures.ok ∙ (λ j. map.insert (c.remove.ensures.removed j) (c.in_ok-clone.ensures.cases j) (c.remove-2.ensures.removed j))))
    ∙ ap (λ s. set.remove s (text, item)) c.self.view_is
