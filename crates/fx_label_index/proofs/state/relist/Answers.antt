use Rattle.std.proofs.Common.{sym, ap, ◌∙◌}
use Rattle.std.specs.Prelude.{option_map}
use Rattle.std.specs.FinMap as map
use Rattle.fx_model.specs.SameIds.{copies_item}
use Rattle.fx_label_index.specs.Indexed.{parents_of}
use Rattle.fx_label_index.proofs.Staying.{listed_again}
use Rattle.fx_label_index.proofs.state.relist.Goals as goal

pub returns-then-lists_same-clause-items : goal.returns-then-lists_same-clause-items
returns-then-lists_same-clause-items c = c.in_ok-insert.ensures.ok ∙ ap (λ k. map.insert c.args.items.now k c.args.held) (copies_item _ _ c.in_ok-clone.ensures.cases)

pub returns-then-lists_same-clause-listed : goal.returns-then-lists_same-clause-listed
returns-then-lists_same-clause-listed c =
    listed_again c.args.items.now c.args.by_parent.now c.args.key.now c.args.held
    (ap (option_map parents_of) (sym c.get.ensures) ∙ c.lists_same.ensures.0 c.if-lists_same.true)
    c.requires c.insert.new.self (returns-then-lists_same-clause-items c)
