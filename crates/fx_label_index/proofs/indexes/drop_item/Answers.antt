use Rattle.std.proofs.Common.{ℕ, List, refl, sym, ◌∙◌}
use Rattle.std.specs.FinMap as map
use Rattle.fx_label_rows.specs.Labelled.{has_both, has_label}
use Rattle.fx_model.proofs.Orders.{item_total, exact_item}
use Rattle.fx_label_index.proofs.Moving.{taken, none_taken}
use Rattle.fx_label_index.proofs.indexes.drop_item.Goals as goal

pub returns-in_ok-change-clause-by_label : goal.returns-in_ok-change-clause-by_label
returns-in_ok-change-clause-by_label c = λ k p.
    taken item_total exact_item (λ o (a : List ℕ × List ℕ). has_label o a.0 a.1) (λ a. refl) c.args.labels.now c.args.key.now c.in-Some.before c.remove.new.self
    (λ a i. has_both (map.get c.args.by_label.now.by_key a.0) (a.1, i)) (λ a i. has_both (map.get c.change.new.self.by_key a.0) (a.1, i))
    (sym c.remove.ensures.before ∙ c.in-Some.is) c.remove.ensures.removed (λ a i. c.requires a.0 (a.1, i)) (λ a i. c.in_ok-change.ensures a.0 (a.1, i)) (k, p.0) p.1

pub returns-in_default-clause-by_label : goal.returns-in_default-clause-by_label
returns-in_default-clause-by_label c = λ k p.
    none_taken item_total exact_item (λ o (a : List ℕ × List ℕ). has_label o a.0 a.1) (λ a. refl) c.args.labels.now c.args.key.now c.remove.new.self
    (λ a i. has_both (map.get c.args.by_label.now.by_key a.0) (a.1, i)) (sym c.remove.ensures.before ∙ c.in_default.is) c.remove.ensures.removed (λ a i. c.requires a.0 (a.1, i)) (k, p.0) p.1
