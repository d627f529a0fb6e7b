-- What follows from the inputs agrees with them after each call.
use Rattle.std.proofs.Common.{◌≡◌, Option, is_some, refl, sym, ap, ◌∙◌}
use Rattle.std.specs.FinMap.{empty, get, get-empty}
use Rattle.fx_base.specs.Set as set
use Rattle.fx_base.specs.Grouped.{Texts, has_key}
use Rattle.fx_base.proofs.AtKey.{get_empty}
use Rattle.fx_label_rows.specs.Labelled.{LabelGroups, LabelsByItem, has_both, has_label}
use Rattle.fx_model.specs.Pairs.{Pairs, pair_cmp}
use Rattle.fx_model.specs.contracts.ids.ItemKeyOrd.TheImpl.{cmp-value}
use Rattle.fx_label_index.specs.Canonicals.{Selectors}
use Rattle.fx_label_index.specs.Indexed.{TextsByItem, AreKept, AreTold, AreIndexed}
use Rattle.fx_label_index.specs.Matched.{tests, labels_of, IsMatched}
use Rattle.fx_label_index.specs.declared.indexes.Indexes.{Indexes}
use Rattle.fx_label_index.specs.declared.held.Inputs.{Inputs}
use Rattle.fx_label_index.specs.declared.state.State.{State}
use Rattle.fx_label_index.proofs.Keeping.{on_nothing}
use Rattle.fx_label_index.proofs.Needing.{none_needed}

-- ---- nothing at all
abbrev no_selectors : Selectors
no_selectors = empty

pub none_kept : (x : Indexes) → x.labels ≡ empty → x.by_label.by_key ≡ empty → x.by_need.by_value ≡ empty → x.by_need.by_key ≡ empty → x.by_need.free ≡ empty → x.texts ≡ empty → AreKept no_selectors x
none_kept x labels by_label values keys free texts = record {
  by_label = λ k p.
      ap (λ (m : LabelGroups). has_both (get m k) p) by_label ∙ ap (λ o. has_both o p) (get_empty k)
      ∙ sym (ap (λ (m : LabelsByItem). has_label (get m p.1) k p.0) labels ∙ ap (λ o. has_label o k p.0) (get-empty cmp-value.it p.1));
  by_need = none_needed x.by_need values keys free no_selectors refl;
  texts = λ i t.
      ap (λ (m : TextsByItem). has_key (get m i) t) texts ∙ ap (λ (o : Option Texts). has_key o t) (get-empty cmp-value.it i)
      ∙ sym (ap (λ (m : LabelsByItem). tests (get no_selectors t) (get m i)) labels ∙ ap (tests (get no_selectors t)) (get-empty cmp-value.it i) ∙ on_nothing (get no_selectors t));
}

pub none_told : (texts : TextsByItem) → texts ≡ empty → AreTold set.empty texts
none_told texts none t i = ap is_some (get-empty pair_cmp (t, i)) ∙ sym (ap (λ (m : TextsByItem). has_key (get m i) t) none ∙ ap (λ (o : Option Texts). has_key o t) (get-empty cmp-value.it i))

-- ---- what the pairs are
pub told_of : (s : State) (n : Inputs) (pairs : Pairs) → AreIndexed s → s.inputs ≡ n → IsMatched n pairs → AreTold pairs s.indexes.texts
told_of s n pairs is same matched t i =
    matched t i ∙ ap (λ m. tests (get m.selectors t) (labels_of (get m.parents) (get m.items i))) (sym same)
    ∙ ap (tests (get s.inputs.selectors t)) (sym (is.labels i)) ∙ sym (is.kept.texts i t)

pub matched_of : (s : State) (pairs : Pairs) → AreIndexed s → AreTold pairs s.indexes.texts → IsMatched s.inputs pairs
matched_of s pairs is told t i = told t i ∙ is.kept.texts i t ∙ ap (tests (get s.inputs.selectors t)) (is.labels i)

pub none_matched : (n : Inputs) → n.selectors ≡ no_selectors → IsMatched n set.empty
none_matched n none t i =
    let labels = labels_of (get n.parents) (get n.items i) in
    ap is_some (get-empty pair_cmp (t, i)) ∙ sym (ap (λ (m : Selectors). tests (get m t) labels) none ∙ ap (λ o. tests o labels) (get_empty t))
