use Rattle.std.proofs.Common.{sym, ap, ◌∙◌, subst}
use Rattle.std.specs.FinMap as map
use Rattle.fx_base.specs.Grouped.{has_key}
use Rattle.fx_base.proofs.AtKey.{get_empty}
use Rattle.std.proofs.Common.{Option}
use Rattle.fx_label_rows.specs.Labelled.{ItemSet, ItemGroups}
use Rattle.fx_model.specs.contracts.ids.ItemKeyOrd.TheImpl.{cmp-value}
use Rattle.fx_label_index.specs.Indexed.{AreKept, lists}
use Rattle.fx_label_index.specs.Matched.{labels_of}
use Rattle.fx_label_index.proofs.state.State.new.Goals as goal

pub returns-clause-indexed : goal.returns-clause-indexed
returns-clause-indexed c = record {
  kept = subst (λ s. AreKept s c.new-5.result) (sym c.new-3.ensures) c.new-5.ensures.kept;
  labels = λ i.
      ap (λ m. map.get m i) c.new-5.ensures.labels ∙ map.get-empty cmp-value.it i
      ∙ sym (ap (λ m. labels_of (map.get c.new-2.result) (map.get m i)) c.new.ensures ∙ ap (labels_of (map.get c.new-2.result)) (map.get-empty cmp-value.it i));
  listed = λ name i.
      ap (λ (m : ItemGroups). has_key (map.get m name) i) c.new-4.ensures ∙ ap (λ (o : Option ItemSet). has_key o i) (get_empty name)
      ∙ sym (ap (λ m. lists (map.get m i) name) c.new.ensures ∙ ap (λ o. lists o name) (map.get-empty cmp-value.it i));
}
