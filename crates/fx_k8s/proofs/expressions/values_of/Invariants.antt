use Rattle.std.proofs.Common.{◌≡◌, [], true, drop}
use Rattle.std.specs.List.{list_all}
use Rattle.serde_json.specs.View.{items_view}
use Rattle.fx_fields.specs.Forms.{is_label_value}
use Rattle.fx_k8s.specs.LabelSelectors.{values_from}
use Rattle.fx_k8s.proofs.expressions.values_of.Given as goal

-- the items that are left, behind the values so far, give all values
abbrev pub invariant-loop-item : goal.invariant-loop-item
invariant-loop-item l = record {
  read : values_from (items_view l.listed) [] ≡ values_from (items_view (drop l.item-index l.listed)) l.values.items;
  formed : list_all is_label_value l.values.items ≡ true;
}
