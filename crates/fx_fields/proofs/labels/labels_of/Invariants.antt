use Rattle.std.proofs.Common.{◌≡◌}
use Rattle.std.specs.FinMap as maps
use Rattle.serde_json.specs.View.{members_view}
use Rattle.fx_fields.specs.Labels.{with_labels}
use Rattle.fx_fields.proofs.labels.labels_of.Given as goal

-- the members that are left, beside the labels so far, give all labels
abbrev pub invariant-loop-key : goal.invariant-loop-key
invariant-loop-key l =
    with_labels (members_view l.map.entries) maps.empty ≡ with_labels (members_view l.key-iterator) l.labels
