use Rattle.std.proofs.Common.{◌≡◌, []}
use Rattle.serde_json.specs.View.{members_view}
use Rattle.fx_k8s.specs.LabelSelectors.{pairs_from}
use Rattle.fx_k8s.proofs.label_selectors.pairs_of.Given as goal

-- the members that are left, behind the labels so far, give all labels
abbrev pub invariant-loop-key : goal.invariant-loop-key
invariant-loop-key l =
    pairs_from (members_view l.map.entries) [] ≡ pairs_from (members_view l.key-iterator) l.pairs.items
