use Rattle.std.proofs.Common.{◌≡◌, drop}
use Rattle.serde_json.specs.View.{items_view}
use Rattle.fx_lines.specs.Commands.{are_elements}
use Rattle.fx_lines.proofs.batches.are_elements.Given as goal

-- what is left tells it
abbrev pub invariant-loop-value : goal.invariant-loop-value
invariant-loop-value l = are_elements (items_view l.values) ≡ are_elements (items_view (drop l.value-index l.values))
