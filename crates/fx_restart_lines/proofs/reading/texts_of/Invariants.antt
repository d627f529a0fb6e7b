use Rattle.std.proofs.Common.{◌≡◌, [], drop}
use Rattle.serde_json.specs.View.{items_view}
use Rattle.fx_restart_lines.specs.Reading.{texts_from}
use Rattle.fx_restart_lines.proofs.reading.texts_of.Given as goal

-- the items that are left, behind the rows so far, give all rows
abbrev pub invariant-loop-value : goal.invariant-loop-value
invariant-loop-value l = texts_from (items_view l.values) [] ≡ texts_from (items_view (drop l.value-index l.values)) l.rows.items
