use Rattle.std.proofs.Common.{◌≡◌, drop}
use Rattle.serde_json.specs.View.{items_view}
use Rattle.fx_fields.specs.Paths.{text_of}
use Rattle.fx_fields.specs.Fields.{items_from}
use Rattle.fx_fields.proofs.After.{after}
use Rattle.fx_fields.proofs.fields.read_items.Given as goal

abbrev pub invariant-loop-index : goal.invariant-loop-index
invariant-loop-index g l =
    items_from (g.F.Form.read_by l.form) (text_of l.path) 0 (items_view l.values) ≡ after l.read.items (items_from (g.F.Form.read_by l.form) (text_of l.path) l.index (items_view (drop l.index l.values)))
