-- Which lists of places an update changes: those of a policy or a profile that it puts or deletes. No other record has
-- rules.
use Rattle.std.specs.Prelude.{Bool, true, false, if◌then◌else◌, Option, Some, None}
use Rattle.fx_base.specs.Extended.{put_or_removed}
use Rattle.fx_model.specs.declared.ids.Key.{Key}
use Rattle.fx_model.specs.declared.ids.Key.TheVariants as key
use Rattle.fx_model.specs.declared.resources.Update.{Update}
use Rattle.fx_model.specs.declared.resources.Update.TheVariants as update
use Rattle.fx_services.specs.declared.lowered.Lowered.{Lowered}
use Rattle.fx_services.specs.declared.places.PlaceLists.{PlaceLists}
use Rattle.fx_services.specs.Places.{PlacesByKey}
use Rattle.felix_services.specs.declared.noting.Note.{Note}

abbrev pub lists_of : Lowered → PlaceLists
lists_of l = record { ingress = l.ingress_places; egress = l.egress_places }

abbrev pub has_rules : Key → Bool
has_rules (key.Item k) = false
has_rules (key.Profile name) = true
has_rules (key.Tier name) = false
has_rules (key.Policy id) = true

abbrev pub note_at : Key → Option PlaceLists → Option Note
note_at k lists = if has_rules k then Some (record { key = k; lists = lists }) else None

abbrev pub note_of : Update → PlaceLists → Option Note
note_of update.InSync lists = None
note_of (update.Put k x) lists = note_at k (Some lists)
note_of (update.Delete k) lists = note_at k None

-- the lists of all records behind it
abbrev pub noted : PlacesByKey → Option Note → PlacesByKey
noted P None = P
noted P (Some n) = put_or_removed P n.key n.lists

abbrev pub noted_change : PlacesByKey → Lowered → PlacesByKey
noted_change P l = noted P (note_of l.update (lists_of l))
