-- What a line says of the resources as they are written, apart from any record that stands for it.
use Rattle.std.specs.Prelude.{ℕ, List, Option, Some, None, Result, Ok, Err}
use Rattle.serde_json.specs.Data.{Data}
use Rattle.fx_model.specs.declared.resources.Update.TheVariants as update
use Rattle.fx_fields.specs.declared.fault.ReadFault.{ReadFault}
use Rattle.fx_fields.specs.declared.refusal.Refusal.{Refusal}
use Rattle.fx_fields.specs.Fields.{◌>>=◌}
use Rattle.fx_fields.specs.Names.{namespaced_name_in}
use Rattle.fx_json.specs.Resources.{delete_of}
use Rattle.fx_lines.specs.Commands.{value_in}
use Rattle.fx_services.specs.Reading.{read_resource}
use Rattle.fx_services.specs.Services.{no_services}
use Rattle.fx_services.specs.Slices.{slice_of}
use Rattle.fx_services.specs.Written.{WrittenUpdate, Resource, PutSlice, DeleteSlice}
use Rattle.fx_service_lines.specs.Commands.{by_kind, change_by}

unfoldable pub slice_written : Data → Result WrittenUpdate ReadFault
slice_written v = do
  slice ← slice_of v
  Ok (PutSlice slice)

unfoldable pub resource_written : Data → Result WrittenUpdate ReadFault
resource_written v = do
  resource ← read_resource v
  Ok (Resource resource.services resource.plain)

unfoldable pub slice_delete_written : Data → Result WrittenUpdate ReadFault
slice_delete_written v = do
  named ← namespaced_name_in v
  Ok (DeleteSlice named)

unfoldable pub delete_written : Data → Result WrittenUpdate ReadFault
delete_written v = do
  update ← delete_of v
  Ok (Resource no_services update)

abbrev pub put_as_written : Data → Result WrittenUpdate ReadFault
put_as_written v = by_kind slice_written resource_written v

abbrev pub delete_as_written : Data → Result WrittenUpdate ReadFault
delete_as_written v = by_kind slice_delete_written delete_written v

abbrev pub written_in : Data → Result (Option WrittenUpdate) Refusal
written_in d = change_by put_as_written delete_as_written (Resource no_services update.InSync) d

abbrev pub change_said : Result (Option WrittenUpdate) Refusal → Option WrittenUpdate
change_said (Ok change) = change
change_said (Err r) = None

abbrev pub said_by : Result (Option Data) Refusal → Option WrittenUpdate
said_by (Ok None) = None
said_by (Ok (Some d)) = change_said (written_in d)
said_by (Err r) = None

-- the change that a line asks for as it is written, if it asks for one
abbrev pub written_of : List ℕ → Option WrittenUpdate
written_of line = said_by (value_in line)
