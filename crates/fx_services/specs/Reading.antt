-- What a put of a resource is read as: the update that it is apart from the services that its rules name, those
-- services, and the record that stands for both.
use Rattle.std.specs.Prelude.{Result, Ok}
use Rattle.serde_json.specs.Data.{Data}
use Rattle.fx_fields.specs.declared.fault.ReadFault.{ReadFault}
use Rattle.fx_fields.specs.declared.rule_form.Services.TheVariants.{PassedOver}
use Rattle.fx_fields.specs.Fields.{◌>>=◌}
use Rattle.fx_fields.specs.Kinds.{kubernetes_kind}
use Rattle.fx_k8s.specs.Puts.{put_with}
use Rattle.fx_services.specs.declared.lowered.Lowered.{Lowered}
use Rattle.fx_services.specs.declared.lowered.Resource.{Resource}
use Rattle.fx_services.specs.Marks.{unmarked}
use Rattle.fx_services.specs.Services.{resource_services}
use Rattle.fx_services.specs.Lowering.{lowered}

-- the faults of the resource without services come first, then those of services, then a label that marks slices
unfoldable pub read_resource : Data → Result Resource ReadFault
read_resource d = do
  plain ← put_with PassedOver d
  services ← resource_services d
  _ ← unmarked (kubernetes_kind d) plain
  Ok (record { plain = plain; services = services })

unfoldable pub lowered_of : Data → Result Lowered ReadFault
lowered_of d = do
  resource ← read_resource d
  Ok (lowered resource.services resource.plain)
