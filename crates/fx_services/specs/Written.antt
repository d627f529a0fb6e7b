-- The resources of a node as they are written: the records as they stand apart from services, the services that the
-- rules of policies and profiles name, and the slices; what an update makes of them; and the update of records that
-- stands for it.
use Rattle.std.specs.Prelude.{ℕ, List, Option, Some, None}
use Rattle.std.specs.FinMap as maps
use Rattle.fx_model.specs.contracts.ids.ItemKeyOrd.TheImpl as item_cmp
use Rattle.fx_model.specs.contracts.ids.KeyOrd.TheImpl as key_cmp
use Rattle.fx_model.specs.declared.ids.Key.{Key}
use Rattle.fx_model.specs.declared.resources.Item.{Item}
use Rattle.fx_model.specs.declared.resources.Item.TheVariants as item
use Rattle.fx_model.specs.declared.resources.Resources.{Resources}
use Rattle.fx_model.specs.declared.resources.Update.{Update}
use Rattle.fx_model.specs.declared.resources.Update.TheVariants as update
use Rattle.fx_model.specs.Resources.{empty_resources, after}
use Rattle.fx_fields.specs.declared.names.NamespacedName.{NamespacedName}
use Rattle.fx_services.specs.declared.services.RuleServices.{RuleServices}
use Rattle.fx_services.specs.declared.slices.Slice.{Slice}
use Rattle.fx_services.specs.Lowering.{lowered_update}
use Rattle.fx_services.specs.Services.{no_services}
use Rattle.fx_services.specs.Slices.{slice_item_key, slice_key, put_of_slice}

abbrev pub ServicesByKey : Type 0
ServicesByKey = maps.FinMap key_cmp.cmp-value.it RuleServices

-- by the keys of their records, which namespace and name make
abbrev pub SlicesByKey : Type 0
SlicesByKey = maps.FinMap item_cmp.cmp-value.it Slice

pub record Written : Type 0 where
  pub plain : Resources
  pub services : ServicesByKey
  pub slices : SlicesByKey

abbrev pub nothing_written : List ℕ → Written
nothing_written node = record { plain = empty_resources node; services = maps.empty; slices = maps.empty }

abbrev pub given_services : Option RuleServices → RuleServices
given_services None = no_services
given_services (Some services) = services

-- the services that the rules of a record name
abbrev pub services_at : Written → Key → RuleServices
services_at W k = given_services (maps.get W.services k)

-- ---- updates

-- a put of a resource apart from the services that its rules name, with those services; any other update of resources;
-- and a put and a delete of a slice
pub data WrittenUpdate : Type 0 where
  Resource : RuleServices → Update → WrittenUpdate
  PutSlice : Slice → WrittenUpdate
  DeleteSlice : NamespacedName → WrittenUpdate

-- only policies and profiles have rules
abbrev pub services_put : ServicesByKey → RuleServices → Key → Item → ServicesByKey
services_put S services k (item.Endpoint e) = S
services_put S services k (item.Profile p) = maps.insert S k services
services_put S services k (item.Tier t) = S
services_put S services k (item.Policy p) = maps.insert S k services
services_put S services k (item.NetSet s) = S

abbrev pub services_after : ServicesByKey → RuleServices → Update → ServicesByKey
services_after S services update.InSync = S
services_after S services (update.Put k x) = services_put S services k x
services_after S services (update.Delete k) = maps.remove S k

-- what an update makes of the resources as they are written
abbrev pub after_written : Written → WrittenUpdate → Written
after_written W (Resource services u) =
    record W { plain = after W.plain u; services = services_after W.services services u }
after_written W (PutSlice s) = record W { slices = maps.insert W.slices (slice_item_key s.named) s }
after_written W (DeleteSlice named) = record W { slices = maps.remove W.slices (slice_item_key named) }

-- the update of records that stands for it
abbrev pub lowered_written : WrittenUpdate → Update
lowered_written (Resource services u) = lowered_update services u
lowered_written (PutSlice s) = put_of_slice s
lowered_written (DeleteSlice named) = update.Delete (slice_key named)
