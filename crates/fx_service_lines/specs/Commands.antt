-- What a line says: a JSON object with one member. docs/INPUT.md of this repository lists the members. Rules may name
-- services, and EndpointSlices are put and deleted; what stands for them is what the line asks for.
use Rattle.std.specs.Prelude.{ℕ, List, [], if◌then◌else◌, Option, Some, None, Result, Ok, Err, codes}
use Rattle.serde_json.specs.Data.{Data}
use Rattle.fx_model.specs.declared.resources.Update.{Update}
use Rattle.fx_model.specs.declared.resources.Update.TheVariants as update
use Rattle.fx_fields.specs.declared.fault.ReadFault.{ReadFault}
use Rattle.fx_fields.specs.declared.refusal.Refusal.{Refusal}
use Rattle.fx_fields.specs.declared.refusal.Refusal.TheVariants.{BadLine}
use Rattle.fx_fields.specs.Fields.{◌>>=◌, field, is_object, has_members}
use Rattle.fx_json.specs.Packets.{packet_of}
use Rattle.fx_json.specs.Resources.{delete_of}
use Rattle.fx_lines.specs.Commands.{command_by, is_true, shaped, at_member, read_answer}
use Rattle.fx_services.specs.declared.lowered.Lowered.{Lowered}
use Rattle.fx_services.specs.Reading.{lowered_of}
use Rattle.fx_services.specs.Slices.{is_slice, slice_put, slice_delete}
use Rattle.fx_service_lines.specs.declared.command.ServicesCommand.{ServicesCommand}
use Rattle.fx_service_lines.specs.declared.command.ServicesCommand.TheVariants as command

-- ---- changes of resources, whatever is read of one

-- a slice is read by itself
abbrev pub by_kind : {A : Type 0} → (slice other : Data → Result A ReadFault) → Data → Result A ReadFault
by_kind slice other v = if is_slice v then slice v else other v

-- a resource is an object
abbrev pub resource_answer : {A : Type 0} → (read : Data → Result A ReadFault) → Data → Result (Option A) Refusal
resource_answer read v = shaped (is_object v) (read_answer Some (read v))

abbrev pub sync_answer : {A : Type 0} → (sync : A) → Data → Result (Option A) Refusal
sync_answer sync v = shaped (is_true v) (Ok (Some sync))

-- what a member asks for that puts or deletes a resource, or says that the resources are in sync; none where it is
-- another member
abbrev pub change_by : {A : Type 0} → (put delete : Data → Result A ReadFault) → (sync : A)
    → Data → Result (Option A) Refusal
change_by put delete sync d =
    at_member (field (codes "put") d) (resource_answer put)
    (at_member (field (codes "delete") d) (resource_answer delete)
    (at_member (field (codes "inSync") d) (sync_answer sync)
    (Ok None)))

-- ---- the updates that stand for them

-- an update without rules
abbrev pub without_rules : Update → Lowered
without_rules u = record { update = u; ingress_places = []; egress_places = [] }

unfoldable pub slice_lowered : Data → Result Lowered ReadFault
slice_lowered v = do
  update ← slice_put v
  Ok (without_rules update)

unfoldable pub slice_delete_lowered : Data → Result Lowered ReadFault
slice_delete_lowered v = do
  update ← slice_delete v
  Ok (without_rules update)

unfoldable pub delete_lowered : Data → Result Lowered ReadFault
delete_lowered v = do
  update ← delete_of v
  Ok (without_rules update)

abbrev pub put_read : Data → Result Lowered ReadFault
put_read v = by_kind slice_lowered lowered_of v

abbrev pub delete_read : Data → Result Lowered ReadFault
delete_read v = by_kind slice_delete_lowered delete_lowered v

unfoldable pub change_in : Data → Result (Option Lowered) Refusal
change_in d = change_by put_read delete_read (without_rules update.InSync) d

-- ---- the other members

abbrev pub packet_answer : Data → Result ServicesCommand Refusal
packet_answer v = shaped (is_object v) (read_answer command.Packet (packet_of v))

-- a flush has no limit
unfoldable pub request_in : Data → Result ServicesCommand Refusal
request_in d =
    at_member (field (codes "flush") d) (λ v. shaped (has_members 0 v) (Ok command.Flush))
    (at_member (field (codes "packet") d) packet_answer
    (at_member (field (codes "tables") d) (λ v. shaped (is_true v) (Ok command.Tables))
    (Err BadLine)))

abbrev pub change_or : Result ServicesCommand Refusal → Result (Option Lowered) Refusal → Result ServicesCommand Refusal
change_or others (Ok None) = others
change_or others (Ok (Some l)) = Ok (command.Change l)
change_or others (Err r) = Err r

-- by the name of the one member; any that isn't listed is of another program, whatever it holds
abbrev pub by_name : Data → Result ServicesCommand Refusal
by_name d = change_or (request_in d) (change_in d)

-- the command of a line, or its refusal
abbrev pub command_of : List ℕ → Result ServicesCommand Refusal
command_of line = command_by command.Blank by_name line
