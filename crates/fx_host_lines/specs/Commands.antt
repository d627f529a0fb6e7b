-- What a line says: a JSON object with one member. docs/INPUT.md of this repository lists the members.
use Rattle.std.specs.Prelude.{ℕ, List, if◌then◌else◌, Option, Some, None, Result, Ok, Err, codes}
use Rattle.serde_json.specs.Data.{Data}
use Rattle.fx_model.specs.declared.resources.Update.{Update}
use Rattle.fx_fields.specs.declared.fault.ReadFault.{ReadFault}
use Rattle.fx_fields.specs.declared.refusal.Refusal.{Refusal}
use Rattle.fx_fields.specs.declared.refusal.Refusal.TheVariants.{BadLine}
use Rattle.fx_fields.specs.Fields.{field, is_object, has_members}
use Rattle.fx_lines.specs.Commands.{command_by, is_true, shaped, at_member, read_answer, update_in}
use Rattle.fx_hostep.specs.HostFields.{is_host_kind, host_put, host_delete, failsafe_of, host_packet_of}
use Rattle.fx_host_lines.specs.declared.command.HostCommand.{HostCommand}
use Rattle.fx_host_lines.specs.declared.command.HostCommand.TheVariants as command

-- ---- updates

-- a HostEndpoint is read by itself
abbrev pub if_host : (Data → Result Update ReadFault) → Data → Result (Option Update) Refusal
if_host read v = if is_host_kind v then read_answer Some (read v) else Ok None

-- the update that a member asks for which puts or deletes a HostEndpoint
unfoldable pub host_update_in : Data → Result (Option Update) Refusal
host_update_in d =
    at_member (field (codes "put") d) (if_host host_put) (at_member (field (codes "delete") d) (if_host host_delete) (Ok None))

abbrev pub or_others : Result (Option Update) Refusal → Result (Option Update) Refusal → Result (Option Update) Refusal
or_others others (Ok None) = others
or_others others (Ok (Some u)) = Ok (Some u)
or_others others (Err r) = Err r

-- each other resource is read as elsewhere
abbrev pub change_in : Data → Result (Option Update) Refusal
change_in d = or_others (update_in d) (host_update_in d)

-- ---- the other members

abbrev pub failsafe_answer : Data → Result HostCommand Refusal
failsafe_answer v = shaped (is_object v) (read_answer command.Failsafe (failsafe_of v))

abbrev pub packet_answer : Data → Result HostCommand Refusal
packet_answer v = shaped (is_object v) (read_answer command.Packet (host_packet_of v))

-- a flush has no limit
unfoldable pub request_in : Data → Result HostCommand Refusal
request_in d =
    at_member (field (codes "failsafe") d) failsafe_answer
    (at_member (field (codes "hostPacket") d) packet_answer
    (at_member (field (codes "flush") d) (λ v. shaped (has_members 0 v) (Ok command.Flush))
    (at_member (field (codes "tables") d) (λ v. shaped (is_true v) (Ok command.Tables))
    (Err BadLine))))

abbrev pub update_or : Result HostCommand Refusal → Result (Option Update) Refusal → Result HostCommand Refusal
update_or others (Ok None) = others
update_or others (Ok (Some u)) = Ok (command.Update u)
update_or others (Err r) = Err r

-- by the name of the one member; any that isn't listed is of another program, whatever it holds
abbrev pub by_name : Data → Result HostCommand Refusal
by_name d = update_or (request_in d) (change_in d)

-- ---- the command of a line

-- the command of a line, or its refusal
abbrev pub command_of : List ℕ → Result HostCommand Refusal
command_of line = command_by command.Blank by_name line
