-- Each command that is read keeps its form.
use Rattle.std.proofs.Common.{◌≡◌, ℕ, List, true, Option, Some, None, Result, Ok, Err, IfOk}
use Rattle.std.specs.Prelude.{codes, IfSome}
use Rattle.serde_json.specs.Data.{Data}
use Rattle.fx_model.specs.declared.resources.Update.{Update}
use Rattle.fx_model.specs.Formed.{is_formed}
use Rattle.fx_fields.specs.declared.fault.ReadFault.{ReadFault}
use Rattle.fx_fields.specs.declared.refusal.Refusal.{Refusal}
use Rattle.fx_fields.specs.Fields.{field, is_object, has_members}
use Rattle.fx_lines.specs.Commands.{is_true, read_answer, update_in}
use Rattle.fx_lines.specs.Formed.{IsReadUpdate}
use Rattle.fx_lines.proofs.Asking.{command_by-read}
use Rattle.fx_lines.proofs.ReadForms.{at_member-if, cond-if, read_answer-if, shaped-if, update_in-read}
use Rattle.fx_hostep.specs.declared.failsafe.Failsafe.{Failsafe}
use Rattle.fx_hostep.specs.declared.packet.HostPacket.{HostPacket}
use Rattle.fx_hostep.specs.FailsafePorts.{have_port_protocols}
use Rattle.fx_hostep.specs.HostFields.{is_host_kind, host_put, host_delete, failsafe_of, host_packet_of}
use Rattle.fx_hostep.specs.HostRuns.{IsHostPacket}
use Rattle.fx_hostep.proofs.FormedHosts.{host_put-formed, host_delete-formed, failsafe_of-ports, host_packet_of-sides}
use Rattle.fx_host_lines.specs.declared.command.HostCommand.{HostCommand}
use Rattle.fx_host_lines.specs.declared.command.HostCommand.TheVariants as command
use Rattle.fx_host_lines.specs.Commands.{if_host, host_update_in, or_others, change_in, failsafe_answer, packet_answer, request_in, update_or, by_name, command_of}
use Rattle.fx_host_lines.specs.Formed.{IsReadHost}

-- ---- updates

abbrev IsFormed : Update → Type 0
IsFormed u = is_formed u ≡ true

abbrev Found : Option Update → Type 0
Found o = IfSome o IsFormed

if_host-if : (read : Data → Result Update ReadFault) → ((d : Data) → IfOk (read d) IsFormed) → (v : Data) → IfOk (if_host read v) Found
if_host-if read each v =
    cond-if Found (is_host_kind v) (read_answer Some (read v)) (Ok None) (read_answer-if IsFormed Found Some (λ u holds. holds) (read v) (each v)) tt

host_update_in-if : (d : Data) → IfOk (host_update_in d) Found
unfolding host_update_in
host_update_in-if d =
    at_member-if Found (field (codes "put") d) (if_host host_put) _ (if_host-if host_put host_put-formed)
    (at_member-if Found (field (codes "delete") d) (if_host host_delete) (Ok None) (if_host-if host_delete host_delete-formed) tt)

other_update-if : (answer : Result (Option Update) Refusal) → IfOk answer (λ found. IfSome found IsReadUpdate) → IfOk answer Found
other_update-if (Ok None) read = tt
other_update-if (Ok (Some u)) read = read.formed
other_update-if (Err r) read = tt

or_others-if : (others first : Result (Option Update) Refusal) → IfOk others Found → IfOk first Found → IfOk (or_others others first) Found
or_others-if others (Ok None) holds found = holds
or_others-if others (Ok (Some u)) holds found = found
or_others-if others (Err r) holds found = tt

change_in-if : (d : Data) → IfOk (change_in d) Found
change_in-if d = or_others-if (update_in d) (host_update_in d) (other_update-if (update_in d) (update_in-read d)) (host_update_in-if d)

-- ---- the other members

request_in-if : (d : Data) → IfOk (request_in d) IsReadHost
unfolding request_in
request_in-if d =
    at_member-if IsReadHost (field (codes "failsafe") d) failsafe_answer _
    (λ v. shaped-if IsReadHost (is_object v) _ (read_answer-if (λ (f : Failsafe). have_port_protocols f ≡ true) IsReadHost command.Failsafe (λ f holds. holds) (failsafe_of v) (failsafe_of-ports v)))
    (at_member-if IsReadHost (field (codes "hostPacket") d) packet_answer _
    (λ v. shaped-if IsReadHost (is_object v) _ (read_answer-if (λ (p : HostPacket). IsHostPacket p) IsReadHost command.Packet (λ p holds. holds) (host_packet_of v) (host_packet_of-sides v)))
    (at_member-if IsReadHost (field (codes "flush") d) _ _ (λ v. shaped-if IsReadHost (has_members 0 v) (Ok command.Flush) tt)
    (at_member-if IsReadHost (field (codes "tables") d) _ _ (λ v. shaped-if IsReadHost (is_true v) (Ok command.Tables) tt) tt)))

update_or-if : (others : Result HostCommand Refusal) (answer : Result (Option Update) Refusal) → IfOk others IsReadHost → IfOk answer Found → IfOk (update_or others answer) IsReadHost
update_or-if others (Ok None) holds found = holds
update_or-if others (Ok (Some u)) holds found = found
update_or-if others (Err r) holds found = tt

-- an object with one member whose answer is a command gives one that is read so
pub by_name-read : (d : Data) → IfOk (by_name d) IsReadHost
by_name-read d = update_or-if (request_in d) (change_in d) (request_in-if d) (change_in-if d)

-- and so does a line
pub command_of-read : (line : List ℕ) → IfOk (command_of line) IsReadHost
command_of-read line = command_by-read command.Blank by_name IsReadHost tt by_name-read line
