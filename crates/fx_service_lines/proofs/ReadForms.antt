-- Each change that is read keeps its form.
use Rattle.std.proofs.Common.{◌≡◌, ℕ, List, [], Bool, true, false, cond, Option, Some, None, Result, Ok, Err, IfOk, refl}
use Rattle.std.specs.Prelude.{◌≢◌, codes, IfSome}
use Rattle.serde_json.specs.Data.{Data}
use Rattle.fx_model.specs.declared.packet.Packet.{Packet}
use Rattle.fx_model.specs.declared.resources.Update.{Update}
use Rattle.fx_model.specs.declared.resources.Update.TheVariants as update
use Rattle.fx_model.specs.Formed.{is_formed, puts_workload_interface}
use Rattle.fx_fields.specs.declared.fault.ReadFault.{ReadFault}
use Rattle.fx_fields.specs.declared.refusal.Refusal.{Refusal}
use Rattle.fx_fields.specs.Fields.{field, is_object, has_members}
use Rattle.fx_fields.proofs.Readings.{then-if, read-if}
use Rattle.fx_json.specs.Packets.{packet_of}
use Rattle.fx_json.specs.Resources.{delete_of}
use Rattle.fx_json.proofs.FormedResources.{delete_of-formed, delete_of-workload}
use Rattle.fx_lines.specs.Commands.{is_true, read_answer}
use Rattle.fx_lines.proofs.Asking.{command_by-read}
use Rattle.fx_lines.proofs.ReadForms.{shaped-if, at_member-if, read_answer-if}
use Rattle.fx_services.specs.declared.lowered.Lowered.{Lowered}
use Rattle.fx_services.specs.Reading.{lowered_of}
use Rattle.fx_services.specs.Slices.{is_slice, slice_put, slice_delete}
use Rattle.fx_services.proofs.FormedReading.{lowered_of-formed, lowered_of-workload}
use Rattle.fx_services.proofs.FormedSlices.{slice_put-formed, slice_put-workload, slice_delete-formed, slice_delete-workload}
use Rattle.fx_service_lines.specs.declared.command.ServicesCommand.{ServicesCommand}
use Rattle.fx_service_lines.specs.declared.command.ServicesCommand.TheVariants as command
use Rattle.fx_service_lines.specs.Commands.{by_kind, resource_answer, sync_answer, without_rules, slice_lowered, slice_delete_lowered, delete_lowered, put_read, delete_read, change_in, request_in, change_or, by_name, command_of}
use Rattle.fx_service_lines.specs.Formed.{IsReadChange, IsReadServices}

pub by_kind-if : {A : Type 0} (P : A → Type 0) (slice other : Data → Result A ReadFault) (v : Data) → IfOk (slice v) P → IfOk (other v) P → IfOk (by_kind slice other v) P
by_kind-if {A = A} P slice other v here there = by (is_slice v)
  where
    by : (b : Bool) → IfOk (cond b (slice v) (other v)) P
    by true = here
    by false = there

-- ---- changes of resources

-- what holds of each update that is read holds of each that a line asks for
module _ (Q : Update → Type 0) (slice : (v : Data) → IfOk (slice_put v) Q) (slice_gone : (v : Data) → IfOk (slice_delete v) Q) (put : (v : Data) → IfOk (lowered_of v) (λ l. Q l.update)) (gone : (v : Data) → IfOk (delete_of v) Q) (sync : Q update.InSync) where
  abbrev Holds : Lowered → Type 0
  Holds l = Q l.update

  abbrev Found : Option Lowered → Type 0
  Found o = IfSome o Holds

  slice_lowered-if : (v : Data) → IfOk (slice_lowered v) Holds
  unfolding slice_lowered
  slice_lowered-if v = then-if Holds (slice_put v) _ (λ u is. read-if Q (slice_put v) u (slice v) is)

  slice_delete_lowered-if : (v : Data) → IfOk (slice_delete_lowered v) Holds
  unfolding slice_delete_lowered
  slice_delete_lowered-if v = then-if Holds (slice_delete v) _ (λ u is. read-if Q (slice_delete v) u (slice_gone v) is)

  delete_lowered-if : (v : Data) → IfOk (delete_lowered v) Holds
  unfolding delete_lowered
  delete_lowered-if v = then-if Holds (delete_of v) _ (λ u is. read-if Q (delete_of v) u (gone v) is)

  resource-if : (read : Data → Result Lowered ReadFault) → ((v : Data) → IfOk (read v) Holds) → (v : Data) → IfOk (resource_answer read v) Found
  resource-if read holds v = shaped-if Found (is_object v) (read_answer Some (read v)) (read_answer-if Holds Found Some (λ l h. h) (read v) (holds v))

  change_in-if : (d : Data) → IfOk (change_in d) Found
  unfolding change_in
  change_in-if d =
      at_member-if Found (field (codes "put") d) (resource_answer put_read) _ (resource-if put_read (λ v. by_kind-if Holds slice_lowered lowered_of v (slice_lowered-if v) (put v)))
      (at_member-if Found (field (codes "delete") d) (resource_answer delete_read) _ (resource-if delete_read (λ v. by_kind-if Holds slice_delete_lowered delete_lowered v (slice_delete_lowered-if v) (delete_lowered-if v)))
      (at_member-if Found (field (codes "inSync") d) (sync_answer (without_rules update.InSync)) _ (λ v. shaped-if Found (is_true v) _ sync) tt))

abbrev IsFormed : Update → Type 0
IsFormed u = is_formed u ≡ true

abbrev IsOnWorkloads : List ℕ → Update → Type 0
IsOnWorkloads node u = puts_workload_interface node u ≡ true

abbrev IsFound : Option Lowered → Type 0
IsFound o = IfSome o IsReadChange

change_in-read : (d : Data) → IfOk (change_in d) IsFound
change_in-read d =
    together (change_in d)
    (change_in-if IsFormed slice_put-formed slice_delete-formed lowered_of-formed delete_of-formed refl d)
    (λ node named. change_in-if (IsOnWorkloads node) (slice_put-workload node named) (slice_delete-workload node) (lowered_of-workload node) (delete_of-workload node) refl d)
  where
    together : (answer : Result (Option Lowered) Refusal) → IfOk answer (λ o. IfSome o (λ l. is_formed l.update ≡ true)) → ((node : List ℕ) → node ≢ [] → IfOk answer (λ o. IfSome o (λ l. puts_workload_interface node l.update ≡ true))) → IfOk answer IsFound
    together (Ok None) form standing = tt
    together (Ok (Some l)) form standing = record { formed = form; on_workloads = λ node named. standing node named }
    together (Err r) form standing = tt

-- ---- the other members

packet_answer-if : (answer : Result Packet ReadFault) → IfOk (read_answer command.Packet answer) IsReadServices
packet_answer-if (Ok a) = tt
packet_answer-if (Err fault) = tt

request_in-if : (d : Data) → IfOk (request_in d) IsReadServices
unfolding request_in
request_in-if d =
    at_member-if IsReadServices (field (codes "flush") d) _ _ (λ v. shaped-if IsReadServices (has_members 0 v) (Ok command.Flush) tt)
    (at_member-if IsReadServices (field (codes "packet") d) _ _ (λ v. shaped-if IsReadServices (is_object v) _ (packet_answer-if (packet_of v)))
    (at_member-if IsReadServices (field (codes "tables") d) _ _ (λ v. shaped-if IsReadServices (is_true v) (Ok command.Tables) tt) tt))

-- ---- commands

change_or-if : (others : Result ServicesCommand Refusal) (answer : Result (Option Lowered) Refusal) → IfOk others IsReadServices → IfOk answer IsFound → IfOk (change_or others answer) IsReadServices
change_or-if others (Ok None) holds found = holds
change_or-if others (Ok (Some l)) holds found = found
change_or-if others (Err r) holds found = tt

pub by_name-read : (d : Data) → IfOk (by_name d) IsReadServices
by_name-read d = change_or-if (request_in d) (change_in d) (request_in-if d) (change_in-read d)

pub command_of-read : (line : List ℕ) → IfOk (command_of line) IsReadServices
command_of-read line = command_by-read command.Blank by_name IsReadServices tt by_name-read line
