-- Each update that is read keeps its forms, and so does each of a batch.
use Rattle.std.proofs.Common.{◌≡◌, List, ℕ, Bool, true, false, cond, Option, Some, None, Result, Ok, Err, IfOk, refl}
use Rattle.std.specs.Prelude.{codes, IfSome}
use Rattle.std.specs.List.{list_all}
use Rattle.serde_json.specs.Data.{Data, Items}
use Rattle.serde_json.specs.Find.{as_array}
use Rattle.fx_model.specs.declared.packet.Packet.{Packet}
use Rattle.fx_model.specs.declared.resources.Update.{Update}
use Rattle.fx_model.specs.declared.resources.Update.TheVariants as update
use Rattle.fx_model.specs.Formed.{is_formed, puts_workload_interface}
use Rattle.fx_model.specs.Steps.{is_change}
use Rattle.fx_fields.specs.declared.fault.ReadFault.{ReadFault}
use Rattle.fx_fields.specs.declared.refusal.Refusal.{Refusal}
use Rattle.fx_fields.specs.declared.fault.ReadFault.TheVariants.{UnknownKind}
use Rattle.fx_fields.specs.Fields.{field, is_object, has_members, items_from}
use Rattle.fx_fields.proofs.Readings.{items_from-each}
use Rattle.fx_json.specs.Packets.{packet_of}
use Rattle.fx_json.specs.Resources.{delete_of}
use Rattle.fx_k8s.specs.Puts.{put_of}
use Rattle.fx_json.proofs.FormedResources.{delete_of-formed, delete_of-workload, delete_of-change}
use Rattle.fx_fields.specs.declared.rule_form.Services.TheVariants.{Refused}
use Rattle.fx_k8s.proofs.FormedPuts.{put_with-formed, put_with-workload, put_with-change}
use Rattle.fx_lines.specs.declared.commands.Command.{Command}
use Rattle.fx_lines.specs.declared.commands.Command.TheVariants as command
use Rattle.fx_lines.proofs.Asking.{command_by-read}
use Rattle.fx_lines.specs.Formed.{is_formed_command, puts_on_workloads, batches_changes, IsReadUpdate, IsReadBatch, IsReadCommand}
use Rattle.fx_lines.specs.Commands.{is_true, shaped, at_member, read_answer, limit_of, limit_answer, limited_answer, flush_answer, update_in, are_elements, element_of, told_from, element_at, listed_answer, batch_in, request_in, update_or, batch_or, batch_or_request, by_name, command_of}

pub shaped-if : {A : Type 0} (P : A → Type 0) (b : Bool) (answer : Result A Refusal) → IfOk answer P → IfOk (shaped b answer) P
shaped-if P true answer holds = holds
shaped-if P false answer holds = tt

pub cond-if : {A : Type 0} (P : A → Type 0) (b : Bool) (answer others : Result A Refusal) → IfOk answer P → IfOk others P → IfOk (cond b answer others) P
cond-if P true answer others here there = here
cond-if P false answer others here there = there

pub at_member-if : {A : Type 0} (P : A → Type 0) (o : Option Data) (answer : Data → Result A Refusal) (others : Result A Refusal) → ((d : Data) → IfOk (answer d) P) → IfOk others P → IfOk (at_member o answer others) P
at_member-if P None answer others here there = there
at_member-if P (Some d) answer others here there = here d

pub read_answer-if : {A B : Type 0} (Q : A → Type 0) (P : B → Type 0) (make : A → B) → ((x : A) → Q x → P (make x)) → (answer : Result A ReadFault) → IfOk answer Q → IfOk (read_answer make answer) P
read_answer-if Q P make each (Ok x) holds = each x holds
read_answer-if Q P make each (Err fault) holds = tt

-- ---- batches

-- a test that each update passes which is read of a resource passes on each of a batch
module _ (q : Update → Bool) (put : (d : Data) → IfOk (put_of d) (λ u. q u ≡ true)) (delete : (d : Data) → IfOk (delete_of d) (λ u. q u ≡ true)) where
  abbrev Passes : Update → Type 0
  Passes u = q u ≡ true

  abbrev AllPass : List Update → Type 0
  AllPass us = list_all q us ≡ true

  abbrev FoundPass : Option (List Update) → Type 0
  FoundPass o = IfSome o AllPass

  either-if : (put_value delete_value : Option Data) → IfOk (at_member put_value put_of (at_member delete_value delete_of (Err UnknownKind))) Passes
  either-if (Some v) delete_value = put v
  either-if None (Some v) = delete v
  either-if None None = tt

  told_from-if : (path : List ℕ) (answer : Result Update ReadFault) → IfOk answer Passes → IfOk (told_from path answer) Passes
  told_from-if path (Ok u) holds = holds
  told_from-if path (Err fault) holds = tt

  element_at-if : (path : List ℕ) (d : Data) → IfOk (element_at path d) Passes
  element_at-if path d = told_from-if path (element_of d) (either-if (field (codes "put") d) (field (codes "delete") d))

  listed_answer-if : (o : Option Items) → IfOk (listed_answer o) FoundPass
  listed_answer-if None = tt
  listed_answer-if (Some ds) =
      shaped-if FoundPass (are_elements ds) _
      (read_answer-if AllPass FoundPass Some (λ us holds. holds) (items_from element_at (codes "batch") 0 ds) (items_from-each q element_at element_at-if (codes "batch") 0 ds))

  batch_in-if : (d : Data) → IfOk (batch_in d) FoundPass
  unfolding batch_in
  batch_in-if d = at_member-if FoundPass (field (codes "batch") d) (λ v. listed_answer (as_array v)) (Ok None) (λ v. listed_answer-if (as_array v)) tt

-- the updates that a line asks for together are read so
pub batch_in-read : (d : Data) → IfOk (batch_in d) (λ found. IfSome found IsReadBatch)
batch_in-read d =
    together (batch_in d)
    (batch_in-if is_formed (put_with-formed Refused) delete_of-formed d)
    (batch_in-if is_change (put_with-change Refused) delete_of-change d)
    (λ node. batch_in-if (puts_workload_interface node) (put_with-workload Refused node) (delete_of-workload node) d)
  where
    together : (answer : Result (Option (List Update)) Refusal) → IfOk answer (λ found. IfSome found (λ us. list_all is_formed us ≡ true)) → IfOk answer (λ found. IfSome found (λ us. list_all is_change us ≡ true))
        → ((node : List ℕ) → IfOk answer (λ found. IfSome found (λ us. list_all (puts_workload_interface node) us ≡ true))) → IfOk answer (λ found. IfSome found IsReadBatch)
    together (Ok None) formed changes standing = tt
    together (Ok (Some us)) formed changes standing = record { formed = formed; changes = changes; on_workloads = λ node. standing node }
    together (Err r) formed changes standing = tt

-- ---- commands

-- what holds of each update and each batch that is read, and of each command that is neither, holds of each command
module _ (Q : Update → Type 0) (put : (d : Data) → IfOk (put_of d) Q) (delete : (d : Data) → IfOk (delete_of d) Q) (mark : Q update.InSync) where
  abbrev Found : Option Update → Type 0
  Found o = IfSome o Q

  update_in-if : (d : Data) → IfOk (update_in d) Found
  unfolding update_in
  update_in-if d =
      at_member-if Found (field (codes "put") d) _ _ (λ v. shaped-if Found (is_object v) _ (read_answer-if Q Found Some (λ u holds. holds) (put_of v) (put v)))
      (at_member-if Found (field (codes "delete") d) _ _ (λ v. shaped-if Found (is_object v) _ (read_answer-if Q Found Some (λ u holds. holds) (delete_of v) (delete v)))
      (at_member-if Found (field (codes "inSync") d) _ _ (λ v. shaped-if Found (is_true v) _ mark) tt))

  module _ (P : Command → Type 0) (of_update : (u : Update) → Q u → P (command.Update u)) (of_batch : (us : List Update) → IsReadBatch us → P (command.Batch us)) (of_packet : (a : Packet) → P (command.Packet a)) (of_flush : (limit : Option ℕ) → P (command.Flush limit)) (of_tables : P command.Tables) where
    packet_answer-if : (answer : Result Packet ReadFault) → IfOk (read_answer command.Packet answer) P
    packet_answer-if (Ok a) = of_packet a
    packet_answer-if (Err fault) = tt

    limit_answer-if : (limit : Option ℕ) → IfOk (limit_answer limit) P
    limit_answer-if None = tt
    limit_answer-if (Some n) = of_flush (Some n)

    limited_answer-if : (v : Data) → IfOk (limited_answer v) P
    limited_answer-if v =
        shaped-if P (has_members 1 v) _ (at_member-if P (field (codes "limit") v) (λ n. limit_answer (limit_of n)) _ (λ n. limit_answer-if (limit_of n)) tt)

    flush_answer-if : (v : Data) → IfOk (flush_answer v) P
    flush_answer-if v = cond-if P (has_members 0 v) (Ok (command.Flush None)) (limited_answer v) (of_flush None) (limited_answer-if v)

    request_in-if : (d : Data) → IfOk (request_in d) P
    unfolding request_in
    request_in-if d =
        at_member-if P (field (codes "flush") d) flush_answer _ flush_answer-if
        (at_member-if P (field (codes "packet") d) _ _ (λ v. shaped-if P (is_object v) _ (packet_answer-if (packet_of v)))
        (at_member-if P (field (codes "tables") d) _ _ (λ v. shaped-if P (is_true v) _ of_tables) tt))

    update_or-if : (others : Result Command Refusal) (answer : Result (Option Update) Refusal) → IfOk others P → IfOk answer Found → IfOk (update_or others answer) P
    update_or-if others (Ok None) holds found = holds
    update_or-if others (Ok (Some u)) holds found = of_update u found
    update_or-if others (Err r) holds found = tt

    batch_or-if : (others : Result Command Refusal) (answer : Result (Option (List Update)) Refusal) → IfOk others P → IfOk answer (λ found. IfSome found IsReadBatch) → IfOk (batch_or others answer) P
    batch_or-if others (Ok None) holds found = holds
    batch_or-if others (Ok (Some us)) holds found = of_batch us found
    batch_or-if others (Err r) holds found = tt

    batch_or_request-if : (d : Data) → IfOk (batch_or_request d) P
    batch_or_request-if d = batch_or-if (request_in d) (batch_in d) (request_in-if d) (batch_in-read d)

    by_name-if : (d : Data) → IfOk (by_name d) P
    by_name-if d = update_or-if (batch_or_request d) (update_in d) (batch_or_request-if d) (update_in-if d)

abbrev IsFormed : Update → Type 0
IsFormed u = is_formed u ≡ true

abbrev IsOnWorkloads : List ℕ → Update → Type 0
IsOnWorkloads node u = puts_workload_interface node u ≡ true

-- an update that a line asks for keeps its forms
pub update_in-read : (d : Data) → IfOk (update_in d) (λ found. IfSome found IsReadUpdate)
update_in-read d =
    both (update_in d)
    (update_in-if IsFormed (put_with-formed Refused) delete_of-formed refl d)
    (λ node. update_in-if (IsOnWorkloads node) (put_with-workload Refused node) (delete_of-workload node) refl d)
  where
    both : (answer : Result (Option Update) Refusal) → IfOk answer (λ found. IfSome found IsFormed) → ((node : List ℕ) → IfOk answer (λ found. IfSome found (IsOnWorkloads node))) → IfOk answer (λ found. IfSome found IsReadUpdate)
    both (Ok None) formed standing = tt
    both (Ok (Some u)) formed standing = record { formed = formed; on_workloads = λ node. standing node }
    both (Err r) formed standing = tt

abbrev FormedCommand : Command → Type 0
FormedCommand c = is_formed_command c ≡ true

abbrev BatchesChanges : Command → Type 0
BatchesChanges c = batches_changes c ≡ true

abbrev OnWorkloads : List ℕ → Command → Type 0
OnWorkloads node c = puts_on_workloads node c ≡ true

both-read : (answer : Result Command Refusal) → IfOk answer FormedCommand → IfOk answer BatchesChanges → ((node : List ℕ) → IfOk answer (OnWorkloads node)) → IfOk answer IsReadCommand
both-read (Ok c) formed changes standing = record { formed = formed; changes = changes; on_workloads = λ node. standing node }
both-read (Err r) formed changes standing = tt

-- an object with one member whose answer is a command gives one that is read so
pub by_name-read : (d : Data) → IfOk (by_name d) IsReadCommand
by_name-read d =
    both-read (by_name d)
    (by_name-if IsFormed (put_with-formed Refused) delete_of-formed refl FormedCommand (λ u formed. formed) (λ us read. read.formed) (λ a. refl) (λ limit. refl) refl d)
    (by_name-if IsFormed (put_with-formed Refused) delete_of-formed refl BatchesChanges (λ u formed. refl) (λ us read. read.changes) (λ a. refl) (λ limit. refl) refl d)
    (λ node. by_name-if (IsOnWorkloads node) (put_with-workload Refused node) (delete_of-workload node) refl (OnWorkloads node) (λ u standing. standing) (λ us read. read.on_workloads node) (λ a. refl) (λ limit. refl) refl d)

pub blank_read : IsReadCommand command.Blank
blank_read = record { formed = refl; changes = refl; on_workloads = λ node. refl }

-- and so does a line
pub command_of-read : (line : List ℕ) → IfOk (command_of line) IsReadCommand
command_of-read line = command_by-read command.Blank by_name IsReadCommand blank_read by_name-read line
