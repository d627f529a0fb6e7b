-- What a line says: a JSON text (RFC 8259) in UTF-8, as `serde_json` reads it, that is an object with exactly one member.
use Rattle.std.specs.Prelude.{ℕ, List, Bool, true, false, ◌&&◌, ◌||◌, ◌==◌, nat_lt, length, if◌then◌else◌, Option, Some, None, Result, Ok, Err, codes}
use Rattle.std.specs.List.{list_all}
use Rattle.std.specs.Str.{is_utf8}
use Rattle.serde_json.specs.Data.{Data, Items, no_items, item}
use Rattle.serde_json.specs.declared.value.Value.{Value}
use Rattle.serde_json.specs.View.{view}
use Rattle.serde_json.specs.Read.{read}
use Rattle.serde_json.specs.Find.{as_array, as_bool}
use Rattle.fx_model.specs.declared.packet.Packet.{Packet}
use Rattle.fx_model.specs.declared.resources.Update.{Update}
use Rattle.fx_model.specs.declared.resources.Update.TheVariants as update
use Rattle.fx_lines.specs.declared.commands.Command.{Command}
use Rattle.fx_lines.specs.declared.commands.Command.TheVariants as command
use Rattle.fx_fields.specs.declared.fault.ReadFault.{ReadFault}
use Rattle.fx_fields.specs.declared.fault.ReadFault.TheVariants.{UnknownKind}
use Rattle.fx_fields.specs.declared.refusal.Refusal.{Refusal}
use Rattle.fx_fields.specs.declared.refusal.Refusal.TheVariants.{Read, LineTooLong, BadJson, BadLine}
use Rattle.fx_fields.specs.Faults.{within}
use Rattle.fx_fields.specs.Fields.{Reader, field, is_object, has_members, items_from}
use Rattle.fx_fields.specs.Values.{whole_in}
use Rattle.fx_json.specs.Packets.{packet_of}
use Rattle.fx_json.specs.Resources.{delete_of}
use Rattle.fx_k8s.specs.Puts.{put_of}
use Rattle.fx_lines.specs.Lines.{line_limit}

-- spaces, tabs and carriage returns
abbrev pub is_blank_byte : ℕ → Bool
is_blank_byte b = (b == 32) || (b == 9) || (b == 13)

-- the value of a line, where it is UTF-8 and JSON
abbrev pub value_of : List ℕ → Option Data
value_of line = if is_utf8 line then read line else None

abbrev pub is_true : Data → Bool
is_true d = holds (as_bool d)
  where
    holds : Option Bool → Bool
    holds None = false
    holds (Some b) = b

-- ---- the value of a line

-- what code holds of it, as data
abbrev pub viewed : Result (Option Value) Refusal → Result (Option Data) Refusal
viewed (Ok None) = Ok None
viewed (Ok (Some v)) = Ok (Some (view v))
viewed (Err r) = Err r

-- an object with one member
abbrev pub one_member : Option Data → Result (Option Data) Refusal
one_member None = Err BadJson
one_member (Some d) = if has_members 1 d then Ok (Some d) else Err BadLine

abbrev pub short_value : List ℕ → Result (Option Data) Refusal
short_value line = if list_all is_blank_byte line then Ok None else one_member (value_of line)

-- the value of a line, none where it is blank, or its refusal
unfoldable pub value_in : List ℕ → Result (Option Data) Refusal
value_in line = if nat_lt line_limit (length line) then Err LineTooLong else short_value line

-- ---- its one member

-- the answer, where the member's value has its shape
abbrev pub shaped : {A : Type 0} → Bool → Result A Refusal → Result A Refusal
shaped right answer = if right then answer else Err BadLine

-- the answer to a member, or to the others where it is absent
abbrev pub at_member : {A E : Type 0} → Option Data → (Data → Result A E) → Result A E → Result A E
at_member None answer others = others
at_member (Some d) answer others = answer d

-- what is read of a resource or a packet, or its first fault
abbrev pub read_answer : {A B : Type 0} → (A → B) → Result A ReadFault → Result B Refusal
read_answer make (Ok x) = Ok (make x)
read_answer make (Err fault) = Err (Read fault)

-- what a resource that is put or deleted asks for, and a packet
abbrev pub put_answer : Data → Result (Option Update) Refusal
put_answer v = shaped (is_object v) (read_answer Some (put_of v))

abbrev pub delete_answer : Data → Result (Option Update) Refusal
delete_answer v = shaped (is_object v) (read_answer Some (delete_of v))

abbrev pub packet_answer : Data → Result Command Refusal
packet_answer v = shaped (is_object v) (read_answer command.Packet (packet_of v))

-- what a flush asks for: its value is empty, or has a limit alone, a whole number from 1 on that 32 bits hold
abbrev pub limit_of : Data → Option ℕ
limit_of v = whole_in 1 4294967295 v

abbrev pub limit_answer : Option ℕ → Result Command Refusal
limit_answer None = Err BadLine
limit_answer (Some n) = Ok (command.Flush (Some n))

abbrev pub limited_answer : Data → Result Command Refusal
limited_answer v = shaped (has_members 1 v) (at_member (field (codes "limit") v) (λ n. limit_answer (limit_of n)) (Err BadLine))

abbrev pub flush_answer : Data → Result Command Refusal
flush_answer v = if has_members 0 v then Ok (command.Flush None) else limited_answer v

-- the update that a member asks for, none where it isn't one for updates
unfoldable pub update_in : Data → Result (Option Update) Refusal
update_in d =
    at_member (field (codes "put") d) put_answer
    (at_member (field (codes "delete") d) delete_answer
    (at_member (field (codes "inSync") d) (λ v. shaped (is_true v) (Ok (Some update.InSync)))
    (Ok None)))

-- ---- batches

-- a member that is there and holds an object
abbrev pub holds_object : Option Data → Bool
holds_object None = false
holds_object (Some v) = is_object v

-- an element of a batch: an object whose one member puts or deletes a resource
abbrev pub is_element : Data → Bool
is_element d = has_members 1 d && (holds_object (field (codes "put") d) || holds_object (field (codes "delete") d))

abbrev pub are_elements : Items → Bool
are_elements no_items = true
are_elements (item d ds) = if is_element d then are_elements ds else false

-- the update that an element is, or the first fault of its resource
abbrev pub element_of : Data → Result Update ReadFault
element_of d = at_member (field (codes "put") d) put_of (at_member (field (codes "delete") d) delete_of (Err UnknownKind))

-- the same answer, with a fault told from this path on
abbrev pub told_from : {A : Type 0} → List ℕ → Result A ReadFault → Result A ReadFault
told_from path (Ok x) = Ok x
told_from path (Err fault) = Err (within path fault)

abbrev pub element_at : Reader Update
element_at path d = told_from path (element_of d)

-- what a batch of these elements asks for: all have their shape, and then each is read in its turn
abbrev pub elements_answer : Items → Result (Option (List Update)) Refusal
elements_answer ds = shaped (are_elements ds) (read_answer Some (items_from element_at (codes "batch") 0 ds))

abbrev pub listed_answer : Option Items → Result (Option (List Update)) Refusal
listed_answer None = Err BadLine
listed_answer (Some ds) = elements_answer ds

-- the updates that a member asks for together, none where it isn't one for batches
unfoldable pub batch_in : Data → Result (Option (List Update)) Refusal
batch_in d = at_member (field (codes "batch") d) (λ v. listed_answer (as_array v)) (Ok None)

-- ---- the other members

-- what the other members ask for
unfoldable pub request_in : Data → Result Command Refusal
request_in d =
    at_member (field (codes "flush") d) flush_answer
    (at_member (field (codes "packet") d) packet_answer
    (at_member (field (codes "tables") d) (λ v. shaped (is_true v) (Ok command.Tables))
    (Err BadLine)))

abbrev pub update_or : Result Command Refusal → Result (Option Update) Refusal → Result Command Refusal
update_or others (Ok None) = others
update_or others (Ok (Some u)) = Ok (command.Update u)
update_or others (Err r) = Err r

abbrev pub batch_or : Result Command Refusal → Result (Option (List Update)) Refusal → Result Command Refusal
batch_or others (Ok None) = others
batch_or others (Ok (Some us)) = Ok (command.Batch us)
batch_or others (Err r) = Err r

-- what the members ask for that aren't for one update
abbrev pub batch_or_request : Data → Result Command Refusal
batch_or_request d = batch_or (request_in d) (batch_in d)

-- by the name of the one member
abbrev pub by_name : Data → Result Command Refusal
by_name d = update_or (batch_or_request d) (update_in d)

-- ---- the command of a line

-- by the line's value: what a blank line asks for, or what an object with one member does
abbrev pub by_value : {C : Type 0} → C → (Data → Result C Refusal) → Result (Option Data) Refusal → Result C Refusal
by_value blank by_name (Ok None) = Ok blank
by_value blank by_name (Ok (Some d)) = by_name d
by_value blank by_name (Err r) = Err r

-- the command of a line, or its refusal
unfoldable pub command_by : {C : Type 0} → C → (Data → Result C Refusal) → List ℕ → Result C Refusal
command_by blank by_name line = by_value blank by_name (value_in line)

abbrev pub command_of : List ℕ → Result Command Refusal
command_of line = command_by command.Blank by_name line
