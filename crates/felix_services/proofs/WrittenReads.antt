-- A line asks for the change that stands for the one that it says, and what it says is sound.
use Rattle.std.proofs.Common.{◌≡◌, ℕ, List, [], Bool, true, false, cond, Option, Some, None, Result, Ok, Err, IfOk, refl, ap, ◌∙◌}
use Rattle.std.specs.Prelude.{codes, IfSome, option_map}
use Rattle.serde_json.specs.Data.{Data}
use Rattle.fx_model.specs.declared.packet.Packet.{Packet}
use Rattle.fx_model.specs.declared.resources.Update.{Update}
use Rattle.fx_model.specs.declared.resources.Update.TheVariants as update
use Rattle.fx_fields.specs.declared.fault.ReadFault.{ReadFault}
use Rattle.fx_fields.specs.declared.kinds.KubernetesKind.{KubernetesKind}
use Rattle.fx_fields.specs.declared.names.NamespacedName.{NamespacedName}
use Rattle.fx_fields.specs.declared.refusal.Refusal.{Refusal}
use Rattle.fx_fields.specs.Fields.{◌>>=◌, field, is_object, has_members}
use Rattle.fx_fields.specs.Kinds.{kind_of, kubernetes_kind}
use Rattle.fx_fields.specs.Names.{namespaced_name_in}
use Rattle.fx_fields.proofs.Readings.{then-if, read-if}
use Rattle.fx_json.specs.Kubernetes.{kubernetes_key_in}
use Rattle.fx_json.specs.Packets.{packet_of}
use Rattle.fx_json.specs.Resources.{key_in, calico_delete, kubernetes_delete, delete_of}
use Rattle.fx_lines.specs.Commands.{value_in, by_value, command_by, is_true, shaped, at_member, read_answer}
use Rattle.fx_lines.proofs.ReadForms.{shaped-if, at_member-if, read_answer-if}
use Rattle.fx_services.specs.declared.lowered.Lowered.{Lowered}
use Rattle.fx_services.specs.declared.lowered.Resource.{Resource as Read}
use Rattle.fx_services.specs.declared.slices.Slice.{Slice}
use Rattle.fx_services.specs.Lowering.{lowered, ingress_places, egress_places}
use Rattle.fx_services.specs.Reading.{read_resource, lowered_of}
use Rattle.fx_services.specs.Services.{no_services}
use Rattle.fx_services.specs.Slices.{is_slice, slice_of, slice_key, put_of_slice, slice_put, slice_delete}
use Rattle.fx_services.specs.Standing.{is_sound_update}
use Rattle.fx_services.specs.Written.{WrittenUpdate, Resource, PutSlice, DeleteSlice, lowered_written}
use Rattle.fx_service_laws.proofs.ReadSound.{reads_are_sound}
use Rattle.fx_service_lines.specs.declared.command.ServicesCommand.{ServicesCommand}
use Rattle.fx_service_lines.specs.declared.command.ServicesCommand.TheVariants as command
use Rattle.fx_service_lines.specs.Commands.{resource_answer, sync_answer, without_rules, slice_lowered, slice_delete_lowered, delete_lowered, put_read, delete_read, change_in, request_in, change_or, by_name, command_of}
use Rattle.fx_service_lines.specs.WrittenLines.{slice_written, resource_written, slice_delete_written, delete_written, put_as_written, delete_as_written, written_in, change_said, said_by, written_of}
use Rattle.fx_service_lines.proofs.ReadForms.{by_kind-if}

-- ---- what stands for a change

abbrev ingress_of_change : WrittenUpdate → List ℕ
ingress_of_change (Resource services u) = ingress_places services u
ingress_of_change (PutSlice s) = []
ingress_of_change (DeleteSlice named) = []

abbrev egress_of_change : WrittenUpdate → List ℕ
egress_of_change (Resource services u) = egress_places services u
egress_of_change (PutSlice s) = []
egress_of_change (DeleteSlice named) = []

abbrev pub lowered_change : WrittenUpdate → Lowered
lowered_change u = record { update = lowered_written u; ingress_places = ingress_of_change u; egress_places = egress_of_change u }

-- ---- of a resource

abbrev read_map : Result WrittenUpdate ReadFault → Result Lowered ReadFault
read_map (Ok u) = Ok (lowered_change u)
read_map (Err fault) = Err fault

put_alike : (answer : Result Slice ReadFault) → ((answer >>= (λ s. Ok (put_of_slice s))) >>= (λ u. Ok (without_rules u))) ≡ read_map (answer >>= (λ s. Ok (PutSlice s)))
put_alike (Ok s) = refl
put_alike (Err fault) = refl

slice_alike : (v : Data) → slice_lowered v ≡ read_map (slice_written v)
unfolding slice_lowered slice_put slice_written
slice_alike v = put_alike (slice_of v)

resources_alike : (answer : Result Read ReadFault) → (answer >>= (λ r. Ok (lowered r.services r.plain))) ≡ read_map (answer >>= (λ r. Ok (Resource r.services r.plain)))
resources_alike (Ok r) = refl
resources_alike (Err fault) = refl

resource_alike : (v : Data) → lowered_of v ≡ read_map (resource_written v)
unfolding lowered_of resource_written
resource_alike v = resources_alike (read_resource v)

gone_alike : (answer : Result NamespacedName ReadFault) → ((answer >>= (λ named. Ok (update.Delete (slice_key named)))) >>= (λ u. Ok (without_rules u))) ≡ read_map (answer >>= (λ named. Ok (DeleteSlice named)))
gone_alike (Ok named) = refl
gone_alike (Err fault) = refl

slice_delete_alike : (v : Data) → slice_delete_lowered v ≡ read_map (slice_delete_written v)
unfolding slice_delete_lowered slice_delete slice_delete_written
slice_delete_alike v = gone_alike (namespaced_name_in v)

-- a delete deletes
abbrev IsDelete : Update → Type 0
IsDelete update.InSync = ⊥
IsDelete (update.Put k x) = ⊥
IsDelete (update.Delete k) = Unit {0}

calico_deletes : (v : Data) → IfOk (calico_delete v) IsDelete
unfolding calico_delete
calico_deletes v = then-if IsDelete (kind_of v) _ (λ kind _. then-if IsDelete (key_in kind v) _ (λ k _. tt))

kubernetes_deletes : (kind : KubernetesKind) (v : Data) → IfOk (kubernetes_delete kind v) IsDelete
unfolding kubernetes_delete
kubernetes_deletes kind v = then-if IsDelete (kubernetes_key_in kind v) _ (λ k _. tt)

deletes : (v : Data) → IfOk (delete_of v) IsDelete
unfolding delete_of
deletes v =
    elim (kubernetes_kind v) as (λ o. IfOk (elim o [ Some kind ↦ kubernetes_delete kind v | None ↦ calico_delete v ]) IsDelete) [
      | Some kind ↦ kubernetes_deletes kind v
      | None ↦ calico_deletes v
    ]

deleted_alike : (answer : Result Update ReadFault) → IfOk answer IsDelete → (answer >>= (λ u. Ok (without_rules u))) ≡ read_map (answer >>= (λ u. Ok (Resource no_services u)))
deleted_alike (Ok update.InSync) is = absurd is
deleted_alike (Ok (update.Put k x)) is = absurd is
deleted_alike (Ok (update.Delete k)) is = refl
deleted_alike (Err fault) is = refl

delete_alike : (v : Data) → delete_lowered v ≡ read_map (delete_written v)
unfolding delete_lowered delete_written
delete_alike v = deleted_alike (delete_of v) (deletes v)

either_alike : (b : Bool) (x y : Result Lowered ReadFault) (p q : Result WrittenUpdate ReadFault) → x ≡ read_map p → y ≡ read_map q → cond b x y ≡ read_map (cond b p q)
either_alike true x y p q here there = here
either_alike false x y p q here there = there

put_alike_all : (v : Data) → put_read v ≡ read_map (put_as_written v)
put_alike_all v = either_alike (is_slice v) _ _ _ _ (slice_alike v) (resource_alike v)

delete_alike_all : (v : Data) → delete_read v ≡ read_map (delete_as_written v)
delete_alike_all v = either_alike (is_slice v) _ _ _ _ (slice_delete_alike v) (delete_alike v)

-- ---- of a line's value

abbrev answer_map : Result (Option WrittenUpdate) Refusal → Result (Option Lowered) Refusal
answer_map (Ok o) = Ok (option_map lowered_change o)
answer_map (Err r) = Err r

read_answer_alike : (x : Result Lowered ReadFault) (p : Result WrittenUpdate ReadFault) → x ≡ read_map p → read_answer Some x ≡ answer_map (read_answer Some p)
read_answer_alike x (Ok u) is = let some : Result Lowered ReadFault → Result (Option Lowered) Refusal = λ r. read_answer Some r in ap some is
read_answer_alike x (Err fault) is = let some : Result Lowered ReadFault → Result (Option Lowered) Refusal = λ r. read_answer Some r in ap some is

shaped_alike : (b : Bool) (x : Result (Option Lowered) Refusal) (p : Result (Option WrittenUpdate) Refusal) → x ≡ answer_map p → shaped b x ≡ answer_map (shaped b p)
shaped_alike true x p is = is
shaped_alike false x p is = refl

at_member_alike : (o : Option Data) (x : Data → Result (Option Lowered) Refusal) (y : Result (Option Lowered) Refusal) (p : Data → Result (Option WrittenUpdate) Refusal) (q : Result (Option WrittenUpdate) Refusal) → ((v : Data) → x v ≡ answer_map (p v)) → y ≡ answer_map q
    → at_member o x y ≡ answer_map (at_member o p q)
at_member_alike None x y p q here there = there
at_member_alike (Some v) x y p q here there = here v

answer_alike : (x : Data → Result Lowered ReadFault) (p : Data → Result WrittenUpdate ReadFault) → ((v : Data) → x v ≡ read_map (p v)) → (v : Data) → resource_answer x v ≡ answer_map (resource_answer p v)
answer_alike x p each v = shaped_alike (is_object v) (read_answer Some (x v)) (read_answer Some (p v)) (read_answer_alike (x v) (p v) (each v))

change_alike : (d : Data) → change_in d ≡ answer_map (written_in d)
unfolding change_in
change_alike d =
    at_member_alike (field (codes "put") d) _ _ _ _ (answer_alike put_read put_as_written put_alike_all)
    (at_member_alike (field (codes "delete") d) _ _ _ _ (answer_alike delete_read delete_as_written delete_alike_all)
    (at_member_alike (field (codes "inSync") d) (sync_answer (without_rules update.InSync)) _ (sync_answer (Resource no_services update.InSync)) _ (λ v. shaped_alike (is_true v) _ (Ok (Some (Resource no_services update.InSync))) refl) refl))

-- ---- what is said is sound

abbrev IsSoundChange : WrittenUpdate → Type 0
IsSoundChange u = is_sound_update u ≡ true

abbrev FoundSound : Option WrittenUpdate → Type 0
FoundSound o = IfSome o IsSoundChange

slice_sound : (v : Data) → IfOk (slice_written v) IsSoundChange
unfolding slice_written
slice_sound v = then-if IsSoundChange (slice_of v) _ (λ s is. read-if (λ (x : Slice). IsSoundChange (PutSlice x)) (slice_of v) s (reads_are_sound v).1.0 is)

resource_sound : (v : Data) → IfOk (resource_written v) IsSoundChange
unfolding resource_written
resource_sound v = then-if IsSoundChange (read_resource v) _ (λ r is. read-if (λ (x : Read). IsSoundChange (Resource x.services x.plain)) (read_resource v) r (reads_are_sound v).0 is)

slice_delete_sound : (v : Data) → IfOk (slice_delete_written v) IsSoundChange
unfolding slice_delete_written
slice_delete_sound v = then-if IsSoundChange (namespaced_name_in v) _ (λ named _. refl)

delete_sound : (v : Data) → IfOk (delete_written v) IsSoundChange
unfolding delete_written
delete_sound v = then-if IsSoundChange (delete_of v) _ (λ u is. read-if (λ (x : Update). IsSoundChange (Resource no_services x)) (delete_of v) u (reads_are_sound v).1.1 is)

resource_answer_sound : (read : Data → Result WrittenUpdate ReadFault) → ((v : Data) → IfOk (read v) IsSoundChange) → (v : Data) → IfOk (resource_answer read v) FoundSound
resource_answer_sound read sound v = shaped-if FoundSound (is_object v) (read_answer Some (read v)) (read_answer-if IsSoundChange FoundSound Some (λ u h. h) (read v) (sound v))

written_sound : (d : Data) → IfOk (written_in d) FoundSound
written_sound d =
    at_member-if FoundSound (field (codes "put") d) (resource_answer put_as_written) _ (resource_answer_sound put_as_written (λ v. by_kind-if IsSoundChange slice_written resource_written v (slice_sound v) (resource_sound v)))
    (at_member-if FoundSound (field (codes "delete") d) (resource_answer delete_as_written) _ (resource_answer_sound delete_as_written (λ v. by_kind-if IsSoundChange slice_delete_written delete_written v (slice_delete_sound v) (delete_sound v)))
    (at_member-if FoundSound (field (codes "inSync") d) (sync_answer (Resource no_services update.InSync)) _ (λ v. shaped-if FoundSound (is_true v) _ refl) tt))

-- ---- of a line

abbrev pub command_change : Result ServicesCommand Refusal → Option Lowered
command_change (Ok command.Blank) = None
command_change (Ok command.Tables) = None
command_change (Ok command.Flush) = None
command_change (Ok (command.Change l)) = Some l
command_change (Ok (command.Packet a)) = None
command_change (Err r) = None

-- no other member asks for a change
abbrev IsOther : ServicesCommand → Type 0
IsOther c = command_change (Ok c) ≡ None

packet_other : (answer : Result Packet ReadFault) → IfOk (read_answer command.Packet answer) IsOther
packet_other (Ok a) = refl
packet_other (Err fault) = tt

request_other : (d : Data) → IfOk (request_in d) IsOther
unfolding request_in
request_other d =
    at_member-if IsOther (field (codes "flush") d) _ _ (λ v. shaped-if IsOther (has_members 0 v) (Ok command.Flush) refl)
    (at_member-if IsOther (field (codes "packet") d) _ _ (λ v. shaped-if IsOther (is_object v) _ (packet_other (packet_of v)))
    (at_member-if IsOther (field (codes "tables") d) _ _ (λ v. shaped-if IsOther (is_true v) (Ok command.Tables) refl) tt))

no_change : (answer : Result ServicesCommand Refusal) → IfOk answer IsOther → command_change answer ≡ None
no_change (Ok c) is = is
no_change (Err r) is = refl

change_or_alike : (others : Result ServicesCommand Refusal) (said : Result (Option WrittenUpdate) Refusal) → command_change others ≡ None → command_change (change_or others (answer_map said)) ≡ option_map lowered_change (change_said said)
change_or_alike others (Ok None) none = none
change_or_alike others (Ok (Some u)) none = refl
change_or_alike others (Err r) none = refl

by_value_alike : (value : Result (Option Data) Refusal) → command_change (by_value command.Blank by_name value) ≡ option_map lowered_change (said_by value)
by_value_alike (Ok None) = refl
by_value_alike (Ok (Some d)) =
    ap (λ (answer : Result (Option Lowered) Refusal). command_change (change_or (request_in d) answer)) (change_alike d)
    ∙ change_or_alike (request_in d) (written_in d) (no_change (request_in d) (request_other d))
by_value_alike (Err r) = refl

pub command_of-alike : (line : List ℕ) → command_change (command_of line) ≡ option_map lowered_change (written_of line)
unfolding command_by
command_of-alike line = by_value_alike (value_in line)

said_sound : (said : Result (Option WrittenUpdate) Refusal) → IfOk said FoundSound → FoundSound (change_said said)
said_sound (Ok o) sound = sound
said_sound (Err r) sound = tt

said_by-sound : (value : Result (Option Data) Refusal) → FoundSound (said_by value)
said_by-sound (Ok None) = tt
said_by-sound (Ok (Some d)) = said_sound (written_in d) (written_sound d)
said_by-sound (Err r) = tt

pub written_of-sound : (line : List ℕ) → IfSome (written_of line) (λ u. is_sound_update u ≡ true)
written_of-sound line = said_by-sound (value_in line)
