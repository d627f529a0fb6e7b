-- What a line says, by what was read of it.
use Rattle.std.proofs.Common.{◌≡◌, ◌⊎◌, inl, inr, ℕ, List, length, Bool, true, false, cond, Option, Some, None, Result, Ok, Err, IfOk, refl, sym, ◌∙◌, ap, subst}
use Rattle.std.specs.Prelude.{nat_lt}
use Rattle.std.specs.List.{list_all}
use Rattle.std.specs.Str.{IsUtf8, is_utf8}
use Rattle.std.proofs.lemmas.Str.{IsUtf8-from_is_utf8, is_utf8-from_IsUtf8}
use Rattle.serde_json.specs.Data.{Data}
use Rattle.serde_json.specs.Read.{read}
use Rattle.fx_lines.specs.Lines.{line_limit}
use Rattle.fx_lines.specs.Commands.{is_blank_byte, value_of, one_member, short_value, value_in, told_from, by_value, command_by}
use Rattle.fx_fields.specs.declared.fault.ReadFault.{ReadFault}
use Rattle.fx_fields.specs.declared.fault.ReadFault.TheVariants.{Memory}
use Rattle.fx_fields.specs.declared.refusal.Refusal.{Refusal}
use Rattle.fx_fields.specs.declared.refusal.Refusal.TheVariants.{Read, LineTooLong, BadJson}
use Rattle.fx_fields.specs.Faults.{within, IsReadFault}
use Rattle.fx_fields.specs.Refusals.{Refuses, is_memory}

-- ---- the value of a line

pub value_in-long : (line : List ℕ) → true ≡ nat_lt line_limit (length line) → value_in line ≡ Err LineTooLong
unfolding value_in
value_in-long line long = ap (λ (b : Bool). cond b (Err LineTooLong) (short_value line)) (sym long)

value_of-none : (line : List ℕ) (utf8 : Bool) → utf8 ≡ is_utf8 line → (IsUtf8 line → read line ≡ None) → cond utf8 (read line) None ≡ None
value_of-none line true is none = none (IsUtf8-from_is_utf8 line (sym is))
value_of-none line false is none = refl

-- a line that isn't too long
module _ (line : List ℕ) (short : false ≡ nat_lt line_limit (length line)) where
  value_in-short : value_in line ≡ short_value line
  unfolding value_in
  value_in-short = ap (λ (b : Bool). cond b (Err LineTooLong) (short_value line)) (sym short)

  pub value_in-blank : true ≡ list_all is_blank_byte line → value_in line ≡ Ok None
  value_in-blank blank = value_in-short ∙ ap (λ (b : Bool). cond b (Ok None) (one_member (value_of line))) (sym blank)

  value_in-other : false ≡ list_all is_blank_byte line → value_in line ≡ one_member (value_of line)
  value_in-other other = value_in-short ∙ ap (λ (b : Bool). cond b (Ok None) (one_member (value_of line))) (sym other)

  pub value_in-value : (d : Data) → false ≡ list_all is_blank_byte line → IsUtf8 line × (read line ≡ Some d) → value_in line ≡ one_member (Some d)
  value_in-value d other is =
      value_in-other other
      ∙ ap (λ (b : Bool). one_member (cond b (read line) None)) (is_utf8-from_IsUtf8 line is.0)
      ∙ ap one_member is.1

  pub value_in-none : false ≡ list_all is_blank_byte line → (IsUtf8 line → read line ≡ None) → value_in line ≡ Err BadJson
  value_in-none other none = value_in-other other ∙ ap one_member (value_of-none line (is_utf8 line) refl none)

-- ---- a fault in an element of a batch

pub told_from-fault : {A : Type 0} (path : List ℕ) (answer : Result A ReadFault) (fault told : ReadFault) → (told ≡ Memory) ⊎ (told ≡ within path fault) → IsReadFault answer fault → IsReadFault (told_from path answer) told
told_from-fault path answer fault told (inl wanted) is = inl wanted
told_from-fault path answer fault told (inr moved) (inl memory) = inl (moved ∙ ap (within path) memory)
told_from-fault {A = A} path answer fault told (inr moved) (inr same) =
    let failed : ReadFault → Result A ReadFault = λ f. Err f in inr (ap (told_from path) same ∙ ap failed (sym moved))

-- ---- the command of a line, by its value

module _ {C : Type 0} (blank : C) (by_name : Data → Result C Refusal) where
  pub command_by-at : (line : List ℕ) (value : Result (Option Data) Refusal) → value_in line ≡ value → command_by blank by_name line ≡ by_value blank by_name value
  unfolding command_by
  command_by-at line value is = ap (by_value blank by_name) is

  -- what code answers that computes it
  pub command_by-refused : (line : List ℕ) (told : Refusal) → (told ≡ Read Memory) ⊎ (value_in line ≡ Err told) → Refuses (command_by blank by_name line) (Err told)
  command_by-refused line told (inl memory) = inl memory
  command_by-refused line told (inr is) = inr (command_by-at line (Err told) is)

  pub command_by-answered : (line : List ℕ) (value : Data) (told : Result C Refusal) → value_in line ≡ Ok (Some value) → Refuses (by_name value) told → Refuses (command_by blank by_name line) told
  command_by-answered line value told is answered =
      let P : Result C Refusal → Type 0 = λ r. Refuses r told in subst P (sym (command_by-at line (Ok (Some value)) is)) answered

  pub command_by-blank : (line : List ℕ) (told : C) → told ≡ blank → value_in line ≡ Ok None → Refuses (command_by blank by_name line) (Ok told)
  command_by-blank line told is none = command_by-at line (Ok None) none ∙ sym (ap (λ (c : C). Ok c) is)

  -- what holds of each command holds of a line's
  pub command_by-read : (P : C → Type 0) → P blank → ((d : Data) → IfOk (by_name d) P) → (line : List ℕ) → IfOk (command_by blank by_name line) P
  unfolding command_by
  command_by-read P of_blank each line = by_cases (value_in line)
    where
      by_cases : (value : Result (Option Data) Refusal) → IfOk (by_value blank by_name value) P
      by_cases (Ok None) = of_blank
      by_cases (Ok (Some d)) = each d
      by_cases (Err r) = tt

no_truth : {A : Type 0} → true ≡ false → A
no_truth e = cc

-- what code answers is the definition's where it doesn't want memory
pub refused_as_defined : {A : Type 0} (answer : Result A Refusal) (refusal : Refusal) → is_memory refusal ≡ false → Refuses answer (Err refusal) → answer ≡ Err refusal
refused_as_defined answer refusal none h = elim h as (λ _. answer ≡ Err refusal) [
  | inl is ↦ no_truth (sym (ap is_memory is) ∙ none)
  | inr is ↦ is
]

-- what is computed alike is answered
pub refuses-same : {A : Type 0} (answer told : Result A Refusal) → answer ≡ told → Refuses answer told
refuses-same answer (Ok x) is = is
refuses-same answer (Err r) is = inr is

-- what holds of the computed answer holds of the one that is given
pub kept : {A : Type 0} (P : A → Type 0) (answer result : Result A Refusal) → Refuses answer result → IfOk answer P → IfOk result P
kept {A = A} P answer (Ok x) is holds = let Q : Result A Refusal → Type 0 = λ r. IfOk r P in subst Q is holds
kept P answer (Err told) is holds = tt
