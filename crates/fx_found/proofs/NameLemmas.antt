-- Names that rows can hold have no spaces.
use Rattle.std.proofs.Common.{◌≡◌, inl, inr, ℕ, true, false, ◌&&◌, ◌||◌, not, List, length, take, drop, nat_eq, refl, sym, ap, ◌∙◌, take-append-drop}
use Rattle.std.specs.Prelude.{codes}
use Rattle.std.specs.List.{list_all, starts_with}
use Rattle.std.specs.Str.{bytes_eq}
use Rattle.std.proofs.lemmas.Bool.{and_parts, or_parts, or_cases, not-true}
use Rattle.fx_base.specs.Same.{same_bytes}
use Rattle.fx_base.specs.SetName.{head_of}
use Rattle.fx_base.specs.declared.set_name.SetKind.{SetKind}
use Rattle.fx_base.specs.declared.set_name.SetKind.TheVariants.{Nets, Ports}
use Rattle.fx_found.specs.NameForms.{is_tail_byte, is_chain_byte, has_kind, is_set_name, is_between, is_chain_name, is_target_word, is_target_name}
use Rattle.fx_found.proofs.PieceLemmas.{has, free_append, free_of_kind}

-- the name begins as sets of a kind do
front_free : (kind : SetKind) (name : List ℕ) → has 32 (head_of kind) ≡ false → starts_with nat_eq name (head_of kind) ≡ true → has 32 (take (length (head_of kind)) name) ≡ false
front_free kind name free begins = ap (has 32) (sym (same_bytes (head_of kind) (take (length (head_of kind)) name) begins)) ∙ free

kind_free : (name : List ℕ) → has_kind name ≡ true → has 32 (take 8 name) ≡ false
kind_free name begins =
    elim (or_cases (starts_with nat_eq name (head_of Nets)) (starts_with nat_eq name (head_of Ports)) begins) [
      | inl nets ↦ front_free Nets name refl nets
      | inr ports ↦ front_free Ports name refl ports
    ]

pub set_name_free : (name : List ℕ) → is_set_name name ≡ true → has 32 name ≡ false
set_name_free name is =
    let parts = and_parts (has_kind name) (nat_eq (length name) 31 && list_all is_tail_byte (drop 8 name)) is in
    let tail = and_parts (nat_eq (length name) 31) (list_all is_tail_byte (drop 8 name)) parts.1 in
    ap (has 32) (sym (take-append-drop 8 name))
    ∙ free_append 32 (take 8 name) (drop 8 name) (kind_free name parts.0) (free_of_kind is_tail_byte 32 refl (drop 8 name) tail.1)

pub chain_name_free : (name : List ℕ) → is_chain_name name ≡ true → has 32 name ≡ false
chain_name_free name is =
    free_of_kind is_chain_byte 32 refl name (and_parts (is_between 1 28 (length name)) (list_all is_chain_byte name) is).1

pub target_name_free : (name : List ℕ) → is_target_name name ≡ true → has 32 name ≡ false
target_name_free name is = chain_name_free name (and_parts (is_chain_name name) (not (is_target_word name)) is).0

-- a chain's name is none of the words that stand where it does
pub record IsNoWord (name : List ℕ) : Type 0 where
  pub no_accept : bytes_eq name (codes "ACCEPT") ≡ false
  pub no_drop : bytes_eq name (codes "DROP") ≡ false
  pub no_return : bytes_eq name (codes "RETURN") ≡ false
  pub no_mark : bytes_eq name (codes "MARK") ≡ false
  pub no_log : bytes_eq name (codes "LOG") ≡ false

pub is_no_word : (name : List ℕ) → is_target_name name ≡ true → IsNoWord name
is_no_word name is =
    let none = not-true (is_target_word name) (and_parts (is_chain_name name) (not (is_target_word name)) is).1 in
    let a = or_parts (bytes_eq name (codes "ACCEPT")) (bytes_eq name (codes "DROP") || (bytes_eq name (codes "RETURN") || (bytes_eq name (codes "MARK") || bytes_eq name (codes "LOG")))) none in
    let b = or_parts (bytes_eq name (codes "DROP")) (bytes_eq name (codes "RETURN") || (bytes_eq name (codes "MARK") || bytes_eq name (codes "LOG"))) a.1 in
    let c = or_parts (bytes_eq name (codes "RETURN")) (bytes_eq name (codes "MARK") || bytes_eq name (codes "LOG")) b.1 in
    let d = or_parts (bytes_eq name (codes "MARK")) (bytes_eq name (codes "LOG")) c.1 in
    record { no_accept = a.0; no_drop = b.0; no_return = c.0; no_mark = d.0; no_log = d.1 }
