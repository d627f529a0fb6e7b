-- What the rows of others have to do with names that are own.
use Rattle.std.proofs.Common.{◌≡◌, ◌+◌, ℕ, Bool, true, false, ◌&&◌, ◌||◌, not, cond, List, [], ◌∷◌, ◌++◌, map, length, drop, nat_eq, Option, Some, None, Ok, codes, refl, sym, ap, ◌∙◌, subst}
use Rattle.std.specs.Prelude.{if◌then◌else◌}
use Rattle.std.specs.List.{AllByRecursion, list_any, starts_with}
use Rattle.std.specs.Str.{bytes_eq}
use Rattle.std.proofs.lemmas.Bool.{and_from, or_from, or_left, or_right, or_parts, not_from_false, false_from_ne_true, false≢true}
use Rattle.fx_base.specs.Same.{same_bytes}
use Rattle.fx_model.specs.Messages.{or_else}
use Rattle.fx_model.specs.Tables.{ChainName, Tables, forward}
use Rattle.fx_found.specs.declared.row.Row.{Row}
use Rattle.fx_found.specs.declared.row.Row.TheVariants as row
use Rattle.fx_found.specs.declared.row.Part.{Part}
use Rattle.fx_found.specs.declared.row.Part.TheVariants.{Sets}
use Rattle.fx_found.specs.declared.found.FoundFault.TheVariants as fault
use Rattle.fx_found.specs.NameForms.{is_own_set, is_own_chain, is_own_word}
use Rattle.fx_found.specs.Order.{may_stand, part_after, declared_after, is_new, first_bad, is_whole, placed_by, placed}
use Rattle.fx_found.specs.Pieces.{word, rest, words}
use Rattle.fx_found.specs.RuleFaults.{row_fault, first_fault}
use Rattle.fx_found.specs.Rows.{is_empty, own_rule, uses_own, rule_row, row_of, is_own}
use Rattle.fx_found.specs.Found.{foreign_rows}
use Rattle.fx_found.proofs.RowLaws.{same_text}
use Rattle.fx_reconcile.specs.declared.op.Op.{Op}
use Rattle.fx_reconcile.specs.declared.op.Op.TheVariants.{CreateSet, AddMember, WriteChain, DeleteChain, RemoveMember, DestroySet}
use Rattle.fx_found_laws.specs.OwnNames.{names_own_set_or_chain}
use Rattle.fx_found_laws.specs.OthersRows.{has_name_behind, is_row_of_set, is_row_of_chain, is_row_of, is_rule_with, names_taken}
use Rattle.fx_found_laws.proofs.Begins.{begins_with, row_begins}

-- ---- no row of others is one of an own set or chain

module _ (name text : List ℕ) (other : is_own text ≡ false) where
  -- a row that begins so would be own
  not_own : (front own : List ℕ) → starts_with nat_eq name own ≡ true → ((later : List ℕ) → is_own (front ++ (own ++ later)) ≡ true) → has_name_behind front name text ≡ false
  not_own front own begins would =
      false_from_ne_true (has_name_behind front name text) (λ is.
      let begun = row_begins front own name text begins is in
      false≢true (sym other ∙ ap is_own begun.1 ∙ would begun.0))

  pub set_row_left : is_own_set name ≡ true → is_row_of_set name text ≡ false
  set_row_left own =
      or_from (has_name_behind (codes "create ") name text) (has_name_behind (codes "add ") name text)
      (not_own (codes "create ") (codes "cali40") own (λ later. refl)) (not_own (codes "add ") (codes "cali40") own (λ later. refl))

  pub chain_row_left : is_own_chain name ≡ true → is_row_of_chain name text ≡ false
  chain_row_left own =
      or_from (has_name_behind (codes ":") name text) (has_name_behind (codes "-A ") name text)
      (not_own (codes ":") (codes "cali-") own (λ later. refl)) (not_own (codes "-A ") (codes "cali-") own (λ later. refl))

pub row_left : (op : Op) → names_own_set_or_chain op ≡ true → (text : List ℕ) → is_own text ≡ false → is_row_of op text ≡ false
row_left (CreateSet name) own text other = set_row_left name text other own
row_left (AddMember name x) own text other = set_row_left name text other own
row_left (WriteChain name) own text other = chain_row_left name text other own
row_left (DeleteChain name) own text other = chain_row_left name text other own
row_left (RemoveMember name x) own text other = set_row_left name text other own
row_left (DestroySet name) own text other = set_row_left name text other own

-- ---- rows without a fault

-- an answer that is none
none_of_both : {A : Type 0} (x y : Option A) → or_else x y ≡ None → (x ≡ None) × (y ≡ None)
none_of_both None y e = (refl, e)
none_of_both (Some a) y e = cc

passed_through : {A : Type 0} (b : Bool) (x : Option A) (a : A) → (if b then x else Some a) ≡ None → (b ≡ true) × (x ≡ None)
passed_through true x a e = (refl, e)
passed_through false x a e = cc

-- the row has a form, and if it is a foreign rule, no own word
abbrev IsGood : Row → Type 0
IsGood row.Bad = ⊥
IsGood row.Filter = Unit {0}
IsGood row.Commit = Unit {0}
IsGood (row.Create name) = Unit {0}
IsGood (row.Add name m) = Unit {0}
IsGood (row.Header chain) = Unit {0}
IsGood (row.Rule chain r) = Unit {0}
IsGood row.ForeignSet = Unit {0}
IsGood row.ForeignHeader = Unit {0}
IsGood (row.ForeignRule uses) = uses ≡ false

uses_none : (n : ℕ) (uses : Bool) → (if uses then Some (fault.ForeignUse n) else None) ≡ None → uses ≡ false
uses_none n true e = cc
uses_none n false e = refl

good_row : (n m : ℕ) (p : Part) (t declared : Tables) (r : Row) → (may_stand p r && is_new t r) ≡ true → row_fault m declared r ≡ None → IsGood r
good_row n m p t declared row.Bad stands e = cc
good_row n m p t declared row.Filter stands e = tt
good_row n m p t declared row.Commit stands e = tt
good_row n m p t declared (row.Create name) stands e = tt
good_row n m p t declared (row.Add name x) stands e = tt
good_row n m p t declared (row.Header chain) stands e = tt
good_row n m p t declared (row.Rule chain r) stands e = tt
good_row n m p t declared row.ForeignSet stands e = tt
good_row n m p t declared row.ForeignHeader stands e = tt
good_row n m p t declared (row.ForeignRule uses) stands e = uses_none m uses e

good_rows : (n m : ℕ) (p : Part) (t declared : Tables) (rows : List Row) → first_bad n p t rows ≡ None → first_fault m declared rows ≡ None → AllByRecursion IsGood rows
good_rows n m p t declared [] bad e = tt
good_rows n m p t declared (r ∷ rows) bad e =
    let step = passed_through (may_stand p r && is_new t r) (first_bad (n + 1) (part_after p r) (declared_after t r) rows) n bad in
    let parts = none_of_both (row_fault m declared r) (first_fault (m + 1) declared rows) e in
    (good_row n m p t declared r step.0 parts.0, good_rows (n + 1) (m + 1) (part_after p r) (declared_after t r) declared rows step.1 parts.1)

none_bad : (first : Option ℕ) (whole : Bool) (count : ℕ) (u : Unit {0}) → placed_by first whole count ≡ Ok u → first ≡ None
none_bad None whole count u e = refl
none_bad (Some n) whole count u e = cc

pub all_good : (t declared : Tables) (rows : List Row) (u : Unit {0}) → placed t rows ≡ Ok u → first_fault 0 declared rows ≡ None → AllByRecursion IsGood rows
all_good t declared rows u stood none =
    good_rows 0 0 Sets t declared rows (none_bad (first_bad 0 Sets t rows) (is_whole rows) (length rows) u stood) none

-- ---- no rule of others has an own word

foreign_row : (none own : Bool) (mine foreign : Row) → own ≡ false → IsGood (if none then row.Bad else (if own then mine else foreign)) → IsGood foreign
foreign_row true own mine foreign other good = absurd good
foreign_row false true mine foreign other good = cc
foreign_row false false mine foreign other good = good

module _ (text : List ℕ) (other : is_own text ≡ false) (rule : starts_with nat_eq text (codes "-A ") ≡ true) where
  abbrev behind_front : List ℕ
  behind_front = drop 3 text

  as_rule : row_of text ≡ rule_row text
  unfolding row_of
  as_rule = let begins = begins_with (codes "-A ") text rule in ap row_of begins ∙ ap rule_row (sym begins)

  foreign_chain : is_own_chain (word behind_front) ≡ false
  foreign_chain =
      false_from_ne_true (is_own_chain (word behind_front)) (λ own.
      let is = and_from (starts_with nat_eq text (codes "-A ")) (bytes_eq (word behind_front) (word behind_front)) rule (same_text (word behind_front)) in
      false≢true (sym (chain_row_left (word behind_front) text other own) ∙ or_right (has_name_behind (codes ":") (word behind_front) text) (has_name_behind (codes "-A ") (word behind_front) text) is))

  uses_no_own : IsGood (row_of text) → uses_own text ≡ false
  uses_no_own good =
      foreign_row (is_empty (word behind_front)) (is_own_chain (word behind_front)) (own_rule (rest behind_front) (word behind_front)) (row.ForeignRule (uses_own text)) foreign_chain
      (subst IsGood as_rule good)

no_such_word : (name : List ℕ) (ws : List (List ℕ)) → is_own_word name ≡ true → list_any is_own_word ws ≡ false → list_any (bytes_eq name) ws ≡ false
no_such_word name [] own none = refl
no_such_word name (w ∷ ws) own none =
    let parts = or_parts (is_own_word w) (list_any is_own_word ws) none in
    or_from (bytes_eq name w) (list_any (bytes_eq name) ws)
    (false_from_ne_true (bytes_eq name w) (λ same. false≢true (sym parts.0 ∙ ap is_own_word (sym (same_bytes name w same)) ∙ own)))
    (no_such_word name ws own parts.1)

no_rule_with : (name text : List ℕ) → is_own_word name ≡ true → is_own text ≡ false → IsGood (row_of text) → is_rule_with name text ≡ false
no_rule_with name text own other good = by_front (starts_with nat_eq text (codes "-A ")) refl
  where
    by_front : (b : Bool) → starts_with nat_eq text (codes "-A ") ≡ b → (b && list_any (bytes_eq name) (words text)) ≡ false
    by_front true rule = no_such_word name (words text) own (uses_no_own text other rule good)
    by_front false rule = refl

-- ---- the rows that are foreign

-- a row of others, by itself without a fault
pub record IsOthers (text : List ℕ) : Type 0 where
  pub other : is_own text ≡ false
  pub good : IsGood (row_of text)

pub all_others : (texts : List (List ℕ)) → AllByRecursion IsGood (map row_of texts) → AllByRecursion IsOthers (foreign_rows texts)
all_others [] good = tt
all_others (text ∷ texts) good =
    elim (is_own text) as (λ b. is_own text ≡ b → AllByRecursion IsOthers (cond (not b) (text ∷ foreign_rows texts) (foreign_rows texts))) [
      | true ↦ λ own. all_others texts good.1
      | false ↦ λ other. (record { other = other; good = good.0 }, all_others texts good.1)
    ] refl

-- ---- what an operation takes away

-- a set or a chain that it takes away has a name that no rule of others may have
abbrev pub TakesOwnWord : Op → Type 0
TakesOwnWord (CreateSet name) = Unit {0}
TakesOwnWord (AddMember name x) = Unit {0}
TakesOwnWord (WriteChain name) = Unit {0}
TakesOwnWord (DeleteChain name) = is_own_word name ≡ true
TakesOwnWord (RemoveMember name x) = Unit {0}
TakesOwnWord (DestroySet name) = is_own_word name ≡ true

pub names_left : (op : Op) → TakesOwnWord op → (text : List ℕ) → IsOthers text → names_taken op text ≡ false
names_left (CreateSet name) own text is = refl
names_left (AddMember name x) own text is = refl
names_left (WriteChain name) own text is = refl
names_left (DeleteChain name) own text is = no_rule_with name text own is.other is.good
names_left (RemoveMember name x) own text is = refl
names_left (DestroySet name) own text is = no_rule_with name text own is.other is.good

pub set_word : (name : List ℕ) → is_own_set name ≡ true → is_own_word name ≡ true
set_word name own =
    and_from (is_own_set name || is_own_chain name) (not (bytes_eq name forward)) (or_left (is_own_set name) (is_own_chain name) own)
    (not_from_false (bytes_eq name forward) (ap (λ (n : List ℕ). bytes_eq n forward) (begins_with (codes "cali40") name own)))

pub chain_word : (name : ChainName) → is_own_chain name ≡ true → bytes_eq name forward ≡ false → is_own_word name ≡ true
chain_word name own other =
    and_from (is_own_set name || is_own_chain name) (not (bytes_eq name forward)) (or_right (is_own_set name) (is_own_chain name) own)
    (not_from_false (bytes_eq name forward) other)
