-- Rows by the name in them.
use Rattle.std.proofs.Common.{◌≡◌, ◌<◌, ◌-◌, ℕ, Bool, true, false, ◌||◌, List, [], ◌∷◌, length, take, drop, sym, ap, ◌∙◌, refl, arith, length-drop}
use Rattle.std.specs.Prelude.{◌==◌, if◌then◌else◌}
use Rattle.std.specs.List.{list_any}
use Rattle.std.proofs.lemmas.Bool.{false≢true}
use Rattle.std.proofs.lemmas.List.{take_all}
use Rattle.fx_found.specs.declared.row.Row.{Row}
use Rattle.fx_found.specs.declared.row.Row.TheVariants as row
use Rattle.fx_found.specs.Pieces.{word, rest}
use Rattle.fx_found.specs.NameForms.{is_own_word}
use Rattle.fx_found.specs.Rows.{is_empty, named_row, uses_own}
use Rattle.fx_found.proofs.PieceLemmas.{pieces_of_some}

not_empty : (name : List ℕ) (none : Bool) → none ≡ (length name == 0) → none ≡ false → is_empty name ≡ false
not_empty [] none e f = absurd (false≢true (sym f ∙ e))
not_empty (c ∷ cs) none e f = refl

pub some_bytes : (text : List ℕ) (none : Bool) → none ≡ (length text == 0) → none ≡ false → 0 < length text
some_bytes [] none e f = absurd (false≢true (sym f ∙ e))
some_bytes (c ∷ cs) none e f = omega arith

-- what stands behind a row's first bytes, as a slice of it
pub behind_bytes : (n : ℕ) (text : List ℕ) → take (length text - n) (drop n text) ≡ drop n text
behind_bytes n text = take_all (length text - n) (drop n text) (omega (arith, length-drop n text))

module _ (is_own : List ℕ → Bool) (foreign : Row) (own : List ℕ → Row) (name found : List ℕ) (is : name ≡ found) (none : Bool) (e : none ≡ (length name == 0)) (some : none ≡ false) where
  filled : (if is_own name then own name else foreign) ≡ named_row is_own foreign own found
  filled =
      sym (ap (λ (b : Bool). if b then row.Bad else (if is_own name then own name else foreign)) (not_empty name none e some))
      ∙ ap (named_row is_own foreign own) is

  pub own_named : is_own name ≡ true → own name ≡ named_row is_own foreign own found
  own_named mine = sym (ap (λ (b : Bool). if b then own name else foreign) mine) ∙ filled

  pub foreign_named : is_own name ≡ false → foreign ≡ named_row is_own foreign own found
  foreign_named other = sym (ap (λ (b : Bool). if b then own name else foreign) other) ∙ filled

-- ---- word by word

module _ (text first later : List ℕ) (some : 0 < length text) (is : first ≡ word text) (behind : later ≡ rest text) where
  one_word : (is_own_word first || uses_own later) ≡ uses_own text
  one_word =
      (λ i. is_own_word (is i) || uses_own (behind i)) ∙ sym (ap (list_any is_own_word) (pieces_of_some 32 text some))

  pub uses_here : is_own_word first ≡ true → true ≡ uses_own text
  uses_here own = sym (ap (λ (b : Bool). b || uses_own later) own) ∙ one_word

  pub uses_later : is_own_word first ≡ false → uses_own later ≡ uses_own text
  uses_later other = sym (ap (λ (b : Bool). b || uses_own later) other) ∙ one_word
