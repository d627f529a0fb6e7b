-- Pieces of texts that were put together.
use Rattle.std.proofs.Common.{◌≡◌, ◌<◌, ◌≤◌, ℕ, zero, suc, Bool, true, false, List, [], ◌∷◌, ◌++◌, length, take, drop, refl, sym, ap, ◌∙◌, arith, eq-eqb, append-nil, append_assoc, ◌+◌}
use Rattle.std.specs.Prelude.{◌==◌, if◌then◌else◌}
use Rattle.std.specs.List.{list_any, list_all}
use Rattle.std.specs.Char.{digit_value}
use Rattle.std.specs.Str.Parse.{AllDigits}
use Rattle.std.proofs.lemmas.Bool.{or_parts, or_from, and_parts, false≢true}
use Rattle.std.proofs.lemmas.List.Folds.{list_any-append}
use Rattle.fx_base.specs.Same.{same_numbers}
use Rattle.fx_found.specs.Pieces.{piece, behind, with_first, pieces}

-- the byte stands in the text
abbrev pub has : ℕ → List ℕ → Bool
has mark text = list_any (λ c. c == mark) text

same_mark : (mark : ℕ) → (mark == mark) ≡ true
same_mark mark = eq-eqb mark mark refl

-- ---- a piece, a mark and what follows it

pub piece_marked : (mark : ℕ) (w later : List ℕ) → has mark w ≡ false → piece mark (w ++ mark ∷ later) ≡ w
piece_marked mark [] later free = ap (λ (b : Bool). if b then [] else mark ∷ piece mark later) (same_mark mark)
piece_marked mark (c ∷ w) later free =
    let parts = or_parts (c == mark) (has mark w) free in
    ap (λ (b : Bool). if b then [] else c ∷ piece mark (w ++ mark ∷ later)) parts.0 ∙ ap (λ (l : List ℕ). c ∷ l) (piece_marked mark w later parts.1)

pub behind_marked : (mark : ℕ) (w later : List ℕ) → has mark w ≡ false → behind mark (w ++ mark ∷ later) ≡ later
behind_marked mark [] later free = ap (λ (b : Bool). if b then later else behind mark later) (same_mark mark)
behind_marked mark (c ∷ w) later free =
    let parts = or_parts (c == mark) (has mark w) free in
    ap (λ (b : Bool). if b then w ++ mark ∷ later else behind mark (w ++ mark ∷ later)) parts.0 ∙ behind_marked mark w later parts.1

-- ---- a text without a mark is one piece

pub piece_whole : (mark : ℕ) (w : List ℕ) → has mark w ≡ false → piece mark w ≡ w
piece_whole mark [] free = refl
piece_whole mark (c ∷ w) free =
    let parts = or_parts (c == mark) (has mark w) free in
    ap (λ (b : Bool). if b then [] else c ∷ piece mark w) parts.0 ∙ ap (λ (l : List ℕ). c ∷ l) (piece_whole mark w parts.1)

pub behind_whole : (mark : ℕ) (w : List ℕ) → has mark w ≡ false → behind mark w ≡ []
behind_whole mark [] free = refl
behind_whole mark (c ∷ w) free =
    let parts = or_parts (c == mark) (has mark w) free in
    ap (λ (b : Bool). if b then w else behind mark w) parts.0 ∙ behind_whole mark w parts.1

-- ---- all pieces

pub pieces_marked : (mark : ℕ) (w later : List ℕ) → has mark w ≡ false → pieces mark (w ++ mark ∷ later) ≡ w ∷ pieces mark later
pieces_marked mark [] later free = ap (λ (b : Bool). if b then [] ∷ pieces mark later else with_first mark (pieces mark later)) (same_mark mark)
pieces_marked mark (c ∷ w) later free =
    let parts = or_parts (c == mark) (has mark w) free in
    ap (λ (b : Bool). if b then [] ∷ pieces mark (w ++ mark ∷ later) else with_first c (pieces mark (w ++ mark ∷ later))) parts.0
    ∙ ap (with_first c) (pieces_marked mark w later parts.1)

pub pieces_whole : (mark : ℕ) (w : List ℕ) → has mark w ≡ false → 0 < length w → pieces mark w ≡ w ∷ []
pieces_whole mark [] free some = absurd (omega (arith, some))
pieces_whole mark (c ∷ []) free some =
    let parts = or_parts (c == mark) false free in
    ap (λ (b : Bool). if b then [] ∷ [] else (c ∷ []) ∷ []) parts.0
pieces_whole mark (c ∷ d ∷ w) free some =
    let parts = or_parts (c == mark) (has mark (d ∷ w)) free in
    ap (λ (b : Bool). if b then [] ∷ pieces mark (d ∷ w) else with_first c (pieces mark (d ∷ w))) parts.0
    ∙ ap (with_first c) (pieces_whole mark (d ∷ w) parts.1 (omega arith))

-- the first piece, and those of what is behind it
pub pieces_cut : (mark c : ℕ) (cs : List ℕ) → pieces mark (c ∷ cs) ≡ piece mark (c ∷ cs) ∷ pieces mark (behind mark (c ∷ cs))
pieces_cut mark c [] =
    elim (c == mark) as (λ (b : Bool). (if b then [] ∷ [] else (c ∷ []) ∷ []) ≡ (if b then [] else c ∷ []) ∷ pieces mark (if b then [] else [])) [
      | true ↦ refl
      | false ↦ refl
    ]
pieces_cut mark c (d ∷ ds) =
    elim (c == mark) as (λ (b : Bool). (if b then [] ∷ pieces mark (d ∷ ds) else with_first c (pieces mark (d ∷ ds))) ≡ (if b then [] else c ∷ piece mark (d ∷ ds)) ∷ pieces mark (if b then d ∷ ds else behind mark (d ∷ ds))) [
      | true ↦ refl
      | false ↦ ap (with_first c) (pieces_cut mark d ds)
    ]

pub pieces_of_some : (mark : ℕ) (text : List ℕ) → 0 < length text → pieces mark text ≡ piece mark text ∷ pieces mark (behind mark text)
pieces_of_some mark [] some = absurd (omega (arith, some))
pieces_of_some mark (c ∷ cs) some = pieces_cut mark c cs

-- ---- texts without a mark

pub free_append : (mark : ℕ) (xs ys : List ℕ) → has mark xs ≡ false → has mark ys ≡ false → has mark (xs ++ ys) ≡ false
free_append mark xs ys first second = list_any-append (λ c. c == mark) xs ys ∙ or_from (has mark xs) (has mark ys) first second

pub free_digits : (base mark : ℕ) → base ≤ digit_value mark → (ds : List ℕ) → AllDigits base ds → has mark ds ≡ false
free_digits base mark none [] digits = refl
free_digits base mark none (c ∷ cs) digits = or_from (c == mark) (has mark cs) (other (c == mark) refl) (free_digits base mark none cs digits.1)
  where
    other : (b : Bool) → (c == mark) ≡ b → b ≡ false
    other false e = refl
    other true e = absurd (omega (arith, none, digits.0, ap digit_value (same_numbers c mark e)))

-- bytes of a kind that the mark isn't of
pub free_of_kind : (kind : ℕ → Bool) (mark : ℕ) → kind mark ≡ false → (w : List ℕ) → list_all kind w ≡ true → has mark w ≡ false
free_of_kind kind mark none [] all = refl
free_of_kind kind mark none (c ∷ w) all =
    let parts = and_parts (kind c) (list_all kind w) all in
    or_from (c == mark) (has mark w) (other parts.0 (c == mark) refl) (free_of_kind kind mark none w parts.1)
  where
    other : kind c ≡ true → (b : Bool) → (c == mark) ≡ b → b ≡ false
    other is false e = refl
    other is true e = absurd (false≢true (sym none ∙ sym (ap kind (same_numbers c mark e)) ∙ is))

free_first : (mark c : ℕ) (w : List ℕ) → has mark w ≡ false → (b : Bool) → (c == mark) ≡ b → has mark (if b then [] else c ∷ w) ≡ false
free_first mark c w free true e = refl
free_first mark c w free false e = or_from (c == mark) (has mark w) e free

pub free_piece : (mark : ℕ) (text : List ℕ) → has mark (piece mark text) ≡ false
free_piece mark [] = refl
free_piece mark (c ∷ cs) = free_first mark c (piece mark cs) (free_piece mark cs) (c == mark) refl

pub free_take : (mark n : ℕ) (text : List ℕ) → has mark text ≡ false → has mark (take n text) ≡ false
free_take mark zero text free = refl
free_take mark (suc n) [] free = refl
free_take mark (suc n) (c ∷ cs) free =
    let parts = or_parts (c == mark) (has mark cs) free in
    or_from (c == mark) (has mark (take n cs)) parts.0 (free_take mark n cs parts.1)

-- ---- as far as a text was looked through

pub record IsPassed (mark at : ℕ) (text : List ℕ) : Type 0 where
  pub first : take at text ++ piece mark (drop at text) ≡ piece mark text
  pub later : behind mark (drop at text) ≡ behind mark text

pub passed_none : (mark : ℕ) (text : List ℕ) → IsPassed mark 0 text
passed_none mark text = record { first = refl; later = refl }

-- one byte further, which isn't the mark
pub passed_over : (mark at c : ℕ) (text : List ℕ) → at < length text → drop at text ≡ c ∷ drop (at + 1) text → take (at + 1) text ≡ take at text ++ c ∷ [] → (c == mark) ≡ false → IsPassed mark at text → IsPassed mark (at + 1) text
passed_over mark at c text within split longer other is = record {
  first =
      ap (λ (l : List ℕ). l ++ piece mark (drop (at + 1) text)) longer
      ∙ append_assoc (take at text) (c ∷ []) (piece mark (drop (at + 1) text))
      ∙ sym (ap (λ (l : List ℕ). take at text ++ piece mark l) split ∙ ap (λ (b : Bool). take at text ++ (if b then [] else c ∷ piece mark (drop (at + 1) text))) other)
      ∙ is.first;
  later =
      sym (ap (behind mark) split ∙ ap (λ (b : Bool). if b then drop (at + 1) text else behind mark (drop (at + 1) text)) other)
      ∙ is.later;
}

-- the mark stands here
pub cut_here : (mark at c : ℕ) (text : List ℕ) → drop at text ≡ c ∷ drop (at + 1) text → (c == mark) ≡ true → IsPassed mark at text → (take at text ≡ piece mark text) × (drop (at + 1) text ≡ behind mark text)
cut_here mark at c text split same is = (
  sym (append-nil (take at text)) ∙ sym (ap (λ (l : List ℕ). take at text ++ piece mark l) split ∙ ap (λ (b : Bool). take at text ++ (if b then [] else c ∷ piece mark (drop (at + 1) text))) same) ∙ is.first,
  sym (ap (behind mark) split ∙ ap (λ (b : Bool). if b then drop (at + 1) text else behind mark (drop (at + 1) text)) same) ∙ is.later,
)

-- there is no mark
pub cut_nowhere : (mark : ℕ) (text rest : List ℕ) → rest ≡ [] → IsPassed mark (length text) text → drop (length text) text ≡ rest → (take (length text) text ≡ piece mark text) × (rest ≡ behind mark text)
cut_nowhere mark text rest none is all = (
  sym (append-nil (take (length text) text)) ∙ sym (ap (λ (l : List ℕ). take (length text) text ++ piece mark l) (all ∙ none)) ∙ is.first,
  none ∙ sym (ap (behind mark) (all ∙ none)) ∙ is.later,
)
