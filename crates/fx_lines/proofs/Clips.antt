-- What a reader keeps of a line that may be too long.
use Rattle.std.proofs.Common.{◌≡◌, ◌≢◌, ◌⊎◌, ⊎_elim, ◌<◌, ◌≤◌, ◌+◌, ◌-◌, min, ℕ, zero, suc, List, [], ◌∷◌, ◌++◌, length, take, slice_index, Bool, true, false, Result, refl, sym, ◌∙◌, ap, subst, arith, length-append, append_assoc}
use Rattle.std.proofs.Math.Seq.{take-nil, take-append-add}
use Rattle.std.proofs.Math.Nat.{min-le_right}
use Rattle.std.proofs.lemmas.List.{length-take, length-take-le, take_all, append_cancel_left, get_or-append-add}
use Rattle.std.proofs.lemmas.Bool.{cases_lt, lt-ltb}
use Rattle.serde_json.specs.Data.{Data}
use Rattle.fx_fields.specs.declared.refusal.Refusal.{Refusal}
use Rattle.fx_lines.specs.Lines.{line_limit, clip, HasNoNewline}
use Rattle.fx_lines.specs.Reading.{IsNext, line_if}
use Rattle.fx_lines.specs.Commands.{value_in, by_value, command_by}
use Rattle.fx_lines.proofs.Asking.{value_in-long}
use Rattle.fx_lines.proofs.Cuts.{HasNoNewline-from_places, NoneBefore, none_in_prefix, last_is_next}

take-take-append : (n : ℕ) (xs ys : List ℕ) → take n (take n xs ++ ys) ≡ take n (xs ++ ys)
take-take-append zero xs ys = refl
take-take-append (suc n) [] ys = refl
take-take-append (suc n) (x ∷ xs) ys = ap (λ (l : List ℕ). x ∷ l) (take-take-append n xs ys)

pub clip-append : (front back : List ℕ) → clip (clip front ++ back) ≡ clip (front ++ back)
clip-append front back = take-take-append (line_limit + 1) front back

pub length-clip : (line : List ℕ) → length (clip line) ≡ min (line_limit + 1) (length line)
length-clip line = length-take (line_limit + 1) line

-- what is kept of a line says as much as the line
pub value_in-clip : (line : List ℕ) → value_in (clip line) ≡ value_in line
value_in-clip line = ⊎_elim long short (cases_lt line_limit (length line))
  where
    long : line_limit < length line → value_in (clip line) ≡ value_in line
    long is =
        let kept : line_limit < length (clip line) = omega (arith, length-clip line) in
        value_in-long (clip line) (sym (lt-ltb line_limit (length (clip line)) kept)) ∙ sym (value_in-long line (sym (lt-ltb line_limit (length line) is)))

    short : length line ≤ line_limit → value_in (clip line) ≡ value_in line
    short is = ap value_in (take_all (line_limit + 1) line (omega arith))

pub command_by-clip : {C : Type 0} (blank : C) (by_name : Data → Result C Refusal) (line : List ℕ) → command_by blank by_name (clip line) ≡ command_by blank by_name line
unfolding command_by
command_by-clip blank by_name line = ap (by_value blank by_name) (value_in-clip line)

HasNoNewline-append : (front back : List ℕ) → HasNoNewline front → HasNoNewline back → HasNoNewline (front ++ back)
HasNoNewline-append [] back clear behind = behind
HasNoNewline-append (b ∷ front) back clear behind = (clear.0, HasNoNewline-append front back clear.1 behind)

-- no newline stands between two places
abbrev pub NoneBetween : List ℕ → ℕ → ℕ → Type 0
NoneBetween bytes from at = (k : ℕ) → from ≤ k → k < at → slice_index bytes k ≢ 10

none_behind : (front back : List ℕ) (at : ℕ) → NoneBetween (front ++ back) (length front) at → NoneBefore back (at - length front)
none_behind front back at none k small = subst (λ (x : ℕ). x ≢ 10) (get_or-append-add front back k 0) (none (length front + k) (omega arith) (omega arith))

-- Of the bytes up to now the front is the beginning of a line, of which is held what is kept of a line. What is held was
-- seen up to a place: there the back begins.
pub record IsSeen (bytes held : List ℕ) (seen : ℕ) : Type 0 where
  pub front : List ℕ
  pub back : List ℕ
  pub whole : bytes ≡ front ++ back
  pub kept : held ≡ clip front ++ back
  pub clear : HasNoNewline front
  pub long : length (clip front) ≡ seen

pub IsSeen-none : (bytes : List ℕ) → IsSeen bytes bytes 0
IsSeen-none bytes = record {
  front = [];
  back = bytes;
  whole = refl;
  kept = ap (λ (l : List ℕ). l ++ bytes) (sym (take-nil (line_limit + 1)));
  clear = tt;
  long = ap length (take-nil (line_limit + 1));
}

-- the line that ends at a newline
pub record IsLineAt (bytes now kept : List ℕ) : Type 0 where
  pub line : List ℕ
  pub clear : HasNoNewline line
  pub cut : bytes ≡ line ++ 10 ∷ now
  pub clipped : kept ≡ clip line

module _ (bytes held : List ℕ) (seen at : ℕ) (is : IsSeen bytes held seen) (none : NoneBetween held seen at) where
  none_in_back : NoneBefore is.back (at - seen)
  none_in_back =
      subst (λ (n : ℕ). NoneBefore is.back (at - n)) is.long
      (none_behind (clip is.front) is.back at (subst (λ (n : ℕ). NoneBetween (clip is.front ++ is.back) n at) (sym is.long) (subst (λ (l : List ℕ). NoneBetween l seen at) is.kept none)))

  length-held : length held ≡ seen + length is.back
  length-held = ap length is.kept ∙ length-append (clip is.front) is.back ∙ ap (λ (n : ℕ). n + length is.back) is.long

  clip-held : clip held ≡ clip bytes
  clip-held = ap clip is.kept ∙ clip-append is.front is.back ∙ ap clip (sym is.whole)

  pub found_at : (now kept : List ℕ) → at < length held → seen ≤ at → held ≡ take at held ++ 10 ∷ now → kept ≡ clip (take at held) → IsLineAt bytes now kept
  found_at now kept small behind cut clipped =
      let n : ℕ = at - seen in
      let piece : List ℕ = take n is.back in
      let place : at ≡ length (clip is.front) + n = omega (arith, is.long) in
      let taken : take at held ≡ clip is.front ++ piece =
      ap (take at) is.kept ∙ ap (λ (m : ℕ). take m (clip is.front ++ is.back)) place ∙ take-append-add (clip is.front) is.back n in
      let back : is.back ≡ piece ++ 10 ∷ now =
      append_cancel_left (clip is.front) is.back (piece ++ 10 ∷ now)
      (sym is.kept ∙ cut ∙ ap (λ (l : List ℕ). l ++ 10 ∷ now) taken ∙ append_assoc (clip is.front) piece (10 ∷ now)) in
      let long : length piece ≡ n = length-take-le n is.back (omega (arith, length-held)) in
      let clear : HasNoNewline piece =
      none_in_prefix piece (10 ∷ now) (subst (λ (m : ℕ). NoneBefore (piece ++ 10 ∷ now) m) (sym long) (subst (λ (l : List ℕ). NoneBefore l n) back none_in_back)) in
      record {
        line = is.front ++ piece;
        clear = HasNoNewline-append is.front piece is.clear clear;
        cut = is.whole ∙ ap (λ (l : List ℕ). is.front ++ l) back ∙ sym (append_assoc is.front piece (10 ∷ now));
        clipped = clipped ∙ ap clip taken ∙ clip-append is.front piece;
      }

  module _ (all : length held ≤ at) where
    pub all_clear : HasNoNewline bytes
    all_clear =
        subst HasNoNewline (sym is.whole)
        (HasNoNewline-append is.front is.back is.clear (HasNoNewline-from_places is.back (λ k small. none_in_back k (omega (arith, length-held)))))

    -- all of it was seen, and a piece comes
    pub IsSeen-more : (piece bytes_now held_now : List ℕ) (seen_now : ℕ) → bytes_now ≡ bytes ++ piece → held_now ≡ clip held ++ piece → seen_now ≡ min (line_limit + 1) (length held)
        → IsSeen bytes_now held_now seen_now
    IsSeen-more piece bytes_now held_now seen_now more holds place = record {
      front = bytes;
      back = piece;
      whole = more;
      kept = holds ∙ ap (λ (l : List ℕ). l ++ piece) clip-held;
      clear = all_clear;
      long = ap length (sym clip-held) ∙ length-clip held ∙ sym place;
    }

    held_some : 0 < length held → 0 < length bytes
    held_some some = omega (arith, length-held, ap length is.whole, length-append is.front is.back, is.long, length-clip is.front, min-le_right (line_limit + 1) (length is.front))

    clip_none : (n : ℕ) (line : List ℕ) → 0 < n → take n line ≡ [] → line ≡ []
    clip_none zero line some nothing = absurd (omega arith)
    clip_none (suc n) [] some nothing = refl
    clip_none (suc n) (b ∷ line) some nothing = absurd (omega (arith, ap length nothing))

    held_none : held ≡ [] → bytes ≡ []
    held_none nothing = clip_none (line_limit + 1) bytes (omega arith) (sym clip-held ∙ ap clip nothing ∙ take-nil (line_limit + 1))

    -- the end: what is left is the last line, or nothing
    pub last_at : (before piece line now : List ℕ) (found ended : Bool) → bytes ≡ before ++ piece
        → (found ≡ true → (line ≡ clip held) × (0 < length held)) → (found ≡ false → held ≡ []) → now ≡ [] → ended ≡ true
        → IsNext before piece (line_if found bytes) now ended × (found ≡ true → line ≡ clip bytes)
    last_at before piece line now found ended whole some nothing empty end = (
      last_is_next before piece bytes found bytes now ended whole (λ is_found. (refl, held_some (some is_found).1)) (λ is_none. held_none (nothing is_none)) empty end all_clear,
      λ is_found. (some is_found).0 ∙ clip-held,
    )
