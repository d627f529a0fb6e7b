-- How lines are cut off the beginning of some bytes.
use Rattle.std.proofs.Common.{◌≡◌, ◌≢◌, ◌⊎◌, inl, inr, ◌<◌, ◌+◌, ℕ, suc, List, [], ◌∷◌, ◌++◌, length, slice_index, Bool, true, false, Option, Some, None, refl, sym, ◌∙◌, ap, subst, arith, length-append, append_assoc}
use Rattle.std.proofs.Common.{cond, Result, Ok, Err, OnErr}
use Rattle.std.proofs.lemmas.List.{append-nil}
use Rattle.std.proofs.lemmas.Bool.Decides.{nat_tests}
use Rattle.fx_base.specs.Streams.{SourceState, Gives}
use Rattle.fx_base.proofs.Compose.{Gives-more, Gives-none}
use Rattle.fx_lines.specs.Lines.{lines_of, HasNoNewline, has_newline, to_last_newline, answerable}
use Rattle.fx_lines.specs.Reading.{IsNext, line_if, AreLines, IsCutIntoLines, HasRead}

-- a prefix without a newline, by its places
pub HasNoNewline-from_places : (bytes : List ℕ) → ((k : ℕ) → k < length bytes → slice_index bytes k ≢ 10) → HasNoNewline bytes
HasNoNewline-from_places [] none = tt
HasNoNewline-from_places (b ∷ bytes) none = (none 0 (omega arith), HasNoNewline-from_places bytes (λ k small. none (suc k) (omega arith)))

pub lines_of-first : (line rest : List ℕ) → HasNoNewline line → lines_of (line ++ 10 ∷ rest) ≡ line ∷ lines_of rest
unfolding lines_of
lines_of-first [] rest none = refl
lines_of-first (b ∷ line) rest none =
    let e = lines_of-first line rest none.1 in
    let n : b ≢ 10 = none.0 in
    grind (arith, nat_tests, e)

pub lines_of-last : (line : List ℕ) → HasNoNewline line → 0 < length line → lines_of line ≡ line ∷ []
unfolding lines_of
lines_of-last [] none some = absurd (omega arith)
lines_of-last (b ∷ []) none some =
    let n : b ≢ 10 = none.0 in
    grind (arith, nat_tests)
lines_of-last (b ∷ c ∷ line) none some =
    let e = lines_of-last (c ∷ line) none.1 (omega arith) in
    let n : b ≢ 10 = none.0 in
    grind (arith, nat_tests, e)

-- no newline stands before a place
abbrev pub NoneBefore : List ℕ → ℕ → Type 0
NoneBefore bytes at = (k : ℕ) → k < at → slice_index bytes k ≢ 10

pub none_in_prefix : (line rest : List ℕ) → NoneBefore (line ++ rest) (length line) → HasNoNewline line
none_in_prefix [] rest none = tt
none_in_prefix (b ∷ line) rest none = (none 0 (omega arith), none_in_prefix line rest (λ k small. none (suc k) (omega arith)))

pub last_is_next : (before piece held : List ℕ) (found : Bool) (line now : List ℕ) (ended : Bool) → held ≡ before ++ piece
    → (found ≡ true → (line ≡ held) × (0 < length line)) → (found ≡ false → held ≡ []) → now ≡ [] → ended ≡ true → HasNoNewline held
    → IsNext before piece (line_if found line) now ended
last_is_next before piece held false line now ended whole some none empty end clear = (sym whole ∙ none refl, empty, end)
last_is_next before piece held true line now ended whole some none empty end clear =
    let is = some refl in
    (subst HasNoNewline (sym is.0) clear, inr (sym whole ∙ sym is.0, is.1, empty, end))

AreLines-none : AreLines [] []
AreLines-none = record { goes = λ more. refl; whole = λ more. refl }

has_newline-line : (line more : List ℕ) → has_newline (line ++ 10 ∷ more) ≡ true
has_newline-line [] more = refl
has_newline-line (b ∷ line) more =
    let e = has_newline-line line more in
    grind (arith, nat_tests, e)

to_last_newline-line : (line more : List ℕ) → to_last_newline (line ++ 10 ∷ more) ≡ line ++ 10 ∷ to_last_newline more
unfolding to_last_newline
to_last_newline-line [] more = refl
to_last_newline-line (b ∷ line) more =
    ap (λ (t : Bool). cond t (b ∷ to_last_newline (line ++ 10 ∷ more)) []) (has_newline-line (b ∷ line) more)
    ∙ ap (λ (l : List ℕ). b ∷ l) (to_last_newline-line line more)

AreLines-more : (prefix line : List ℕ) (lines : List (List ℕ)) → AreLines prefix lines → HasNoNewline line → AreLines (prefix ++ (line ++ 10 ∷ [])) (lines ++ line ∷ [])
AreLines-more prefix line lines was none = record {
  goes = λ m.
      ap lines_of (append_assoc prefix (line ++ 10 ∷ []) m)
      ∙ was.goes ((line ++ 10 ∷ []) ++ m)
      ∙ ap (λ (l : List ℕ). lines ++ lines_of l) (append_assoc line (10 ∷ []) m)
      ∙ ap (λ (l : List (List ℕ)). lines ++ l) (lines_of-first line m none)
      ∙ sym (append_assoc lines (line ∷ []) (lines_of m));
  whole = λ m.
      ap to_last_newline (append_assoc prefix (line ++ 10 ∷ []) m)
      ∙ was.whole ((line ++ 10 ∷ []) ++ m)
      ∙ ap (λ (l : List ℕ). prefix ++ to_last_newline l) (append_assoc line (10 ∷ []) m)
      ∙ ap (λ (l : List ℕ). prefix ++ l) (to_last_newline-line line m ∙ sym (append_assoc line (10 ∷ []) (to_last_newline m)))
      ∙ sym (append_assoc prefix (line ++ 10 ∷ []) (to_last_newline m));
}

-- before the first line
pub HasRead-none : (s : SourceState) (ended : Bool) → HasRead s s [] ended []
HasRead-none s ended = record { taken = []; gives = Gives-none s; cut = record { prefix = []; whole = refl; cut = inl AreLines-none } }

-- one line more
pub IsCutIntoLines-more : (taken held piece : List ℕ) (ended ended_now : Bool) (lines : List (List ℕ)) (line now : List ℕ) → IsCutIntoLines taken held ended lines → (ended ≡ true → piece ≡ []) → IsNext held piece (Some line) now ended_now
    → IsCutIntoLines (taken ++ piece) now ended_now (lines ++ line ∷ [])
IsCutIntoLines-more taken held piece ended ended_now lines line now was quiet (none, next) = more was.cut next
  where
    joined : taken ++ piece ≡ was.prefix ++ (held ++ piece)
    joined = ap (λ (l : List ℕ). l ++ piece) was.whole ∙ append_assoc was.prefix held piece

    more : AreLines was.prefix lines ⊎ ((lines_of was.prefix ≡ lines) × (held ≡ []) × (ended ≡ true))
        → (held ++ piece ≡ line ++ 10 ∷ now) ⊎ ((held ++ piece ≡ line) × (0 < length line) × (now ≡ []) × (ended_now ≡ true)) → IsCutIntoLines (taken ++ piece) now ended_now (lines ++ line ∷ [])
    more (inl cut) (inl is) = record {
      prefix = was.prefix ++ (line ++ 10 ∷ []);
      whole = joined ∙ ap (λ (l : List ℕ). was.prefix ++ l) (is ∙ sym (append_assoc line (10 ∷ []) now)) ∙ sym (append_assoc was.prefix (line ++ 10 ∷ []) now);
      cut = inl (AreLines-more was.prefix line lines cut none);
    }
    more (inl cut) (inr last) = record {
      prefix = was.prefix ++ line;
      whole = joined ∙ ap (λ (l : List ℕ). was.prefix ++ l) last.0 ∙ sym (append-nil (was.prefix ++ line)) ∙ ap (λ (l : List ℕ). (was.prefix ++ line) ++ l) (sym last.2);
      cut = inr (cut.goes line ∙ ap (λ (l : List (List ℕ)). lines ++ l) (lines_of-last line none last.1), last.2, last.3);
    }
    more (inr (all, empty, end)) (inl is) =
        let nothing : held ++ piece ≡ [] = ap (λ (l : List ℕ). l ++ piece) empty ∙ quiet end in
        absurd (omega (arith, ap length is, ap length nothing, length-append line (10 ∷ now)))
    more (inr (all, empty, end)) (inr last) =
        let nothing : held ++ piece ≡ [] = ap (λ (l : List ℕ). l ++ piece) empty ∙ quiet end in
        absurd (omega (arith, last.1, ap length last.0, ap length nothing))

-- What is answerable of what was taken by now begins with the lines.
pub answerable-lines : (taken held piece : List ℕ) (ended ended_now : Bool) (lines : List (List ℕ)) → IsCutIntoLines taken held ended lines → (ended ≡ true → (piece ≡ []) × (ended_now ≡ true))
    → (rest : List (List ℕ)) × (lines_of (answerable ended_now (taken ++ piece)) ≡ lines ++ rest)
answerable-lines taken held piece ended ended_now lines was quiet = by_cut was.cut
  where
    joined : taken ++ piece ≡ was.prefix ++ (held ++ piece)
    joined = ap (λ (l : List ℕ). l ++ piece) was.whole ∙ append_assoc was.prefix held piece

    at_end : (e : Bool) → AreLines was.prefix lines → (rest : List (List ℕ)) × (lines_of (answerable e (was.prefix ++ (held ++ piece))) ≡ lines ++ rest)
    at_end true cut = (lines_of (held ++ piece), cut.goes (held ++ piece))
    at_end false cut = (lines_of (to_last_newline (held ++ piece)), ap lines_of (cut.whole (held ++ piece)) ∙ cut.goes (to_last_newline (held ++ piece)))

    by_cut : AreLines was.prefix lines ⊎ ((lines_of was.prefix ≡ lines) × (held ≡ []) × (ended ≡ true)) → (rest : List (List ℕ)) × (lines_of (answerable ended_now (taken ++ piece)) ≡ lines ++ rest)
    by_cut (inl cut) = subst (λ (l : List ℕ). (rest : List (List ℕ)) × (lines_of (answerable ended_now l) ≡ lines ++ rest)) (sym joined) (at_end ended_now cut)
    by_cut (inr (all, empty, end)) =
        let is = quiet end in
        let whole : taken ++ piece ≡ was.prefix = joined ∙ ap (λ (l : List ℕ). was.prefix ++ (l ++ piece)) empty ∙ ap (λ (l : List ℕ). was.prefix ++ l) is.0 ∙ append-nil was.prefix in
        ([], ap (λ (e : Bool). lines_of (answerable e (taken ++ piece))) is.1 ∙ ap lines_of whole ∙ all ∙ sym (append-nil lines))

-- the prefix is these lines
pub lines_of-prefix : (taken held : List ℕ) (ended : Bool) (lines : List (List ℕ)) (was : IsCutIntoLines taken held ended lines) → lines_of was.prefix ≡ lines
unfolding lines_of
lines_of-prefix taken held ended lines was = elim was.cut as (λ _. lines_of was.prefix ≡ lines) [
  | inl cut ↦ ap lines_of (sym (append-nil was.prefix)) ∙ cut.goes [] ∙ append-nil lines
  | inr all ↦ all.0
]

-- the end
pub IsCutIntoLines-end : (taken held piece : List ℕ) (ended ended_now : Bool) (lines : List (List ℕ)) (now : List ℕ) → IsCutIntoLines taken held ended lines → IsNext held piece None now ended_now → lines_of (taken ++ piece) ≡ lines
IsCutIntoLines-end taken held piece ended ended_now lines now was is =
    ap lines_of (ap (λ (l : List ℕ). l ++ piece) was.whole ∙ append_assoc was.prefix held piece ∙ ap (λ (l : List ℕ). was.prefix ++ l) is.0 ∙ append-nil was.prefix)
    ∙ lines_of-prefix taken held ended lines was

-- a reader that has met the end takes nothing
pub nothing_given : (s t : SourceState) (piece : List ℕ) → Gives s t piece → t.given ≡ s.given → piece ≡ []
nothing_given s t [] gives same = refl
nothing_given s t (b ∷ piece) gives same = absurd (omega (arith, gives.count))

module _ (r s t : SourceState) (held piece now : List ℕ) (ended ended_now : Bool) (lines : List (List ℕ)) where
  pub HasRead-more : (line : List ℕ) → HasRead r s held ended lines → Gives s t piece → (ended ≡ true → t.given ≡ s.given) → IsNext held piece (Some line) now ended_now
      → HasRead r t now ended_now (lines ++ line ∷ [])
  HasRead-more line was gives quiet next = record {
    taken = was.taken ++ piece;
    gives = Gives-more r s t was.taken piece was.gives gives;
    cut = IsCutIntoLines-more was.taken held piece ended ended_now lines line now was.cut (λ end. nothing_given s t piece gives (quiet end)) next;
  }

  pub HasRead-end : HasRead r s held ended lines → Gives s t piece → IsNext held piece None now ended_now
      → (bytes : List ℕ) × Gives r t bytes × (lines_of bytes ≡ lines) × (ended_now ≡ true)
  HasRead-end was gives next = (
    was.taken ++ piece,
    Gives-more r s t was.taken piece was.gives gives,
    IsCutIntoLines-end was.taken held piece ended ended_now lines now was.cut next,
    next.2,
  )

-- a line was found, or the end
pub next_line : (held piece line now : List ℕ) (found ended : Bool) → found ≡ true → IsNext held piece (line_if found line) now ended → IsNext held piece (Some line) now ended
next_line held piece line now found ended is next = subst (λ (b : Bool). IsNext held piece (line_if b line) now ended) is next

pub next_end : (held piece line now : List ℕ) (found ended : Bool) → found ≡ false → IsNext held piece (line_if found line) now ended → IsNext held piece None now ended
next_end held piece line now found ended is next = subst (λ (b : Bool). IsNext held piece (line_if b line) now ended) is next

-- a line takes at least one byte
pub next_shrinks : (s t : SourceState) (held piece line now : List ℕ) (ended_now : Bool) → Gives s t piece → IsNext held piece (Some line) now ended_now
    → s.given + length now < t.given + length held
next_shrinks s t held piece line now ended_now gives (none, inl is) =
    omega (arith, gives.count, ap length is, length-append held piece, length-append line (10 ∷ now))
next_shrinks s t held piece line now ended_now gives (none, inr last) =
    omega (arith, gives.count, ap length last.0, last.1, ap length last.2, length-append held piece)

-- a fact that holds is a clause on an error
pub OnErr-always : {T E X : Type 0} (r : Result T E) → X → OnErr r X
OnErr-always (Ok x) fact = tt
OnErr-always (Err e) fact = fact
