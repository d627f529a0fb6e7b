-- A soak run, line by line.
use Rattle.std.proofs.Common.{◌≡◌, ◌+◌, ◌-◌, ◌^◌, ℕ, suc, min, List, [], ◌∷◌, ◌++◌, length, Bool, true, false, is_some, Option, Some, None, refl, sym, ◌∙◌, ap, subst, arith}
use Rattle.fx_base.specs.Ticks.{IsTicked}
use Rattle.fx_base.proofs.TickLemmas.{IsTicked-sum}
use Rattle.fx_gen.specs.Generator.{line_of}
use Rattle.fx_model.specs.Messages.{Flush}
use Rattle.fx_model.specs.declared.resources.Resources.{Resources}
use Rattle.fx_model.specs.declared.resources.Update.{Update}
use Rattle.std.specs.Prelude.{◌||◌}
use Rattle.fx_fields.specs.declared.refusal.Refusal.{Refusal}
use Rattle.fx_names.specs.Digests.{Digest}
use Rattle.fx_replay.specs.declared.tally.Tally.{Tally}
use Rattle.fx_program.specs.Answers.{refusal_in}
use Rattle.fx_replay.specs.Output.{State, answer_of, start, next, flushed_by}
use Rattle.fx_run.specs.Run.{state_after}
use Rattle.felix_replay.specs.Soak.{drawn_lines, flushes_in, messages_in, flushes_along, messages_along, refused_along, tests_along, tally_of, tally_along}
use Rattle.fx_replay.specs.Tallies.{told_number, tally_after, one_flush_more}
use Rattle.fx_replay.specs.Tests.{tests_by}
use Rattle.fx_run.proofs.Runs.{state_after-push}

pub drawn-more : (seed : ℕ) (node : List ℕ) (n : ℕ) → drawn_lines seed node (n + 1) ≡ drawn_lines seed node n ++ line_of seed n node ∷ []
unfolding drawn_lines
drawn-more seed node n = let e : n + 1 ≡ suc n = omega arith in ap (λ (k : ℕ). drawn_lines seed node k) e

plus_none : (n : ℕ) → n + 0 ≡ 0 + n
plus_none n = omega arith

regroup : (a b c : ℕ) → a + (b + c) ≡ (a + b) + c
regroup a b c = omega arith

flushes-push : (s : State) (lines : List (List ℕ)) (line : List ℕ) → flushes_along s (lines ++ line ∷ []) ≡ flushes_along s lines + flushes_in (flushed_by (state_after next s lines) line)
unfolding flushes_along state_after
flushes-push s [] line = plus_none (flushes_in (flushed_by s line))
flushes-push s (x ∷ xs) line =
    ap (λ (n : ℕ). flushes_in (flushed_by s x) + n) (flushes-push (next s x) xs line)
    ∙ regroup (flushes_in (flushed_by s x)) (flushes_along (next s x) xs) (flushes_in (flushed_by (state_after next (next s x) xs) line))

messages-push : (s : State) (lines : List (List ℕ)) (line : List ℕ) → messages_along s (lines ++ line ∷ []) ≡ messages_along s lines + messages_in (flushed_by (state_after next s lines) line)
unfolding messages_along state_after
messages-push s [] line = plus_none (messages_in (flushed_by s line))
messages-push s (x ∷ xs) line =
    let t = state_after next (next s x) xs in
    ap (λ (n : ℕ). messages_in (flushed_by s x) + n) (messages-push (next s x) xs line)
    ∙ regroup (messages_in (flushed_by s x)) (messages_along (next s x) xs) (messages_in (flushed_by t line))

tests-push : (f : Resources → Update → ℕ) (s : State) (lines : List (List ℕ)) (line : List ℕ) → tests_along f s (lines ++ line ∷ []) ≡ tests_along f s lines + tests_by f (state_after next s lines) line
unfolding tests_along state_after
tests-push f s [] line = plus_none (tests_by f s line)
tests-push f s (x ∷ xs) line =
    let t = state_after next (next s x) xs in
    ap (λ (n : ℕ). tests_by f s x + n) (tests-push f (next s x) xs line)
    ∙ regroup (tests_by f s x) (tests_along f (next s x) xs) (tests_by f t line)

same_tally : (a b c d : ℕ) → a ≡ c → b ≡ d → tally_of a b ≡ tally_of c d
same_tally a b c d e f = λ j. tally_of (e j) (f j)

last_or : (a : Bool) → a || false ≡ false || a
last_or true = refl
last_or false = refl

later_or : (a b c : Bool) → a || (b || c) ≡ (a || b) || c
later_or true b c = refl
later_or false b c = refl

refused-push : (s : State) (lines : List (List ℕ)) (line : List ℕ) → refused_along s (lines ++ line ∷ []) ≡ refused_along s lines || is_some (refusal_in (answer_of (state_after next s lines) line))
unfolding refused_along state_after
refused-push s [] line = last_or (is_some (refusal_in (answer_of s line)))
refused-push s (x ∷ xs) line =
    let first = is_some (refusal_in (answer_of s x)) in
    ap (λ (b : Bool). first || b) (refused-push (next s x) xs line)
    ∙ later_or first (refused_along (next s x) xs) (is_some (refusal_in (answer_of (state_after next (next s x) xs) line)))

still : (f m : ℕ) → tally_of f m ≡ tally_of (f + 0) (m + 0)
still f m = same_tally f m (f + 0) (m + 0) (omega arith) (omega arith)

-- a flush more, and what it sends
flushed : (f m sent : ℕ) → one_flush_more (tally_of f m) (min sent (2 ^ 64 - 1)) ≡ tally_of (f + 1) (m + sent)
flushed f m sent =
    let e : told_number (told_number f + 1) ≡ told_number (f + 1) = omega arith in
    let h : told_number (told_number m + min sent (2 ^ 64 - 1)) ≡ told_number (m + sent) = omega arith in
    let both : ℕ → ℕ → Tally = λ a b. record { flushes = a; messages = b } in
    λ j. both (e j) (h j)

tallied : (o : Option Flush) (f m : ℕ) → tally_after (tally_of f m) o ≡ tally_of (f + flushes_in o) (m + messages_in o)
tallied None f m = still f m
tallied (Some sent) f m = flushed f m (length sent.messages)

module _ (dg : Digest) (node : List ℕ) (seed n : ℕ) where
  abbrev lines : List (List ℕ)
  lines = drawn_lines seed node n

  abbrev behind : State
  behind = state_after next (start dg node) lines

  abbrev drawn : List ℕ
  drawn = line_of seed n node

  tally-push : tally_after (tally_along (start dg node) lines) (flushed_by behind drawn) ≡ tally_along (start dg node) (drawn_lines seed node (n + 1))
  tally-push =
      tallied (flushed_by behind drawn) (flushes_along (start dg node) lines) (messages_along (start dg node) lines)
      ∙ same_tally _ _ _ _ (sym (flushes-push (start dg node) lines drawn)) (sym (messages-push (start dg node) lines drawn))
      ∙ ap (λ (l : List (List ℕ)). tally_along (start dg node) l) (sym (drawn-more seed node n))

  tests-more : (f : Resources → Update → ℕ) → tests_along f (start dg node) lines + tests_by f behind drawn ≡ tests_along f (start dg node) (drawn_lines seed node (n + 1))
  tests-more f = sym (tests-push f (start dg node) lines drawn) ∙ ap (λ (l : List (List ℕ)). tests_along f (start dg node) l) (sym (drawn-more seed node n))

  module _ (s : State) (line : List ℕ) (is : s ≡ behind) (same : line ≡ drawn) where
    -- one drawn line more
    pub state-drawn : (now : State) → now ≡ next s line → now ≡ state_after next (start dg node) (drawn_lines seed node (n + 1))
    state-drawn now e = e ∙ ap (next s) same ∙ ap (λ (t : State). next t drawn) is ∙ sym (state_after-push next (start dg node) lines drawn) ∙ ap (λ (l : List (List ℕ)). state_after next (start dg node) l) (sym (drawn-more seed node n))

    pub tally-drawn : (was now : Tally) → was ≡ tally_along (start dg node) lines → now ≡ tally_after was (flushed_by s line) → now ≡ tally_along (start dg node) (drawn_lines seed node (n + 1))
    tally-drawn was now first e =
        e
        ∙ ap (λ (t : Tally). tally_after t (flushed_by s line)) first
        ∙ ap (λ (l : List ℕ). tally_after (tally_along (start dg node) lines) (flushed_by s l)) same
        ∙ ap (λ (t : State). tally_after (tally_along (start dg node) lines) (flushed_by t drawn)) is
        ∙ tally-push

    -- whether a line was refused so far
    pub refused-drawn : (was : Bool) (refusal : Option Refusal) → was ≡ refused_along (start dg node) lines → refusal ≡ refusal_in (answer_of s line) → was || is_some refusal ≡ refused_along (start dg node) (drawn_lines seed node (n + 1))
    refused-drawn was refusal first e =
        ap (λ (o : Option Refusal). was || is_some o) e
        ∙ ap (λ (b : Bool). b || is_some (refusal_in (answer_of s line))) first
        ∙ ap (λ (l : List ℕ). refused_along (start dg node) lines || is_some (refusal_in (answer_of s l))) same
        ∙ ap (λ (t : State). refused_along (start dg node) lines || is_some (refusal_in (answer_of t drawn))) is
        ∙ sym (refused-push (start dg node) lines drawn)
        ∙ ap (λ (l : List (List ℕ)). refused_along (start dg node) l) (sym (drawn-more seed node n))

    tests-of : (f : Resources → Update → ℕ) → tests_along f (start dg node) lines + tests_by f s line ≡ tests_along f (start dg node) (drawn_lines seed node (n + 1))
    tests-of f =
        ap (λ (l : List ℕ). tests_along f (start dg node) lines + tests_by f s l) same
        ∙ ap (λ (t : State). tests_along f (start dg node) lines + tests_by f t drawn) is
        ∙ tests-more f

    pub tests-drawn : (least most : Resources → Update → ℕ) (old mid new : ℕ) → IsTicked (tests_along least (start dg node) lines) (tests_along most (start dg node) lines) old mid → IsTicked (tests_by least s line) (tests_by most s line) mid new
        → IsTicked (tests_along least (start dg node) (drawn_lines seed node (n + 1))) (tests_along most (start dg node) (drawn_lines seed node (n + 1))) old new
    tests-drawn least most old mid new before here =
        let few = tests_along least (start dg node) lines in
        let many = tests_along most (start dg node) lines in
        subst (λ (k : ℕ). IsTicked k (tests_along most (start dg node) (drawn_lines seed node (n + 1))) old new) (tests-of least)
        (subst (λ (k : ℕ). IsTicked (few + tests_by least s line) k old new) (tests-of most)
        (IsTicked-sum few many (tests_by least s line) (tests_by most s line) old mid new before here))

-- the last flush
pub tally-end : (f m sent : ℕ) (was now : Tally) → was ≡ tally_of f m → now ≡ one_flush_more was (min sent (2 ^ 64 - 1)) → now ≡ tally_of (f + 1) (m + sent)
tally-end f m sent was now first e = e ∙ ap (λ (t : Tally). one_flush_more t (min sent (2 ^ 64 - 1))) first ∙ flushed f m sent
