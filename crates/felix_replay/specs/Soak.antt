-- A soak run: lines that are drawn in the place of an input, and a flush behind the last. What is told of it are numbers alone.
use Rattle.std.specs.Prelude.{ℕ, zero, suc, ◌+◌, List, [], ◌∷◌, ◌++◌, length, Bool, false, ◌||◌, Option, Some, None, is_some}
use Rattle.fx_names.specs.Digests.{Digest}
use Rattle.fx_model.specs.Messages.{Flush}
use Rattle.fx_model.specs.Tests.{least_tests, most_tests}
use Rattle.fx_model.specs.declared.resources.Resources.{Resources}
use Rattle.fx_model.specs.declared.resources.Update.{Update}
use Rattle.fx_gen.specs.Generator.{line_of}
use Rattle.fx_print.specs.Texts.{soak_line}
use Rattle.fx_words.specs.declared.words.Soak.{Soak}
use Rattle.fx_replay.specs.declared.tally.Tally.{Tally}
use Rattle.fx_run.specs.Run.{state_after}
use Rattle.fx_program.specs.Answers.{refusal_in}
use Rattle.fx_replay.specs.Output.{State, answer_of, start, next, flush_of, flushed_by}
use Rattle.fx_replay.specs.Tallies.{told_number}
use Rattle.fx_replay.specs.Tests.{tests_by}

-- the lines below an index
unfoldable pub drawn_lines : ℕ → List ℕ → ℕ → List (List ℕ)
drawn_lines seed node zero = []
drawn_lines seed node (suc n) = drawn_lines seed node n ++ line_of seed n node ∷ []

-- how many flushes there are in a line, and how many messages it sends
abbrev pub flushes_in : Option Flush → ℕ
flushes_in None = 0
flushes_in (Some f) = 1

abbrev pub messages_in : Option Flush → ℕ
messages_in None = 0
messages_in (Some f) = length f.messages

unfoldable pub flushes_along : State → List (List ℕ) → ℕ
flushes_along s [] = 0
flushes_along s (line ∷ lines) = flushes_in (flushed_by s line) + flushes_along (next s line) lines

unfoldable pub messages_along : State → List (List ℕ) → ℕ
messages_along s [] = 0
messages_along s (line ∷ lines) = messages_in (flushed_by s line) + messages_along (next s line) lines

-- how many tests of selectors the accepted updates and batches of a run call for, where each update calls for as many as f says
unfoldable pub tests_along : (f : Resources → Update → ℕ) → State → List (List ℕ) → ℕ
tests_along f s [] = 0
tests_along f s (line ∷ lines) = tests_by f s line + tests_along f (next s line) lines

-- behind the last line
abbrev pub soak_end : Digest → List ℕ → Soak → State
soak_end dg node soak = state_after next (start dg node) (drawn_lines soak.seed node soak.count)

-- with the last flush
abbrev pub soak_flushes : Digest → List ℕ → Soak → ℕ
soak_flushes dg node soak = flushes_along (start dg node) (drawn_lines soak.seed node soak.count) + 1

abbrev pub soak_messages : Digest → List ℕ → Soak → ℕ
soak_messages dg node soak =
    messages_along (start dg node) (drawn_lines soak.seed node soak.count) + length (flush_of None (soak_end dg node soak)).messages

-- those of a soak run, at least and at most; the last flush calls for none
abbrev pub soak_least : Digest → List ℕ → Soak → ℕ
soak_least dg node soak = tests_along least_tests (start dg node) (drawn_lines soak.seed node soak.count)

abbrev pub soak_most : Digest → List ℕ → Soak → ℕ
soak_most dg node soak = tests_along most_tests (start dg node) (drawn_lines soak.seed node soak.count)

-- what is written, with the number of ticks
abbrev pub soak_output : Digest → List ℕ → Soak → ℕ → List ℕ
soak_output dg node soak ticks =
    soak_line soak.seed soak.count (told_number (soak_flushes dg node soak)) (told_number (soak_messages dg node soak)) ticks

-- whether one of the lines is refused
unfoldable pub refused_along : State → List (List ℕ) → Bool
refused_along s [] = false
refused_along s (line ∷ lines) = is_some (refusal_in (answer_of s line)) || refused_along (next s line) lines

abbrev pub is_soak_refused : Digest → List ℕ → Soak → Bool
is_soak_refused dg node soak = refused_along (start dg node) (drawn_lines soak.seed node soak.count)

-- ---- what is counted line by line

-- so many flushes and messages
abbrev pub tally_of : ℕ → ℕ → Tally
tally_of flushes messages = record { flushes = told_number flushes; messages = told_number messages }

abbrev pub tally_along : State → List (List ℕ) → Tally
tally_along s lines = tally_of (flushes_along s lines) (messages_along s lines)
