-- The tests that a soak run calls for at least are never more than those at most, so some number of ticks lies between
-- them. A run that ended before it had counted tells that one.
use Rattle.std.specs.Prelude.{◌≤◌, ℕ, List, [], ◌∷◌}
use Rattle.fx_base.specs.Ticks.{ticked, IsTicked}
use Rattle.fx_model.specs.Tests.{least_tests, most_tests}
use Rattle.fx_names.specs.Digests.{Digest}
use Rattle.fx_replay.specs.Output.{State, start, next, answer_of}
use Rattle.fx_replay.specs.Tests.{tests_by}
use Rattle.fx_replay.proofs.TestBounds.{answer_below, as_many_as_most, none_below, sums_below}
use Rattle.fx_words.specs.declared.words.Soak.{Soak}
use Rattle.felix_replay.specs.Soak.{drawn_lines, tests_along, soak_least, soak_most}

along_below : (s : State) (lines : List (List ℕ)) → tests_along least_tests s lines ≤ tests_along most_tests s lines
unfolding tests_along
along_below s [] = none_below
along_below s (line ∷ lines) =
    sums_below (tests_by least_tests s line) (tests_by most_tests s line) (tests_along least_tests (next s line) lines) (tests_along most_tests (next s line) lines)
    (answer_below s.resources (answer_of s line)) (along_below (next s line) lines)

-- as many ticks as there may be at most
abbrev pub most_ticks : Digest → List ℕ → Soak → ℕ
most_ticks dg node soak = ticked (soak_most dg node soak) 0

pub most_ticks_are_within : (dg : Digest) (node : List ℕ) (soak : Soak) → IsTicked (soak_least dg node soak) (soak_most dg node soak) 0 (most_ticks dg node soak)
most_ticks_are_within dg node soak =
    as_many_as_most (soak_least dg node soak) (soak_most dg node soak) (along_below (start dg node) (drawn_lines soak.seed node soak.count))
