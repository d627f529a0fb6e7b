-- The tests of selectors that an answer calls for at least are never more than those at most.
use Rattle.std.proofs.Common.{◌≤◌, ◌+◌, ℕ, List, [], ◌∷◌, Result, Ok, Err, refl, arith}
use Rattle.fx_base.specs.Ticks.{ticked, IsTicked}
use Rattle.fx_fields.specs.declared.refusal.Refusal.{Refusal}
use Rattle.fx_lines.specs.declared.commands.Command.{Command}
use Rattle.fx_lines.specs.declared.commands.Command.TheVariants as command
use Rattle.fx_model.specs.declared.resources.Resources.{Resources}
use Rattle.fx_model.specs.declared.resources.Update.{Update}
use Rattle.fx_model.specs.Resources.{after}
use Rattle.fx_model.specs.Steps.{along, steps_of}
use Rattle.fx_model.specs.Tests.{least_tests, most_tests}
use Rattle.fx_model.proofs.TestBounds.{least_below_most}
use Rattle.fx_replay.specs.Tests.{tests_in}

pub none_below : 0 ≤ 0
none_below = omega arith

pub sums_below : (a b c d : ℕ) → a ≤ b → c ≤ d → a + c ≤ b + d
sums_below a b c d h k = omega (arith, h, k)

-- updates that are made in turn
steps_below : (R : Resources) (us : List Update) → along least_tests R us ≤ along most_tests R us
steps_below R [] = omega arith
steps_below R (u ∷ us) =
    sums_below (least_tests R u) (most_tests R u) (along least_tests (after R u) us) (along most_tests (after R u) us) (least_below_most R u) (steps_below (after R u) us)

-- one answer
pub answer_below : (R : Resources) (answer : Result Command Refusal) → tests_in least_tests R answer ≤ tests_in most_tests R answer
answer_below R (Ok command.Blank) = omega arith
answer_below R (Ok command.Tables) = omega arith
answer_below R (Ok (command.Flush limit)) = omega arith
answer_below R (Ok (command.Update u)) = least_below_most R u
answer_below R (Ok (command.Batch us)) = steps_below R (steps_of R us)
answer_below R (Ok (command.Packet a)) = omega arith
answer_below R (Err r) = omega arith

pub as_many_as_most : (least most : ℕ) → least ≤ most → IsTicked least most 0 (ticked most 0)
as_many_as_most least most h = record { count = most; number = refl; enough = h; few = omega arith }
