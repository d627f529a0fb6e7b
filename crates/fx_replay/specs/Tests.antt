-- How many tests of selectors a line calls for: those of its update or of its batch, where that is accepted.
use Rattle.std.specs.Prelude.{ℕ, List, Result, Ok, Err}
use Rattle.fx_base.specs.Ticks.{IsTicked}
use Rattle.fx_base.specs.declared.counts.Counter.{Counter}
use Rattle.fx_model.specs.declared.resources.Resources.{Resources}
use Rattle.fx_model.specs.declared.resources.Update.{Update}
use Rattle.fx_model.specs.Steps.{along, steps_of}
use Rattle.fx_model.specs.Tests.{least_tests, most_tests}
use Rattle.fx_fields.specs.declared.refusal.Refusal.{Refusal}
use Rattle.fx_lines.specs.declared.commands.Command.{Command}
use Rattle.fx_lines.specs.declared.commands.Command.TheVariants as command
use Rattle.fx_replay.specs.Output.{State, answer_of}

-- An accepted update calls for as many as f says that it does over the resources before it: `least_tests` or `most_tests`. A batch calls
-- for as many as the steps together in which it is handed on. No other line calls for any.
abbrev pub tests_in : (f : Resources → Update → ℕ) → Resources → Result Command Refusal → ℕ
tests_in f R (Ok command.Blank) = 0
tests_in f R (Ok command.Tables) = 0
tests_in f R (Ok (command.Flush limit)) = 0
tests_in f R (Ok (command.Update u)) = f R u
tests_in f R (Ok (command.Batch us)) = along f R (steps_of R us)
tests_in f R (Ok (command.Packet a)) = 0
tests_in f R (Err r) = 0

abbrev pub tests_by : (f : Resources → Update → ℕ) → State → List ℕ → ℕ
tests_by f s line = tests_in f s.resources (answer_of s line)

-- how often a counter ticked, to 2 ^ 64 - 1 at most
abbrev pub ticks_of : Counter → ℕ
ticks_of c = c.ticks

-- from one counter to the next there were as many ticks as an answer calls for tests, at least and at most
abbrev pub HasTested : Resources → Result Command Refusal → (before now : Counter) → Type 0
HasTested R answer before now = IsTicked (tests_in least_tests R answer) (tests_in most_tests R answer) (ticks_of before) (ticks_of now)
