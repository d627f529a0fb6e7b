-- What a run counts of its flushes, line by line.
use Rattle.std.specs.Prelude.{ℕ, ◌+◌, ◌-◌, ◌^◌, min, Option, Some, None}
use Rattle.fx_model.specs.Messages.{Flush}
use Rattle.fx_replay.specs.declared.tally.Tally.{Tally}
use Rattle.fx_replay.specs.Output.{count_of}

-- as far as 64 bits tell
abbrev pub told_number : ℕ → ℕ
told_number n = min n (2 ^ 64 - 1)

abbrev pub no_flushes : Tally
no_flushes = record { flushes = 0; messages = 0 }

abbrev pub one_flush_more : Tally → ℕ → Tally
one_flush_more t messages = record { flushes = told_number (t.flushes + 1); messages = told_number (t.messages + messages) }

-- behind a line, by what it flushed
abbrev pub tally_after : Tally → Option Flush → Tally
tally_after t None = t
tally_after t (Some f) = one_flush_more t (count_of f)
