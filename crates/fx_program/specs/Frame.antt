-- What a run of a program did.
use Rattle.std.specs.Prelude.{◌≡◌, ◌++◌, ℕ, List, Bool, true, Option, Some}
use Rattle.std.specs.Io.KnownBytes.{Appends, IsAtEnd}
use Rattle.fx_base.specs.Streams.{SourceState, SinkState, Gives, AppendsPrefix}
use Rattle.fx_run.specs.declared.status.Status.{Status}
use Rattle.fx_run.specs.Statuses.{ran_status}
use Rattle.fx_program.specs.Asks.{Asks}
use Rattle.fx_program.specs.Meanings.{Meaning, end_of, is_refused, open_output, output_of}

-- From a state on the input was read to its end, and the output is the definition's. The input is all that the source
-- had left, where it tells.
pub record Ran {A S R : Type 0} (m : Meaning A S R) (first : S) (source_before source_now : SourceState) (sink_before sink_now : SinkState) (refused : Bool) : Type 0 where
  pub input : List ℕ
  pub gives : Gives source_before source_now input
  pub end : source_now.ended ≡ true
  pub all : IsAtEnd source_now.left
  pub output : Appends sink_before.held sink_now.held (output_of m first input)
  pub status : refused ≡ is_refused m first input
  pub closed : m.Closed (end_of m first input).kept

-- The run ended early. The output is a prefix of the definition's: for all that was taken once the end was met, else
-- for its whole lines, without what stands behind the last.
pub record Stopped {A S R : Type 0} (m : Meaning A S R) (first : S) (source_before source_now : SourceState) (sink_before sink_now : SinkState) : Type 0 where
  pub taken : List ℕ
  pub gives : Gives source_before source_now taken
  pub output : AppendsPrefix sink_before.held sink_now.held (open_output m first source_now.ended taken)

-- where the source tells what is left and the sink what it holds, the output and the status are the definition's
abbrev pub IsAsDefined : {A S R : Type 0} → Meaning A S R → S → SourceState → SinkState → SinkState → Status → Type 0
IsAsDefined m first source before now status =
    (input held : List ℕ) → source.left ≡ Some input → before.held ≡ Some held
    → (now.held ≡ Some (held ++ output_of m first input)) × (status ≡ ran_status (is_refused m first input))

-- ---- the same of what the words ask for

abbrev pub RanFor : {A S R : Type 0} → Meaning A S R → Option A → SourceState → SourceState → SinkState → SinkState → Bool → Type 0
RanFor m asked source_before source_now before now refused =
    Asks (λ a. Ran m (m.start a) source_before source_now before now refused) asked

abbrev pub StoppedFor : {A S R : Type 0} → Meaning A S R → Option A → SourceState → SourceState → SinkState → SinkState → Type 0
StoppedFor m asked source_before source_now before now =
    Asks (λ a. Stopped m (m.start a) source_before source_now before now) asked

abbrev pub IsAsDefinedFor : {A S R : Type 0} → Meaning A S R → Option A → SourceState → SinkState → SinkState → Status → Type 0
IsAsDefinedFor m asked source before now status =
    Asks (λ a. IsAsDefined m (m.start a) source before now status) asked
