-- What a run of the program did.
use Rattle.std.specs.Prelude.{◌≡◌, ℕ, List, Bool, Option, Some, None}
use Rattle.fx_base.specs.Streams.{SourceState, SinkState}
use Rattle.fx_run.specs.declared.status.Status.{Status}
use Rattle.fx_run.specs.declared.status.Status.TheVariants.{Done, Refused, Usage, ReadFault, WriteFault, Memory, InputTooLong}
use Rattle.fx_names.specs.Digests.{Digest}
use Rattle.fx_program.specs.Asks.{Asks}
use Rattle.fx_program.specs.Frame as frame
use Rattle.fx_words.specs.declared.words.Asked.{Asked}
use Rattle.fx_words.specs.declared.words.Soak.{Soak}
use Rattle.fx_replay.specs.Output.{meaning, start}
use Rattle.felix_replay.specs.SoakRuns.{SoakRan, SoakStopped}

-- ---- what was done, by what the words ask for

abbrev pub RanBy : Digest → List ℕ → Option Soak → SourceState → SourceState → SinkState → SinkState → Bool → Type 0
RanBy dg node None source_before source_now before now refused =
    frame.Ran (meaning dg) (start dg node) source_before source_now before now refused
RanBy dg node (Some soak) source_before source_now before now refused =
    (source_now ≡ source_before) × SoakRan dg node soak before now refused

abbrev pub RanFor : Digest → Option Asked → SourceState → SourceState → SinkState → SinkState → Bool → Type 0
RanFor dg asked source_before source_now before now refused =
    Asks (λ (a : Asked). RanBy dg a.node a.soak source_before source_now before now refused) asked

abbrev pub StoppedBy : Digest → List ℕ → Option Soak → SourceState → SourceState → SinkState → SinkState → Type 0
StoppedBy dg node None source_before source_now before now =
    frame.Stopped (meaning dg) (start dg node) source_before source_now before now
StoppedBy dg node (Some soak) source_before source_now before now =
    (source_now ≡ source_before) × SoakStopped dg node soak before now

abbrev pub StoppedFor : Digest → Option Asked → SourceState → SourceState → SinkState → SinkState → Type 0
StoppedFor dg asked source_before source_now before now =
    Asks (λ (a : Asked). StoppedBy dg a.node a.soak source_before source_now before now) asked

-- ---- statuses

-- how a soak run may end: it has no input that a read may fail on, or that may be too long
abbrev pub EndsSoak : Status → Type 0
EndsSoak Done = Unit {0}
EndsSoak Refused = Unit {0}
EndsSoak Usage = ⊥
EndsSoak ReadFault = ⊥
EndsSoak WriteFault = Unit {0}
EndsSoak Memory = Unit {0}
EndsSoak InputTooLong = ⊥

-- where the source tells what is left and the sink what it holds, the output and the status are the definition's
abbrev pub IsAsDefined : Digest → List ℕ → SourceState → SinkState → SinkState → Status → Type 0
IsAsDefined dg node source before now status = frame.IsAsDefined (meaning dg) (start dg node) source before now status

-- the same of a replay; a soak run has no input
abbrev pub IsDefinedBy : Digest → List ℕ → Option Soak → SourceState → SinkState → SinkState → Status → Type 0
IsDefinedBy dg node None source before now status = IsAsDefined dg node source before now status
IsDefinedBy dg node (Some soak) source before now status = Unit {0}
