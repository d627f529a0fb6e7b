-- What a run of the program did.
use Rattle.std.specs.Prelude.{ℕ, List, Bool, Option}
use Rattle.fx_base.specs.Streams.{SourceState, SinkState}
use Rattle.fx_names.specs.Digests.{Digest}
use Rattle.fx_run.specs.declared.status.Status.{Status}
use Rattle.fx_program.specs.Frame as frame
use Rattle.felix_services.specs.Output.{meaning, start}

-- ---- of the node that the words name

abbrev pub RanFor : Digest → Option (List ℕ) → SourceState → SourceState → SinkState → SinkState → Bool → Type 0
RanFor dg asked source_before source_now before now refused =
    frame.RanFor (meaning dg) asked source_before source_now before now refused

abbrev pub StoppedFor : Digest → Option (List ℕ) → SourceState → SourceState → SinkState → SinkState → Type 0
StoppedFor dg asked source_before source_now before now =
    frame.StoppedFor (meaning dg) asked source_before source_now before now

-- ---- of a node

-- where the source tells what is left and the sink what it holds, the output and the status are the definition's
abbrev pub IsAsDefined : Digest → List ℕ → SourceState → SinkState → SinkState → Status → Type 0
IsAsDefined dg node source before now status = frame.IsAsDefined (meaning dg) (start dg node) source before now status
