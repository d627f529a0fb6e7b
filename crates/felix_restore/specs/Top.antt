-- What the program means, and what a run of it did.
use Rattle.std.specs.Prelude.{ℕ, List, [], Bool, Option}
use Rattle.fx_base.specs.Streams.{SourceState, SinkState}
use Rattle.fx_names.specs.Digests.{Digest}
use Rattle.fx_program.specs.Answers.{refusal_in}
use Rattle.fx_program.specs.Frame as frame
use Rattle.fx_program.specs.Meanings.{Meaning}
use Rattle.fx_run.specs.declared.status.Status.{Status}
use Rattle.fx_restart_lines.specs.declared.refusal.RestoreRefusal.{RestoreRefusal}
use Rattle.felix_restore.specs.Output.{State, start, answer_of, next, closing}
use Rattle.fx_restart_lines.specs.Refusals.{refused_line}
use Rattle.felix_restore.specs.Restored.{HasRestored}
use Rattle.felix_restore.specs.Words.{usage_line}

-- Of the node that the words name. A line writes nothing but its refusal. Once the closing text was written, what was
-- found is led to the tables of the resources.
abbrev pub meaning : Digest → Meaning (List ℕ) State RestoreRefusal
meaning dg = record {
  usage = usage_line;
  start = start dg;
  behind = next;
  refusal = λ s line. refusal_in (answer_of s line);
  text = λ s line. [];
  refused_line = refused_line;
  closing = closing;
  Closed = HasRestored;
}

-- ---- what was done, by the node that the words name

abbrev pub RanFor : Digest → Option (List ℕ) → SourceState → SourceState → SinkState → SinkState → Bool → Type 0
RanFor dg node source_before source_now before now refused =
    frame.RanFor (meaning dg) node source_before source_now before now refused

abbrev pub StoppedFor : Digest → Option (List ℕ) → SourceState → SourceState → SinkState → SinkState → Type 0
StoppedFor dg node source_before source_now before now =
    frame.StoppedFor (meaning dg) node source_before source_now before now

-- where the source tells what is left and the sink what it holds, the output and the status are the definition's
abbrev pub IsAsDefined : Digest → List ℕ → SourceState → SinkState → SinkState → Status → Type 0
IsAsDefined dg node source before now status = frame.IsAsDefined (meaning dg) (start dg node) source before now status
