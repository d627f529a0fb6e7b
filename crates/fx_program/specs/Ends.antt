-- What is known of a run of a program over lines: the laws of its task.
use Rattle.std.specs.Prelude.{◌≡◌, ℕ, List, [], ◌++◌, Bool, Option, Some, None}
use Rattle.std.proofs.Common.{sym, ◌∙◌, ap, subst}
use Rattle.std.proofs.lemmas.List.{append-nil}
use Rattle.std.specs.Io.KnownBytes.{Appends, Consumes, IsAtEnd}
use Rattle.fx_base.specs.Streams.{SourceState, SinkState}
use Rattle.fx_base.proofs.Compose.{AppendsPrefix-none, Gives-none}
use Rattle.fx_run.specs.Statuses.{ran_status}
use Rattle.fx_program.specs.Meanings.{Meaning, output_of, is_refused}
use Rattle.fx_program.specs.Frame.{Ran, Stopped, IsAsDefined}

-- nothing was done yet
pub nothing_done : {A S R : Type 0} (m : Meaning A S R) (a : A) (source : SourceState) (sink : SinkState) → Stopped m (m.start a) source source sink sink
nothing_done m a source sink = record { taken = []; gives = Gives-none source; output = AppendsPrefix-none sink.held _ }

all_taken : (left : Option (List ℕ)) (taken input : List ℕ) → Consumes (Some input) left taken → IsAtEnd left → taken ≡ input
all_taken None taken input p q = absurd p
all_taken (Some rest) taken input p q = sym (p ∙ ap (λ (l : List ℕ). taken ++ l) q ∙ append-nil taken)

all_held : (now : Option (List ℕ)) (held out : List ℕ) → Appends (Some held) now out → now ≡ Some (held ++ out)
all_held None held out p = absurd p
all_held (Some bytes) held out p = ap Some p

-- a run to the end is as defined, where the source tells what is left and the sink what it holds
pub ran_defined : {A S R : Type 0} (m : Meaning A S R) (a : A) (source_before source_now : SourceState) (sink_before sink_now : SinkState) (refused : Bool)
    → Ran m (m.start a) source_before source_now sink_before sink_now refused → IsAsDefined m (m.start a) source_before sink_before sink_now (ran_status refused)
ran_defined m a source_before source_now sink_before sink_now refused was = λ input held left kept.
    let same = all_taken source_now.left was.input input (subst (λ (l : Option (List ℕ)). Consumes l source_now.left was.input) left was.gives.known) was.all in (
      subst (λ (x : List ℕ). sink_now.held ≡ Some (held ++ output_of m (m.start a) x)) same
          (all_held sink_now.held held _ (subst (λ (h : Option (List ℕ)). Appends h sink_now.held (output_of m (m.start a) was.input)) kept was.output)),
      ap ran_status was.status ∙ ap (λ (x : List ℕ). ran_status (is_refused m (m.start a) x)) same,
    )
