-- What is known of what the words ask for: the laws of its task.
use Rattle.std.specs.Prelude.{◌≡◌, ℕ, List, Bool, false, Option, Some, None, refl}
use Rattle.fx_base.specs.Streams.{SourceState, SinkState}
use Rattle.fx_base.specs.declared.counts.Counter.{Counter}
use Rattle.fx_base.proofs.Compose.{AppendsPrefix-none}
use Rattle.fx_agent.specs.States.{AgentState}
use Rattle.fx_names.specs.Digests.{Digest}
use Rattle.fx_program.specs.Ends as ends
use Rattle.fx_run.specs.Statuses.{ran_status}
use Rattle.fx_words.specs.declared.words.Asked.{Asked}
use Rattle.fx_words.specs.declared.words.Soak.{Soak}
use Rattle.fx_replay.specs.declared.tally.Tally.{Tally}
use Rattle.fx_replay.specs.Output.{meaning, start}
use Rattle.fx_replay.specs.Standing.{state_of}
use Rattle.fx_replay.specs.Tallies.{no_flushes}
use Rattle.fx_replay.specs.Tests.{ticks_of}
use Rattle.felix_replay.specs.Top.{IsDefinedBy, RanBy, StoppedBy}
use Rattle.felix_replay.specs.SoakBounds.{most_ticks, most_ticks_are_within}

-- a replay for a node, before its first line
pub record IsBegun (dg : Digest) (node : List ℕ) (agent : AgentState) (counted : Tally) (counter : Counter) : Type 0 where
  pub state : state_of dg agent ≡ start dg node
  pub ready : agent.failed ≡ false
  pub tally : counted ≡ no_flushes
  pub ticks : ticks_of counter ≡ 0

pub defined : (dg : Digest) (a : Asked) (source_before source_now : SourceState) (sink_before sink_now : SinkState) (refused : Bool)
    → RanBy dg a.node a.soak source_before source_now sink_before sink_now refused → IsDefinedBy dg a.node a.soak source_before sink_before sink_now (ran_status refused)
defined dg a source_before source_now sink_before sink_now refused = by_soak a.soak
  where
    by_soak : (soak : Option Soak) → RanBy dg a.node soak source_before source_now sink_before sink_now refused → IsDefinedBy dg a.node soak source_before sink_before sink_now (ran_status refused)
    by_soak None was = ends.ran_defined (meaning dg) (record { node = a.node; soak = None }) source_before source_now sink_before sink_now refused was
    by_soak (Some soak) was = tt

pub nothing : (dg : Digest) (a : Asked) (source : SourceState) (sink : SinkState) → StoppedBy dg a.node a.soak source source sink sink
nothing dg a source sink = by_soak a.soak
  where
    by_soak : (soak : Option Soak) → StoppedBy dg a.node soak source source sink sink
    by_soak None = ends.nothing_done (meaning dg) (record { node = a.node; soak = None }) source sink
    by_soak (Some soak) = (
      refl,
      record {
        ticks = most_ticks dg a.node soak;
        output = AppendsPrefix-none sink.held _;
        bounded = most_ticks_are_within dg a.node soak;
      },
    )
