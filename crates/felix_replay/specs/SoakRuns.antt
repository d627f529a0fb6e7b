-- What a soak run did.
use Rattle.std.specs.Prelude.{◌≡◌, ℕ, List, Bool}
use Rattle.std.specs.Io.KnownBytes.{Appends}
use Rattle.fx_base.specs.Streams.{SinkState, AppendsPrefix}
use Rattle.fx_base.specs.Ticks.{IsTicked}
use Rattle.fx_names.specs.Digests.{Digest}
use Rattle.fx_words.specs.declared.words.Soak.{Soak}
use Rattle.felix_replay.specs.Soak.{soak_least, soak_most, soak_output, is_soak_refused}

-- Each line was answered, and behind the last was a flush. This is the line that sums up. The number of ticks is the counter's: from 0 on
-- there were as many as the accepted updates and batches call for tests of selectors, at least and at most.
pub record SumsUp (dg : Digest) (node : List ℕ) (soak : Soak) (line : List ℕ) (refused : Bool) : Type 0 where
  pub ticks : ℕ
  pub output : line ≡ soak_output dg node soak ticks
  pub bounded : IsTicked (soak_least dg node soak) (soak_most dg node soak) 0 ticks
  pub status : refused ≡ is_soak_refused dg node soak

-- The run came to its end, and the line was written, with a number of ticks within the same bounds.
pub record SoakRan (dg : Digest) (node : List ℕ) (soak : Soak) (before now : SinkState) (refused : Bool) : Type 0 where
  pub ticks : ℕ
  pub output : Appends before.held now.held (soak_output dg node soak ticks)
  pub bounded : IsTicked (soak_least dg node soak) (soak_most dg node soak) 0 ticks
  pub status : refused ≡ is_soak_refused dg node soak

-- The run ended early. What was written is a prefix of the line, with a number of ticks within the same bounds.
pub record SoakStopped (dg : Digest) (node : List ℕ) (soak : Soak) (before now : SinkState) : Type 0 where
  pub ticks : ℕ
  pub output : AppendsPrefix before.held now.held (soak_output dg node soak ticks)
  pub bounded : IsTicked (soak_least dg node soak) (soak_most dg node soak) 0 ticks
