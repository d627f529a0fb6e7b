-- A source that doesn't tell what is left.
use Rattle.std.specs.Prelude.{ℕ, Bool, None}
use Rattle.fx_base.specs.Streams.{SourceState}

abbrev pub silent_source : ℕ → Bool → ℕ → SourceState
silent_source given ended faults = record { left = None; given = given; ended = ended; faults = faults }
