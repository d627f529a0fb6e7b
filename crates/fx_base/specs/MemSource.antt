-- What a source over bytes in memory shows of itself.
use Rattle.std.specs.Prelude.{ℕ, List, Some, drop, length, min}
use Rattle.fx_base.specs.Streams.{SourceState}
use Rattle.fx_base.specs.declared.memory_source.SureSource.{SureSource}
use Rattle.fx_base.specs.declared.memory_source.MemSource.{MemSource}

-- ---- of a source that never fails
abbrev pub sure_bytes_left : SureSource → List ℕ
sure_bytes_left s = drop s.at s.bytes.items

abbrev pub sure_state : SureSource → SourceState
sure_state s = record { left = Some (sure_bytes_left s); given = s.at; ended = s.ended; faults = 0 }

-- how many bytes a call gives at most
abbrev pub sure_piece : SureSource → ℕ
sure_piece s = s.piece

-- how many bytes a call gives for a buffer of this length, unless it fails
abbrev pub given_by : SureSource → ℕ → ℕ
given_by s room = min (min (length (sure_bytes_left s)) room) (sure_piece s)

-- ---- of a source whose failures are listed
abbrev pub source_state : MemSource → SourceState
source_state s = record (sure_state s.inner) { faults = s.faults }

abbrev pub piece_of : MemSource → ℕ
piece_of s = sure_piece s.inner

-- how often it was called, to 2^64 - 1 at most
abbrev pub call_count : MemSource → ℕ
call_count s = s.calls

-- the numbers of the calls that fail, from 1
abbrev pub failing_calls : MemSource → List ℕ
failing_calls s = s.failing.items
