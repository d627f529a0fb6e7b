-- What a sink over bytes in memory shows of itself.
use Rattle.std.specs.Prelude.{ℕ, List, Some}
use Rattle.fx_base.specs.Streams.{SinkState}
use Rattle.fx_base.specs.declared.memory_sink.MemSink.{MemSink}

-- the bytes that it holds
abbrev pub held_bytes : MemSink → List ℕ
held_bytes s = s.held.items

-- how many bytes it may hold
abbrev pub room_of : MemSink → ℕ
room_of s = s.room

abbrev pub sink_state : MemSink → SinkState
sink_state s = record { held = Some (held_bytes s); faults = s.faults }

-- how often it was called, to 2^64 - 1 at most
abbrev pub call_count : MemSink → ℕ
call_count s = s.calls

-- the numbers of the puts that fail, from 1
abbrev pub failing_puts : MemSink → List ℕ
failing_puts s = s.failing.items
