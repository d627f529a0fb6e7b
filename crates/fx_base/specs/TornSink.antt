-- What a sink over bytes in memory shows of itself, one put of which is torn.
use Rattle.std.specs.Prelude.{◌≡◌, ◌+◌, ◌-◌, ℕ, min, List, Some, length}
use Rattle.fx_base.specs.Streams.{SinkState}
use Rattle.fx_base.specs.declared.torn_sink.TornSink.{TornSink}

-- the bytes that it holds
abbrev pub held_bytes : TornSink → List ℕ
held_bytes s = s.held.items

-- how many bytes it may hold
abbrev pub room_of : TornSink → ℕ
room_of s = s.room

abbrev pub sink_state : TornSink → SinkState
sink_state s = record { held = Some (held_bytes s); faults = s.faults }

-- how often it was called, to 2^64 - 1 at most
abbrev pub call_count : TornSink → ℕ
call_count s = s.calls

-- the number of the put that is torn, from 1, and how many bytes it keeps at most
abbrev pub torn_put : TornSink → ℕ
torn_put s = s.at

abbrev pub kept_bytes : TornSink → ℕ
kept_bytes s = s.keep

-- the next put is the torn one
abbrev pub IsTornNext : TornSink → Type 0
IsTornNext s = call_count s + 1 ≡ torn_put s

-- how many bytes the torn put may keep
abbrev pub torn_room : TornSink → ℕ
torn_room s = min (kept_bytes s) (room_of s - length (held_bytes s))
