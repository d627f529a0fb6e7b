use Rattle.fx_run.proofs.Writings.{only_memory}
use Rattle.fx_replay.proofs.replay.Replay.answer_quietly.Goals as goal

pub want_of_memory-requires : goal.want_of_memory-requires
want_of_memory-requires g c = only_memory _ c.in-Err.ensures.writes.cause
