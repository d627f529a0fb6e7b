use Rattle.std.proofs.Common.{◌≡◌, ◌+◌, ◌-◌, ◌^◌, ◌≤◌, ◌++◌, min, length, List, ℕ, None, false}
use Rattle.std.specs.Io.KnownBytes.{Appends}
use Rattle.fx_model.specs.Messages.{flush, differences}
use Rattle.fx_model.specs.Views.{view_of}
use Rattle.fx_replay.specs.Output.{messages_text, message_count}
use Rattle.fx_replay.proofs.sending.send.Given as goal

-- what was written and what is left to write are all messages
abbrev pub invariant-loop-count : goal.invariant-loop-count
invariant-loop-count g l = record {
  output : (piece : List ℕ) × Appends (g.K.Sink.state l.fn.sink).held (g.K.Sink.state l.sink).held piece × (piece ++ messages_text None l.agent.sent (view_of g.R.DigestRule.digest_of l.agent.resources) ≡ messages_text None l.fn.agent.sent (view_of g.R.DigestRule.digest_of l.fn.agent.resources));
  count : min (l.count + length (flush None l.agent.sent (view_of g.R.DigestRule.digest_of l.agent.resources)).messages) (2 ^ 64 - 1) ≡ message_count None l.fn.agent.sent (view_of g.R.DigestRule.digest_of l.fn.agent.resources);
  fits : l.count ≤ 2 ^ 64 - 1;
  later : (g.K.Sink.state l.fn.sink).faults ≤ (g.K.Sink.state l.sink).faults;
  ready : l.agent.failed ≡ false;
  resources : l.agent.resources ≡ l.fn.agent.resources;
}

abbrev pub decreases-loop-count : goal.decreases-loop-count
decreases-loop-count g l = differences l.agent.sent (view_of g.R.DigestRule.digest_of l.agent.resources)
