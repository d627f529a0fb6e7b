use Rattle.std.proofs.Common.{◌≡◌, ◌+◌, ◌-◌, ◌≤◌, ◌++◌, length, List, ℕ, Some, false}
use Rattle.std.specs.Io.KnownBytes.{Appends}
use Rattle.fx_model.specs.Messages.{flush}
use Rattle.fx_model.specs.Views.{view_of}
use Rattle.fx_replay.specs.Output.{messages_text}
use Rattle.fx_replay.proofs.sending.send_some.Given as goal

-- what was written and what may still be written are all messages, and both end at one view
abbrev pub invariant-loop-left : goal.invariant-loop-left
invariant-loop-left g l = record {
  output : (piece : List ℕ) × Appends (g.K.Sink.state l.fn.sink).held (g.K.Sink.state l.sink).held piece × (piece ++ messages_text (Some l.left) l.agent.sent (view_of g.R.DigestRule.digest_of l.agent.resources) ≡ messages_text (Some l.limit) l.fn.agent.sent (view_of g.R.DigestRule.digest_of l.fn.agent.resources));
  count : (l.limit - l.left) + length (flush (Some l.left) l.agent.sent (view_of g.R.DigestRule.digest_of l.agent.resources)).messages ≡ length (flush (Some l.limit) l.fn.agent.sent (view_of g.R.DigestRule.digest_of l.fn.agent.resources)).messages;
  ends : (flush (Some l.left) l.agent.sent (view_of g.R.DigestRule.digest_of l.agent.resources)).ends ≡ (flush (Some l.limit) l.fn.agent.sent (view_of g.R.DigestRule.digest_of l.fn.agent.resources)).ends;
  fits : l.left ≤ l.limit;
  later : (g.K.Sink.state l.fn.sink).faults ≤ (g.K.Sink.state l.sink).faults;
  ready : l.agent.failed ≡ false;
  resources : l.agent.resources ≡ l.fn.agent.resources;
}

abbrev pub decreases-loop-left : goal.decreases-loop-left
decreases-loop-left g l = l.left
