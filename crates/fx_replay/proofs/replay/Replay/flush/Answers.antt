use Rattle.std.proofs.Common.{◌≡◌, ℕ, is_some, ◌∙◌, ap}
use Rattle.std.proofs.lemmas.Result.{err_from_is_err_and}
use Rattle.fx_model.specs.Messages.{next_message}
use Rattle.fx_model.specs.Views.{view_of}
use Rattle.fx_print.specs.Texts.{flushed_line}
use Rattle.fx_replay.specs.Standing.{state_of}
use Rattle.fx_replay.specs.Output.{messages_text, message_count, leaves_more}
use Rattle.fx_replay.specs.Tallies.{one_flush_more}
use Rattle.fx_replay.proofs.PortionLemmas.{pending_is}
use Rattle.fx_replay.proofs.SendingLemmas.{on_ok_always}
use Rattle.fx_run.proofs.Writings.{Writes-prefix, Writes-then}
use Rattle.fx_replay.proofs.replay.Replay.flush.Goals as goal

pub returns-in_err-count-clause-writes : goal.returns-in_err-count-clause-writes
returns-in_err-count-clause-writes g c =
    let p = err_from_is_err_and c.from_residual.result c.from_residual.ensures.1 in
    let s = c.in_err-count.ensures.writes in
    let limit = c.args.limit in
    let agent = c.args.self.now.agent in
    let wanted = view_of g.R.DigestRule.digest_of agent.resources in
    rw (p.1, p.2) (Writes-prefix (g.K.Sink.state c.args.sink.now) (g.K.Sink.state c.send_up_to.new.sink) (messages_text limit agent.sent wanted) (flushed_line (message_count limit agent.sent wanted) (leaves_more limit agent.sent wanted)) _ s.prefix s.later s.cause)

pub returns-clause-writes : goal.returns-clause-writes
returns-clause-writes g c =
    let s = c.in_ok-count.ensures in
    let dg = g.R.DigestRule.digest_of in
    let limit = c.args.limit in
    let agent = c.args.self.now.agent in
    let now = c.send_up_to.new.agent in
    let wanted = view_of dg agent.resources in
    let more : c.pending-more.result ≡ leaves_more limit agent.sent wanted =
    pending_is c.pending-more.result now.failed now.sent (view_of dg now.resources) c.pending-more.ensures.told s.ready
    ∙ (λ j. is_some (next_message (s.ends j) (view_of dg (s.resources j)))) in
    let then = rw (s.count, more) at c.put_count.ensures.writes in
    Writes-then (g.K.Sink.state c.args.sink.now) (g.K.Sink.state c.send_up_to.new.sink) (g.K.Sink.state c.put_count.new.sink) (messages_text limit agent.sent wanted) (flushed_line (message_count limit agent.sent wanted) (leaves_more limit agent.sent wanted)) _ s.writes.whole s.writes.later then

pub returns-clause-state : goal.returns-clause-state
returns-clause-state g c =
    let was = c.args.self.now in
    let s = c.in_ok-count.ensures in
    on_ok_always c.put_count.result
    (λ j. record (state_of g.R.DigestRule.digest_of was.agent) { resources = s.resources j; sent = s.ends j })

pub returns-clause-ready : goal.returns-clause-ready
returns-clause-ready g c = on_ok_always c.put_count.result c.in_ok-count.ensures.ready

pub returns-clause-tally : goal.returns-clause-tally
returns-clause-tally g c =
    let was = c.args.self.now in
    on_ok_always c.put_count.result (c.add.ensures ∙ ap (λ (n : ℕ). one_flush_more was.tally n) c.in_ok-count.ensures.count)
