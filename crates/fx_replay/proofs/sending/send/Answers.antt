use Rattle.std.proofs.Common.{None, ◌≡◌, ◌++◌, length, List, ℕ, sym, ◌∙◌, ap, arith, append_assoc, true, false, is_some}
use Rattle.std.proofs.lemmas.Result.{err_from_is_err_and}
use Rattle.fx_base.proofs.Compose.{Appends-more}
use Rattle.fx_model.specs.declared.resources.Resources.{Resources}
use Rattle.fx_model.specs.Messages.{flush, step, next_message, differences}
use Rattle.fx_model.specs.Views.{view_of}
use Rattle.fx_replay.specs.Output.{messages_text, first_text}
use Rattle.fx_run.proofs.Writings.{Writes-stopped}
use Rattle.fx_replay.proofs.SendingLemmas.{messages_step, messages_end, reached, none_left, one_fewer, nearer, stays, nothing_told}
use Rattle.fx_replay.proofs.sending.send.Goals as goal

pub loop-count-smaller : goal.loop-count-smaller
loop-count-smaller g c =
    let dg = g.R.DigestRule.digest_of in
    let s = c.in_ok-send_next.ensures in
    let sent = c.loop-count.agent.sent in
    let w = view_of dg c.loop-count.agent.resources in
    let there : is_some (next_message sent w) ≡ true = sym s.found ∙ c.if-branch.true in
    let after : differences c.send_next.new.agent.sent (view_of dg c.send_next.new.agent.resources) ≡ differences (step sent w) w = λ j. differences (s.step j) (view_of dg (s.resources j)) in
    omega (arith, nearer sent w there, after)

pub loop-count-preserved : goal.loop-count-preserved
loop-count-preserved g c =
    let dg = g.R.DigestRule.digest_of in
    let i = c.loop-count.invariant in
    let s = c.in_ok-send_next.ensures in
    let sent = c.loop-count.agent.sent in
    let w = view_of dg c.loop-count.agent.resources in
    let there : is_some (next_message sent w) ≡ true = sym s.found ∙ c.if-branch.true in
    let first = first_text (next_message sent w) in
    let left : length (flush None c.send_next.new.agent.sent (view_of dg c.send_next.new.agent.resources)).messages ≡ length (flush None (step sent w) w).messages = λ j. length (flush None (s.step j) (view_of dg (s.resources j))).messages in
    record {
      output = (
        i.output.0 ++ first,
        Appends-more _ _ _ i.output.0 first i.output.1 s.writes.whole,
        append_assoc i.output.0 first _
            ∙ (λ j. i.output.0 ++ (first ++ messages_text None (s.step j) (view_of dg (s.resources j))))
            ∙ ap (λ (l : List ℕ). i.output.0 ++ l) (sym (messages_step sent w))
            ∙ i.output.2,
      );
      count = omega (arith, one_fewer sent w there, left, c.saturating_add-count.ensures, i.count);
      fits = omega (arith, c.saturating_add-count.ensures);
      later = omega (arith, s.writes.later, i.later);
      ready = s.ready;
      resources = s.resources ∙ i.resources;
    }

pub returns-in_err-send_next-clause-writes : goal.returns-in_err-send_next-clause-writes
returns-in_err-send_next-clause-writes g c =
    let dg = g.R.DigestRule.digest_of in
    let p = err_from_is_err_and c.from_residual.result c.from_residual.ensures.1 in
    let i = c.loop-count.invariant in
    let s = c.in_err-send_next.ensures.writes in
    let sent = c.loop-count.agent.sent in
    let w = view_of dg c.loop-count.agent.resources in
    let all = c.args.agent.now in
    let first = first_text (next_message sent w) in
    let whole : i.output.0 ++ (first ++ messages_text None (step sent w) w) ≡ messages_text None all.sent (view_of dg all.resources) =
    ap (λ (l : List ℕ). i.output.0 ++ l) (sym (messages_step sent w)) ∙ i.output.2 in
    rw (p.1, p.2, ← whole) (Writes-stopped (g.K.Sink.state c.args.sink.now) (g.K.Sink.state c.loop-count.sink) _ i.output.0 first (messages_text None (step sent w) w) _ i.output.1 i.later s.prefix s.later s.cause)

pub returns-clause-count : goal.returns-clause-count
returns-clause-count g c =
    let s = c.in_ok-send_next.ensures in
    let sent = c.loop-count.agent.sent in
    let w = view_of g.R.DigestRule.digest_of c.loop-count.agent.resources in
    let none : is_some (next_message sent w) ≡ false = sym s.found ∙ c.if-branch.false in
    omega (arith, none_left sent w none, c.loop-count.invariant.count, c.loop-count.invariant.fits)

pub returns-clause-reached : goal.returns-clause-reached
returns-clause-reached g c =
    let dg = g.R.DigestRule.digest_of in
    let s = c.in_ok-send_next.ensures in
    let sent = c.loop-count.agent.sent in
    let w = view_of dg c.loop-count.agent.resources in
    let none : is_some (next_message sent w) ≡ false = sym s.found ∙ c.if-branch.false in
    s.step ∙ stays sent w none ∙ reached sent w none ∙ ap (λ (R : Resources). view_of dg R) c.loop-count.invariant.resources

pub returns-clause-resources : goal.returns-clause-resources
returns-clause-resources g c = c.in_ok-send_next.ensures.resources ∙ c.loop-count.invariant.resources

pub returns-clause-writes : goal.returns-clause-writes
returns-clause-writes g c =
    let dg = g.R.DigestRule.digest_of in
    let i = c.loop-count.invariant in
    let s = c.in_ok-send_next.ensures in
    let sent = c.loop-count.agent.sent in
    let w = view_of dg c.loop-count.agent.resources in
    let all = c.args.agent.now in
    let none : is_some (next_message sent w) ≡ false = sym s.found ∙ c.if-branch.false in
    let whole : i.output.0 ++ first_text (next_message sent w) ≡ messages_text None all.sent (view_of dg all.resources) =
    ap (λ (l : List ℕ). i.output.0 ++ l) (nothing_told sent w none ∙ sym (messages_end sent w none)) ∙ i.output.2 in
    record {
      whole = rw (← whole) (Appends-more _ _ _ i.output.0 (first_text (next_message sent w)) i.output.1 s.writes.whole);
      prefix = tt;
      later = omega (arith, s.writes.later, i.later);
      cause = tt;
    }
