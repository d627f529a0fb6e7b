use Rattle.std.proofs.Common.{◌≡◌, ◌+◌, ◌<◌, ◌++◌, List, [], ℕ, Some, sym, ◌∙◌, ap, arith, append_assoc, true, false, is_some, refl}
use Rattle.std.proofs.lemmas.Result.{err_from_is_err_and}
use Rattle.fx_base.proofs.Compose.{Appends-more, Appends-none}
use Rattle.fx_model.specs.declared.resources.Resources.{Resources}
use Rattle.fx_model.specs.Views.{view_of}
use Rattle.fx_replay.specs.Output.{messages_text, first_text}
use Rattle.fx_replay.specs.Portions.{next_within}
use Rattle.fx_run.proofs.Writings.{Writes-stopped}
use Rattle.fx_replay.proofs.PortionLemmas.{allowed, portion_text, portion_length, portion_ends, portion_silent, portion_empty, portion_stays, first_then}
use Rattle.fx_replay.proofs.sending.send_some.Goals as goal

pub loop-left-init : goal.loop-left-init
loop-left-init g c = record {
  output = ([], Appends-none (g.K.Sink.state c.args.sink.now).held, refl);
  count = omega arith;
  ends = refl;
  fits = omega arith;
  later = omega arith;
  ready = c.requires.ready;
  resources = refl;
}

pub loop-left-smaller : goal.loop-left-smaller
loop-left-smaller g c =
    let s = c.in_ok-send_within.ensures in
    let left = c.loop-left.left in
    let sent = c.loop-left.agent.sent in
    let w = view_of g.R.DigestRule.digest_of c.loop-left.agent.resources in
    let there : is_some (next_within left sent w) ≡ true = sym s.found ∙ c.if-branch.true in
    omega (arith, allowed left sent w there, c.saturating_sub-left.ensures)

pub loop-left-preserved : goal.loop-left-preserved
loop-left-preserved g c =
    let dg = g.R.DigestRule.digest_of in
    let i = c.loop-left.invariant in
    let s = c.in_ok-send_within.ensures in
    let left = c.loop-left.left in
    let sent = c.loop-left.agent.sent in
    let w = view_of dg c.loop-left.agent.resources in
    let there : is_some (next_within left sent w) ≡ true = sym s.found ∙ c.if-branch.true in
    let more : 0 < left = allowed left sent w there in
    let rest = c.saturating_sub-left.result in
    let fewer : rest + 1 ≡ left = omega (arith, more, c.saturating_sub-left.ensures) in
    let now = c.send_within.new.agent in
    let same : view_of dg now.resources ≡ w = ap (λ (R : Resources). view_of dg R) s.resources in
    let first = first_text (next_within left sent w) in
    record {
      output = (
        i.output.0 ++ first,
        Appends-more _ _ _ i.output.0 first i.output.1 s.writes.whole,
        append_assoc i.output.0 first _
            ∙ ap (λ (l : List ℕ). i.output.0 ++ l) (portion_text left rest sent w fewer there now.sent (view_of dg now.resources) s.step same)
            ∙ i.output.2,
      );
      count = omega (arith, portion_length left rest sent w fewer there now.sent (view_of dg now.resources) s.step same, fewer, i.count, i.fits);
      ends = portion_ends left rest sent w fewer there now.sent (view_of dg now.resources) s.step same ∙ i.ends;
      fits = omega (arith, fewer, i.fits);
      later = omega (arith, s.writes.later, i.later);
      ready = s.ready;
      resources = s.resources ∙ i.resources;
    }

pub returns-in_err-send_within-clause-writes : goal.returns-in_err-send_within-clause-writes
returns-in_err-send_within-clause-writes g c =
    let dg = g.R.DigestRule.digest_of in
    let p = err_from_is_err_and c.from_residual.result c.from_residual.ensures.1 in
    let i = c.loop-left.invariant in
    let s = c.in_err-send_within.ensures.writes in
    let left = c.loop-left.left in
    let sent = c.loop-left.agent.sent in
    let w = view_of dg c.loop-left.agent.resources in
    let all = c.args.agent.now in
    let begun = first_then left sent w in
    let first = first_text (next_within left sent w) in
    let whole : i.output.0 ++ (first ++ begun.0) ≡ messages_text (Some c.args.limit) all.sent (view_of dg all.resources) =
    ap (λ (l : List ℕ). i.output.0 ++ l) begun.1 ∙ i.output.2 in
    rw (p.1, p.2, ← whole) (Writes-stopped (g.K.Sink.state c.args.sink.now) (g.K.Sink.state c.loop-left.sink) _ i.output.0 first begun.0 _ i.output.1 i.later s.prefix s.later s.cause)

pub returns-clause-count : goal.returns-clause-count
returns-clause-count g c =
    let s = c.in_ok-send_within.ensures in
    let left = c.loop-left.left in
    let sent = c.loop-left.agent.sent in
    let w = view_of g.R.DigestRule.digest_of c.loop-left.agent.resources in
    let none : is_some (next_within left sent w) ≡ false = sym s.found ∙ c.if-branch.false in
    omega (arith, portion_empty left sent w none, c.loop-left.invariant.count, c.loop-left.invariant.fits)

pub returns-clause-ends : goal.returns-clause-ends
returns-clause-ends g c =
    let s = c.in_ok-send_within.ensures in
    let left = c.loop-left.left in
    let sent = c.loop-left.agent.sent in
    let w = view_of g.R.DigestRule.digest_of c.loop-left.agent.resources in
    let none : is_some (next_within left sent w) ≡ false = sym s.found ∙ c.if-branch.false in
    s.step ∙ portion_stays left sent w none ∙ c.loop-left.invariant.ends

pub returns-clause-resources : goal.returns-clause-resources
returns-clause-resources g c = c.in_ok-send_within.ensures.resources ∙ c.loop-left.invariant.resources

pub returns-clause-writes : goal.returns-clause-writes
returns-clause-writes g c =
    let dg = g.R.DigestRule.digest_of in
    let i = c.loop-left.invariant in
    let s = c.in_ok-send_within.ensures in
    let left = c.loop-left.left in
    let sent = c.loop-left.agent.sent in
    let w = view_of dg c.loop-left.agent.resources in
    let all = c.args.agent.now in
    let none : is_some (next_within left sent w) ≡ false = sym s.found ∙ c.if-branch.false in
    let first = first_text (next_within left sent w) in
    let whole : i.output.0 ++ first ≡ messages_text (Some c.args.limit) all.sent (view_of dg all.resources) =
    ap (λ (l : List ℕ). i.output.0 ++ l) (portion_silent left sent w none) ∙ i.output.2 in
    record {
      whole = rw (← whole) (Appends-more _ _ _ i.output.0 first i.output.1 s.writes.whole);
      prefix = tt;
      later = omega (arith, s.writes.later, i.later);
      cause = tt;
    }
