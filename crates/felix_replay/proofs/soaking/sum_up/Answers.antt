use Rattle.std.proofs.Common.{◌-◌, ◌^◌, ap, subst, sym, ◌∙◌, min, ℕ, length, None}
use Rattle.fx_base.specs.Ticks.{IsTicked}
use Rattle.fx_base.specs.declared.counts.Counter.{Counter}
use Rattle.fx_print.specs.Texts.{soak_line}
use Rattle.fx_replay.specs.declared.tally.Tally.{Tally}
use Rattle.fx_replay.specs.Output.{State, start, flush_of}
use Rattle.felix_replay.specs.Soak.{drawn_lines, soak_end, soak_least, soak_most, flushes_along, messages_along}
use Rattle.fx_replay.specs.Tallies.{one_flush_more}
use Rattle.felix_replay.proofs.SoakLemmas.{tally-end}
use Rattle.felix_replay.proofs.soaking.sum_up.Goals as goal

pub returns : goal.returns
returns g c =
    let dg = g.R.DigestRule.digest_of in
    let node = c.args.node.now in
    let run = c.args.run in
    let drawn = c.in_ok-refused.ensures in
    let last = c.in_ok-flush_quietly.ensures in
    let replay = c.flush_quietly.new.self in
    let end = soak_end dg node run in
    let lines = drawn_lines run.seed node run.count in
    let sent = ap (λ (s : State). length (flush_of None s).messages) drawn.state in
    let tally = tally-end (flushes_along (start dg node) lines) (messages_along (start dg node) lines) (length (flush_of None end).messages) c.answer_drawn.new.replay.tally replay.tally drawn.tally (last.tally ∙ ap (λ (n : ℕ). one_flush_more c.answer_drawn.new.replay.tally (min n (2 ^ 64 - 1))) sent) in
    let counted = c.count.ensures ∙ ap (λ (t : Counter). t.ticks) last.ticks in
    record {
      ticks = c.count.result;
      output = c.in_ok-line.ensures ∙ ap (λ (t : Tally). soak_line run.seed run.count t.flushes t.messages c.count.result) tally;
      bounded = subst (λ (n : ℕ). IsTicked (soak_least dg node run) (soak_most dg node run) 0 n) (sym counted) drawn.tests;
      status = drawn.refused;
    }
