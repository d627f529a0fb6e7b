use Rattle.std.proofs.Common.{List, ℕ, subst}
use Rattle.std.specs.Io.KnownBytes.{Appends}
use Rattle.fx_base.specs.Streams.{AppendsPrefix}
use Rattle.fx_base.proofs.Compose.{AppendsPrefix-none}
use Rattle.fx_lines.proofs.Cuts.{OnErr-always}
use Rattle.felix_replay.specs.SoakBounds.{most_ticks, most_ticks_are_within}
use Rattle.felix_replay.proofs.soaking.soak.Goals as goal

-- nothing was written, and nothing was counted to the end
pub returns-in_err-summary-clause-stopped : goal.returns-in_err-summary-clause-stopped
returns-in_err-summary-clause-stopped g c =
    let dg = g.R.DigestRule.digest_of in
    let node = c.args.node.now in
    let run = c.args.run in
    OnErr-always c.from_residual.result (record {
      ticks = most_ticks dg node run;
      output = AppendsPrefix-none (g.K.Sink.state c.args.sink.now).held _;
      bounded = most_ticks_are_within dg node run;
    })

pub returns-in_err-put_one-clause-stopped : goal.returns-in_err-put_one-clause-stopped
returns-in_err-put_one-clause-stopped g c =
    let s = c.in_ok-summary.ensures in
    let before = (g.K.Sink.state c.args.sink.now).held in
    let now = (g.K.Sink.state c.put_one.new.sink).held in
    OnErr-always c.from_residual-in_err-put_one.result (record {
      ticks = s.ticks;
      output = subst (λ (line : List ℕ). AppendsPrefix before now line) s.output c.in_err-put_one.ensures.writes.prefix;
      bounded = s.bounded;
    })

pub returns-clause-ran : goal.returns-clause-ran
returns-clause-ran g c =
    let s = c.in_ok-summary.ensures in
    let before = (g.K.Sink.state c.args.sink.now).held in
    let now = (g.K.Sink.state c.put_one.new.sink).held in
    record {
      ticks = s.ticks;
      output = subst (λ (line : List ℕ). Appends before now line) s.output c.in_ok-put_one.ensures.writes.whole;
      bounded = s.bounded;
      status = s.status;
    }
