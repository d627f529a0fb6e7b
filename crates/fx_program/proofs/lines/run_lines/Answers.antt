use Rattle.std.proofs.Common.{subst}
use Rattle.fx_lines.proofs.Cuts.{OnErr-always}
use Rattle.fx_run.specs.Ran as runs
use Rattle.fx_program.specs.Meanings.{Numbered, line_text, next, numbered}
use Rattle.fx_program.proofs.Closings.{first_state, ran_closed, stopped_closing, stopped_among}
use Rattle.fx_program.proofs.lines.run_lines.Goals as goal

pub returns-in_err-is_refused-clause-stopped : goal.returns-in_err-is_refused-clause-stopped
returns-in_err-is_refused-clause-stopped g c =
    let p = g.P.Program in
    let source = g.S.Source.state in
    let sink = g.K.Sink.state in
    let first = p.state c.args.lines.now.program in
    OnErr-always c.from_residual.result
    (stopped_among p.meaning first (source c.args.source.now) (source c.answer_lines.new.source) (sink c.args.sink.now) (sink c.answer_lines.new.sink)
    (subst (λ (s : Numbered p.State). runs.Stopped (next p.meaning) (line_text p.meaning) s (source c.args.source.now) (source c.answer_lines.new.source) (sink c.args.sink.now) (sink c.answer_lines.new.sink))
    (first_state first c.requires.first c.requires.unrefused) c.in_err-is_refused.ensures.stopped))

pub returns-in_err-close-clause-stopped : goal.returns-in_err-close-clause-stopped
returns-in_err-close-clause-stopped g c =
    let p = g.P.Program in
    let source = g.S.Source.state in
    let sink = g.K.Sink.state in
    let first = p.state c.args.lines.now.program in
    let behind = c.answer_lines.new.machine in
    let end = numbered (p.state behind.program) behind.lines behind.refused in
    OnErr-always c.from_residual-in_err-close.result
    (stopped_closing p.meaning first (source c.args.source.now) (source c.answer_lines.new.source) (sink c.args.sink.now) (sink c.answer_lines.new.sink) (sink c.close.new.sink) end
    (subst (λ (s : Numbered p.State). runs.Answered (next p.meaning) (line_text p.meaning) s (source c.args.source.now) (source c.answer_lines.new.source) (sink c.args.sink.now) (sink c.answer_lines.new.sink) end)
    (first_state first c.requires.first c.requires.unrefused) c.in_ok-is_refused.ensures.answered)
    c.in_err-close.ensures.writes.prefix)

pub returns-clause-ran : goal.returns-clause-ran
returns-clause-ran g c =
    let p = g.P.Program in
    let source = g.S.Source.state in
    let sink = g.K.Sink.state in
    let first = p.state c.args.lines.now.program in
    let behind = c.answer_lines.new.machine in
    let end = numbered (p.state behind.program) behind.lines behind.refused in
    ran_closed p.meaning first (source c.args.source.now) (source c.answer_lines.new.source) (sink c.args.sink.now) (sink c.answer_lines.new.sink) (sink c.close.new.sink) end
    (subst (λ (s : Numbered p.State). runs.Answered (next p.meaning) (line_text p.meaning) s (source c.args.source.now) (source c.answer_lines.new.source) (sink c.args.sink.now) (sink c.answer_lines.new.sink) end)
    (first_state first c.requires.first c.requires.unrefused) c.in_ok-is_refused.ensures.answered)
    _ c.in_ok-close.ensures.writes.whole c.in_ok-close.ensures.closed c.in_ok-is_refused.ensures.told
