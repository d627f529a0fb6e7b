use Rattle.fx_program.proofs.Asking.{asks_any}
use Rattle.fx_program.proofs.tasking.run_task.Goals as goal

-- memory was wanting before anything was done
pub returns-in-Err-clause-stopped : goal.returns-in-Err-clause-stopped
returns-in-Err-clause-stopped g c =
    let t = g.T.Task in
    let source = g.S.Source.state c.args.source.now in
    let sink = g.K.Sink.state c.args.sink.now in
    λ there early. asks_any (λ a. t.Stopped a source source sink sink) (g.T.Asked.Asking.asked c.args.words.now) (λ a. g.met.T.Task.nothing a source sink) there
