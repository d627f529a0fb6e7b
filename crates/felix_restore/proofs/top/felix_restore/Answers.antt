use Rattle.std.proofs.Common.{ℕ, List}
use Rattle.fx_program.proofs.Asking.{of_node, unwanted}
use Rattle.fx_words.specs.Words.{node_of}
use Rattle.felix_restore.specs.Top.{IsAsDefined}
use Rattle.felix_restore.proofs.top.felix_restore.Goals as goal

pub returns-clause-as_defined : goal.returns-clause-as_defined
returns-clause-as_defined g c =
    let source = g.S.Source.state c.args.source.now in
    let before = g.K.Sink.state c.args.sink.now in
    let now = g.K.Sink.state c.run_program.new.sink in
    λ ran. of_node (λ (node : List ℕ). IsAsDefined g.R.DigestRule.digest_of node source before now c.run_program.result) (node_of c.args.words.now) (c.run_program.ensures.as_defined ran)

pub returns-clause-only_usage : goal.returns-clause-only_usage
returns-clause-only_usage g c = λ none. unwanted (c.run_program.ensures.only_usage none)
