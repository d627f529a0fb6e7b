use Rattle.std.proofs.Common.{ℕ, List}
use Rattle.fx_program.proofs.Asking.{of_node, unwanted}
use Rattle.fx_words.specs.Words.{node_name, node_of}
use Rattle.felix_host.specs.Top.{IsAsDefined}
use Rattle.felix_host.proofs.Flushed.{flushes_lead}
use Rattle.felix_host.proofs.Policing.{keeps_policy}
use Rattle.felix_host.proofs.top.felix_host.Goals as goal

pub returns-clause-as_defined : goal.returns-clause-as_defined
returns-clause-as_defined g c =
    let source = g.S.Source.state c.args.source.now in
    let before = g.K.Sink.state c.args.sink.now in
    let now = g.K.Sink.state c.run_program.new.sink in
    λ ran. of_node (λ (node : List ℕ). IsAsDefined g.R.DigestRule.digest_of node source before now c.run_program.result) (node_of c.args.words.now) (c.run_program.ensures.as_defined ran)

pub returns-clause-flushes : goal.returns-clause-flushes
returns-clause-flushes g c = flushes_lead g.R.DigestRule.digest_of (node_name c.args.words.now)

pub returns-clause-policy : goal.returns-clause-policy
returns-clause-policy g c = keeps_policy g.R.DigestRule.digest_of (node_name c.args.words.now)

pub returns-clause-only_usage : goal.returns-clause-only_usage
returns-clause-only_usage g c = λ none. unwanted (c.run_program.ensures.only_usage none)
