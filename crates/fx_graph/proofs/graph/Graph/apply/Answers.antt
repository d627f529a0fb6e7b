use Rattle.fx_graph.proofs.Bounded.{tests_of_update}
use Rattle.fx_graph.proofs.graph.Graph.apply.Goals as goal

pub returns-clause-tests : goal.returns-clause-tests
returns-clause-tests g c = λ R is.
    let it = c.in_ok-apply.ensures in
    tests_of_update g.R.DigestRule.digest_of R c.args.update.now c.args.self.now.state c.apply.new.self is (it.follows R is) _ _ it.tests
