use Rattle.std.proofs.Common.{None, ap, ◌∙◌}
use Rattle.std.specs.FinMap as map
use Rattle.fx_graph.proofs.Kept.{settled_waiting}
use Rattle.fx_graph.proofs.Following.{endpoint_gone_apart, after_endpoint_gone}
use Rattle.fx_graph.proofs.state.GraphState.delete_endpoint.Goals as goal

pub remove_endpoint-requires-clause-settled : goal.remove_endpoint-requires-clause-settled
remove_endpoint-requires-clause-settled g c = c.requires.resources.1.0.nodes.settled

pub remove_endpoint-requires-clause-apart : goal.remove_endpoint-requires-clause-apart
remove_endpoint-requires-clause-apart g c = endpoint_gone_apart g.R.DigestRule.digest_of c.requires.resources.0 c.args.self.now c.requires.resources.1.0 c.args.key.now c.requires.kind c.requires.resources.1.1

pub returns-clause-follows : goal.returns-clause-follows
returns-clause-follows g c = λ R h. after_endpoint_gone g.R.DigestRule.digest_of R c.args.self.now h _ (settled_waiting g.R.DigestRule.digest_of None c.remove_endpoint.new.self c.in_ok-remove_endpoint.ensures.settled _) c.args.key.now c.requires.kind c.in_ok-remove_endpoint.ensures.taken
    (c.remove.ensures.removed ∙ ap (λ w. map.remove w c.args.key.now) c.in_ok-remove_endpoint.ensures.beside.waiting)
