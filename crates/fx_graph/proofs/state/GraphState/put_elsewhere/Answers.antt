use Rattle.std.proofs.Common.{None, ap, ◌∙◌}
use Rattle.std.specs.FinMap as map
use Rattle.fx_graph.proofs.Kept.{settled_waiting}
use Rattle.fx_graph.proofs.Following.{kind_of_put, other_put_apart, unserved_elsewhere, after_put_elsewhere}
use Rattle.fx_graph.proofs.state.GraphState.put_elsewhere.Goals as goal

pub put_other-requires-clause-settled : goal.put_other-requires-clause-settled
put_other-requires-clause-settled g c = c.requires.resources.1.0.nodes.settled

pub put_other-requires-clause-apart : goal.put_other-requires-clause-apart
put_other-requires-clause-apart g c = other_put_apart g.R.DigestRule.digest_of c.requires.resources.0 c.args.self.now c.requires.resources.1.0 c.args.key.now c.args.endpoint.now (kind_of_put c.args.key.now c.args.endpoint.now c.requires.update)
    (unserved_elsewhere g.R.DigestRule.digest_of c.requires.resources.0 c.args.self.now c.requires.resources.1.0 c.args.endpoint.now c.requires.elsewhere) c.requires.resources.1.1

pub returns-clause-follows : goal.returns-clause-follows
returns-clause-follows g c = λ R h. after_put_elsewhere g.R.DigestRule.digest_of R c.args.self.now h _ (settled_waiting g.R.DigestRule.digest_of None c.put_other.new.self c.in_ok-put_other.ensures.settled _) c.args.key.now c.args.endpoint.now (kind_of_put c.args.key.now c.args.endpoint.now c.requires.update) c.requires.elsewhere c.in_ok-put_other.ensures.taken (c.remove.ensures.removed ∙ ap (λ w. map.remove w c.args.key.now) c.in_ok-put_other.ensures.beside.waiting)
