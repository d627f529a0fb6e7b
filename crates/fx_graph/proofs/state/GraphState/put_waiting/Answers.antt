use Rattle.std.proofs.Common.{None, ◌∙◌}
use Rattle.std.specs.FinMap as map
use Rattle.fx_model.specs.SameIds.{copies_item}
use Rattle.fx_graph.proofs.Kept.{settled_waiting}
use Rattle.fx_graph.proofs.Following.{kind_of_put, other_put_apart, unserved_unready, after_put_waiting}
use Rattle.fx_graph.proofs.state.GraphState.put_waiting.Goals as goal

pub put_other-requires-clause-settled : goal.put_other-requires-clause-settled
put_other-requires-clause-settled g c = c.requires.resources.1.0.nodes.settled

pub put_other-requires-clause-apart : goal.put_other-requires-clause-apart
put_other-requires-clause-apart g c = other_put_apart g.R.DigestRule.digest_of c.requires.resources.0 c.args.self.now c.requires.resources.1.0 c.args.key.now c.args.endpoint.now (kind_of_put c.args.key.now c.args.endpoint.now c.requires.update)
    (unserved_unready g.R.DigestRule.digest_of c.requires.resources.0 c.args.self.now c.requires.resources.1.0 c.args.endpoint.now c.requires.unready) c.requires.resources.1.1

pub returns-clause-follows : goal.returns-clause-follows
returns-clause-follows g c = λ R h. after_put_waiting g.R.DigestRule.digest_of R c.args.self.now h _ (settled_waiting g.R.DigestRule.digest_of None c.put_other.new.self c.in_ok-put_other.ensures.settled _) c.args.key.now c.args.endpoint.now (kind_of_put c.args.key.now c.args.endpoint.now c.requires.update) c.requires.local c.requires.unready c.in_ok-put_other.ensures.taken
    (c.in_ok-insert.ensures.ok ∙ (λ j. map.insert (c.in_ok-put_other.ensures.beside.waiting j) (copies_item _ _ c.in_ok-clone-3.ensures.cases j) (record { iface = c.in_ok-clone.ensures.cases j; profiles = c.in_ok-clone-2.ensures.cases j })))
