use Rattle.std.proofs.Common.{sym, subst}
use Rattle.fx_label_index.specs.Tested.{IsTested}
use Rattle.fx_label_index.proofs.Sums.{self_tested}
use Rattle.fx_graph.proofs.Following.{after_tier_put}
use Rattle.fx_graph.proofs.state.GraphState.put_tier.Goals as goal

pub order_tier-requires : goal.order_tier-requires
order_tier-requires g c = c.requires.1.0.nodes.settled

pub returns-clause-follows : goal.returns-clause-follows
returns-clause-follows g c = λ R h. after_tier_put g.R.DigestRule.digest_of R c.args.self.now h c.order_tier.new.self c.in_ok-order_tier.ensures.settled c.in_ok-order_tier.ensures.beside c.args.name.now c.args.tier.now c.in_ok-order_tier.ensures.taken

pub returns-clause-sent : goal.returns-clause-sent
returns-clause-sent g c = c.in_ok-order_tier.ensures.beside.sent

pub returns-clause-tests : goal.returns-clause-tests
returns-clause-tests g c = λ n.
    let index = c.args.self.now.nodes.upper.joined.index in
    subst (λ b. IsTested index b n n) (sym c.in_ok-order_tier.ensures.index) (self_tested index n)
