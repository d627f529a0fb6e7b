use Rattle.std.proofs.Common.{sym, subst}
use Rattle.fx_label_index.specs.Tested.{IsTested}
use Rattle.fx_label_index.proofs.Sums.{self_tested}
use Rattle.fx_graph.proofs.Following.{after_tier_gone}
use Rattle.fx_graph.proofs.state.GraphState.delete_tier.Goals as goal

pub drop_tier-requires : goal.drop_tier-requires
drop_tier-requires g c = c.requires.1.0.nodes.settled

pub returns-clause-follows : goal.returns-clause-follows
returns-clause-follows g c = λ R h. after_tier_gone g.R.DigestRule.digest_of R c.args.self.now h c.drop_tier.new.self c.in_ok-drop_tier.ensures.settled c.in_ok-drop_tier.ensures.beside c.args.name.now c.in_ok-drop_tier.ensures.taken

pub returns-clause-sent : goal.returns-clause-sent
returns-clause-sent g c = c.in_ok-drop_tier.ensures.beside.sent

pub returns-clause-tests : goal.returns-clause-tests
returns-clause-tests g c = λ n.
    let index = c.args.self.now.nodes.upper.joined.index in
    subst (λ b. IsTested index b n n) (sym c.in_ok-drop_tier.ensures.index) (self_tested index n)
