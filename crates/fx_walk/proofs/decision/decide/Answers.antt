use Rattle.fx_walk.proofs.Agree.{is_policy_answer}
use Rattle.fx_walk.proofs.Whole.{decides_run}
use Rattle.fx_walk.proofs.decision.decide.Goals as goal

pub returns-clause-machine : goal.returns-clause-machine
returns-clause-machine c =
    decides_run c.args.tables.now c.args.packet.now c.walk_chain.ensures.ranked c.first_chain_name.result c.first_chain_name.ensures _ c.nothing_seen.ensures.mark _ c.nothing_seen.ensures.reasons _ c.in-Ok.ensures.ok _ _ _ c.outcome_of.ensures.verdict c.outcome_of.ensures.egress c.outcome_of.ensures.ingress

pub returns-clause-policy : goal.returns-clause-policy
returns-clause-policy c =
    is_policy_answer c.args.tables.now c.args.packet.now _ _ _
    (decides_run c.args.tables.now c.args.packet.now c.walk_chain.ensures.ranked c.first_chain_name.result c.first_chain_name.ensures _ c.nothing_seen.ensures.mark _ c.nothing_seen.ensures.reasons _ c.in-Ok.ensures.ok _ _ _ c.outcome_of.ensures.verdict c.outcome_of.ensures.egress c.outcome_of.ensures.ingress)
