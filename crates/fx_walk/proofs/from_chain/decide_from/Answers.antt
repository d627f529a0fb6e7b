use Rattle.fx_walk.proofs.FromRuns.{decided_from}
use Rattle.fx_walk.proofs.from_chain.decide_from.Goals as goal

pub returns : goal.returns
returns c =
    decided_from c.args.tables.now c.args.packet.now c.walk_chain.ensures.ranked c.args.start _ c.nothing_seen.ensures.mark _ c.nothing_seen.ensures.reasons _ c.in-Ok.end c.in-Ok.ensures.ok _ _ c.outcome_of-outcome.ensures.verdict c.outcome_of-outcome.ensures.egress
