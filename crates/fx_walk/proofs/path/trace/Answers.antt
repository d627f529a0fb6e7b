use Rattle.fx_walk.proofs.Agree.{is_policy_answer, traced_decides}
use Rattle.fx_walk.proofs.Paths.{on_err}
use Rattle.fx_walk.proofs.Whole.{traces_run, cuts_run}
use Rattle.fx_walk.proofs.path.trace.Goals as goal

pub returns-in_err-end-clause-err : goal.returns-in_err-end-clause-err
returns-in_err-end-clause-err c =
    on_err c.from_residual.result _ (cuts_run c.args.tables.now c.args.packet.now c.in_err-end.ensures.ranked c.first_chain_name.result c.first_chain_name.ensures _ c.nothing_seen.ensures.mark _ c.nothing_seen.ensures.reasons _ _ c.in_err-end.ensures.err)

pub returns-clause-machine : goal.returns-clause-machine
returns-clause-machine c =
    traces_run c.args.tables.now c.args.packet.now c.in_ok-end.ensures.ranked c.first_chain_name.result c.first_chain_name.ensures _ c.nothing_seen.ensures.mark _ c.nothing_seen.ensures.reasons _ _ c.in_ok-end.end c.in_ok-end.ensures.ok _ _ _ c.outcome_of.ensures.verdict c.outcome_of.ensures.egress c.outcome_of.ensures.ingress

pub returns-clause-policy : goal.returns-clause-policy
returns-clause-policy c =
    is_policy_answer c.args.tables.now c.args.packet.now _ _ _
    (traced_decides c.args.tables.now c.args.packet.now c.in_ok-end.ensures.ranked _ _ _ _ _
    (traces_run c.args.tables.now c.args.packet.now c.in_ok-end.ensures.ranked c.first_chain_name.result c.first_chain_name.ensures _ c.nothing_seen.ensures.mark _ c.nothing_seen.ensures.reasons _ _ c.in_ok-end.end c.in_ok-end.ensures.ok _ _ _ c.outcome_of.ensures.verdict c.outcome_of.ensures.egress c.outcome_of.ensures.ingress))
