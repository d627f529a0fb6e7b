use Rattle.fx_rules.specs.Rules.{direction_of}
use Rattle.fx_hostep.proofs.HostAgree.{hook_there, host_decided, is_host_answer}
use Rattle.fx_hostep.proofs.decision.host_decide.Goals as goal

pub decide_from-outcome-requires : goal.decide_from-outcome-requires
decide_from-outcome-requires c = hook_there c.args.tables.now.chains c.requires.hooks c.args.packet.now.inbound c.hook_name.result c.hook_name.ensures

pub returns-clause-machine : goal.returns-clause-machine
returns-clause-machine c =
    host_decided c.args.tables.now (direction_of c.args.packet.now.inbound) c.args.packet.now.packet c.hook_name.result c.hook_name.ensures _ _ _ c.decide_from-outcome.ensures c.ends_in_failsafe.result c.ends_in_failsafe.ensures _ c.reason_by.ensures

pub returns-clause-policy : goal.returns-clause-policy
returns-clause-policy c =
    is_host_answer c.args.tables.now c.args.packet.now _ _ c.requires.sides
    (host_decided c.args.tables.now (direction_of c.args.packet.now.inbound) c.args.packet.now.packet c.hook_name.result c.hook_name.ensures _ _ _ c.decide_from-outcome.ensures c.ends_in_failsafe.result c.ends_in_failsafe.ensures _ c.reason_by.ensures)
