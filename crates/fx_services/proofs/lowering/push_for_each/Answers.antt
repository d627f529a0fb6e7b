use Rattle.fx_services.proofs.RuleLists.{three_pushed}
use Rattle.fx_services.proofs.lowering.push_for_each.Goals as goal

pub returns : goal.returns
returns c =
    three_pushed c.args.rule _ _ c.args.lowered.now.items c.push_to_ports.new.lowered.items c.push_to_ports-2.new.lowered.items c.push_to_ports-3.new.lowered.items
    c.in_ok-copied.ensures c.in_ok-copied-2.ensures c.in_ok-push_to_ports.ensures c.in_ok-push_to_ports-2.ensures c.in_ok-push_to_ports-3.ensures
