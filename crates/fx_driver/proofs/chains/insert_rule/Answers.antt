use Rattle.fx_driver.proofs.ChainSteps.{first_written}
use Rattle.fx_driver.proofs.chains.insert_rule.Goals as goal

pub returns-clause-first : goal.returns-clause-first
returns-clause-first g c = first_written c.args.tables.now c.insert_rule.new.self c.args.name _ c.in_ok-insert_rule.ensures.ok
