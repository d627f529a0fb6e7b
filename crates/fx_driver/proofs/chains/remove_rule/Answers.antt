use Rattle.fx_driver.proofs.ChainSteps.{first_written}
use Rattle.fx_driver.proofs.chains.remove_rule.Goals as goal

pub returns-clause-first : goal.returns-clause-first
returns-clause-first g c = first_written c.args.tables.now c.remove_rule.new.self c.args.name _ c.remove_rule.ensures.gone
