use Rattle.fx_driver.proofs.ChainSteps.{first_written}
use Rattle.fx_driver.proofs.chains.write.Goals as goal

pub returns-clause-first : goal.returns-clause-first
returns-clause-first g c = first_written c.args.tables.now c.write_chain.new.self c.args.name c.args.rules c.in_ok-write_chain.ensures.ok
