use Rattle.fx_driver.proofs.ChainSteps.{first_deleted}
use Rattle.fx_driver.proofs.chains.delete.Goals as goal

pub returns-clause-first : goal.returns-clause-first
returns-clause-first g c = first_deleted c.args.tables.now c.delete_chain.new.self c.args.name c.requires.other c.delete_chain.ensures.gone
