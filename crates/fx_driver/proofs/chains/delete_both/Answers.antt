use Rattle.fx_driver.proofs.ChainSteps.{unused_still}
use Rattle.fx_driver.proofs.chains.delete_both.Goals as goal

pub delete-requires-2-clause-unused : goal.delete-requires-2-clause-unused
delete-requires-2-clause-unused g c = unused_still c.args.tables.now c.delete.new.tables c.args.to c.args.from c.delete.ensures.gone c.requires.unused_from
