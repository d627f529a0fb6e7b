use Rattle.fx_driver.proofs.chains.carry_out.Goals as goal

pub returns-in-RuleLess-clause-ok : goal.returns-in-RuleLess-clause-ok
returns-in-RuleLess-clause-ok g c = rw c.in-RuleLess.is c.remove_both.ensures.gone
