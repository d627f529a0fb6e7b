use Rattle.fx_walk.proofs.Agree.{tables_agree}
use Rattle.fx_walk.proofs.laws.tables_agree.Goals as goal

pub returns : goal.returns
returns c = tables_agree
