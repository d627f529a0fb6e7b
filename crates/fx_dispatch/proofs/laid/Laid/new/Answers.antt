use Rattle.fx_dispatch.proofs.LaidLemmas.{laid_none}
use Rattle.fx_dispatch.proofs.laid.Laid.new.Goals as goal

pub returns-clause-laid : goal.returns-clause-laid
returns-clause-laid c = laid_none (record { names = c.new.result; tree = c.empty.result }) c.new.ensures c.empty.ensures
