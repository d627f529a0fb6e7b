use Rattle.std.proofs.Common.{sym, ◌∙◌}
use Rattle.fx_store.proofs.Leaving.{turned}
use Rattle.fx_store.proofs.Touching.{is_found}
use Rattle.fx_store.proofs.store.Store.lacks.Goals as goal

pub returns : goal.returns
returns c = turned _ c.is_none.result (sym (is_found c.get.result _ c.get.ensures) ∙ c.is_none.ensures)
